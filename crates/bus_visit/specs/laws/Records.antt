-- What holds of one list of events after another, and of the calls of one wire.
use Rattle.std.proofs.Common.{◌≡◌, ◌≢◌, ℕ, ◌+◌, true, false, List, [], ◌∷◌, ◌++◌, Option, refl, ◌∙◌, ap, arith, Some}
use Rattle.std.specs.Option.{option_and_then}
use Rattle.std.proofs.lemmas.List.Elements.{filter-append}
use Rattle.std.proofs.lemmas.List.Sums.{sum_by-append}
use Rattle.std.proofs.lemmas.Bool.Decides.{nat_tests}
use Rattle.react_core.specs.declared.outside.Event.{Event}
use Rattle.react_core.specs.declared.outside.Event.TheVariants as event
use Rattle.bus_session.specs.Parts.{is_of, part}
use Rattle.bus_session.specs.Alone.{Course, after, goes_through}
use Rattle.bus_visit.specs.Registry.{noted, Held, held_after, registry}
use Rattle.bus_visit.specs.Asking.{begins, after_stop, Asking, asking_next, asks}
use Rattle.react_core.specs.declared.outside.RecvAnswer.TheVariants as recv_answer
use Rattle.react_core.specs.declared.outside.SendAnswer.TheVariants as send_answer
use Rattle.react_core.specs.declared.reactor.Dir.{Dir}
use Rattle.react_core.specs.declared.reactor.Dir.TheVariants.{Read, Write}
use Rattle.bus_visit.specs.Calls.{IsCall, AreCalls, IsAnswered, AllAnswered, IsNotReady, StopsAt}
use Rattle.bus_session.specs.Counts.{waits_in, notices_in}
use Rattle.bus_visit.specs.Counts.{numbered_in}

-- ---- one list of events after another

pub part-append : (w : ℕ) (a b : List Event) → part w (a ++ b) ≡ part w a ++ part w b
part-append w a b = filter-append (is_of w) a b

pub registry-append : (held : List Held) (a b : List Event) → registry held (a ++ b) ≡ registry (registry held a) b
registry-append held [] b = refl
registry-append held (e ∷ a) b = registry-append (held_after held e) a b

pub asks-append : (t : Option Asking) (a b : List Event) → asks t (a ++ b) ≡ asks (asks t a) b
asks-append t [] b = refl
asks-append t (e ∷ a) b = asks-append (asking_next t e) a b

pub goes-append : (t : Option Course) (a b : List Event) → goes_through t (a ++ b) ≡ goes_through (goes_through t a) b
goes-append t [] b = refl
goes-append t (e ∷ a) b = goes-append (option_and_then (λ reached. after reached e) t) a b

pub waits_in-append : (a b : List Event) → waits_in (a ++ b) ≡ waits_in a + waits_in b
waits_in-append a b = sum_by-append _ a b

pub notices_in-append : (a b : List Event) → notices_in (a ++ b) ≡ notices_in a + notices_in b
notices_in-append a b = sum_by-append _ a b

pub numbered_in-append : (a b : List Event) → numbered_in (a ++ b) ≡ numbered_in a + numbered_in b
numbered_in-append a b = sum_by-append _ a b

-- events that use no number have no wait and no notice
pub unnumbered-waits : (events : List Event) → numbered_in events ≡ 0 → waits_in events ≡ 0
unnumbered-waits [] none = refl
unnumbered-waits (event.Wait timeout answer ∷ events) none =
    absurd (omega (arith, none, numbered_in-append (event.Wait timeout answer ∷ []) events))
unnumbered-waits (event.Notify ok ∷ events) none =
    absurd (omega (arith, none, numbered_in-append (event.Notify ok ∷ []) events))
unnumbered-waits (e ∷ events) none = unnumbered-waits events none

pub unnumbered-notices : (events : List Event) → numbered_in events ≡ 0 → notices_in events ≡ 0
unnumbered-notices [] none = refl
unnumbered-notices (event.Wait timeout answer ∷ events) none =
    absurd (omega (arith, none, numbered_in-append (event.Wait timeout answer ∷ []) events))
unnumbered-notices (event.Notify ok ∷ events) none =
    absurd (omega (arith, none, numbered_in-append (event.Notify ok ∷ []) events))
unnumbered-notices (e ∷ events) none = unnumbered-notices events none

pub AreCalls-append : (wire : ℕ) (a b : List Event) → AreCalls wire a → AreCalls wire b → AreCalls wire (a ++ b)
AreCalls-append wire [] b h k = k
AreCalls-append wire (e ∷ a) b (h, hs) k = (h, AreCalls-append wire a b hs k)

-- ---- the calls of one wire

call-is_of : (wire : ℕ) (e : Event) → IsCall wire e → is_of wire e ≡ true
call-is_of wire (event.Recv on size answer) same = grind (arith, nat_tests, same)
call-is_of wire (event.Send on offered answer) same = grind (arith, nat_tests, same)
call-is_of wire e h = absurd h

call-other : (wire w : ℕ) (e : Event) → IsCall wire e → w ≢ wire → is_of w e ≡ false
call-other wire w (event.Recv on size answer) same other = grind (arith, nat_tests, same, other)
call-other wire w (event.Send on offered answer) same other = grind (arith, nat_tests, same, other)
call-other wire w e h other = absurd h

pub part-own : (wire : ℕ) (calls : List Event) → AreCalls wire calls → part wire calls ≡ calls
part-own wire [] h = refl
part-own wire (e ∷ calls) (h, hs) = rw (call-is_of wire e h, part-own wire calls hs) refl

pub part-other : (wire w : ℕ) (calls : List Event) → AreCalls wire calls → w ≢ wire → part w calls ≡ []
part-other wire w [] h other = refl
part-other wire w (e ∷ calls) (h, hs) other = rw (call-other wire w e h other, part-other wire w calls hs other) refl

pub calls-unnumbered : (wire : ℕ) (calls : List Event) → AreCalls wire calls → numbered_in calls ≡ 0
calls-unnumbered wire [] h = refl
calls-unnumbered wire (event.Recv on size answer ∷ calls) (h, hs) = calls-unnumbered wire calls hs
calls-unnumbered wire (event.Send on offered answer ∷ calls) (h, hs) = calls-unnumbered wire calls hs
calls-unnumbered wire (e ∷ calls) (h, hs) = absurd h

-- ---- answered calls

pub answered-append : (a b : List Event) → AllAnswered a → AllAnswered b → AllAnswered (a ++ b)
answered-append [] b h k = k
answered-append (e ∷ a) b (h, hs) k = (h, answered-append a b hs k)

answer-asks : (h : Held) (e : Event) → IsAnswered e → asking_next (Some (begins h)) e ≡ Some (begins h)
answer-asks h (event.Recv wire asked (recv_answer.Got bytes)) is = refl
answer-asks h (event.Recv wire asked recv_answer.End) is = refl
answer-asks h (event.Recv wire asked recv_answer.Failed) is = refl
answer-asks h (event.Send wire offered (send_answer.Took n)) is = refl
answer-asks h (event.Send wire offered send_answer.Failed) is = refl
answer-asks h e is = absurd is

pub answered-asks : (h : Held) (calls : List Event) → AllAnswered calls → asks (Some (begins h)) calls ≡ Some (begins h)
answered-asks h [] is = refl
answered-asks h (e ∷ calls) (is, more) = ap (λ a. asks a calls) (answer-asks h e is) ∙ answered-asks h calls more

answer-shows : (held : List Held) (e : Event) → IsAnswered e → held_after held e ≡ held
answer-shows held (event.Recv wire asked (recv_answer.Got bytes)) is = refl
answer-shows held (event.Recv wire asked recv_answer.End) is = refl
answer-shows held (event.Recv wire asked recv_answer.Failed) is = refl
answer-shows held (event.Send wire offered (send_answer.Took n)) is = refl
answer-shows held (event.Send wire offered send_answer.Failed) is = refl
answer-shows held e is = absurd is

pub answered-shows : (held : List Held) (calls : List Event) → AllAnswered calls → registry held calls ≡ held
answered-shows held [] is = refl
answered-shows held (e ∷ calls) (is, more) =
    ap (λ x. registry x calls) (answer-shows held e is) ∙ answered-shows held calls more

pub answered-unnumbered : (calls : List Event) → AllAnswered calls → numbered_in calls ≡ 0
answered-unnumbered [] is = refl
answered-unnumbered (event.Recv wire asked (recv_answer.Got bytes) ∷ calls) (is, more) = answered-unnumbered calls more
answered-unnumbered (event.Recv wire asked recv_answer.End ∷ calls) (is, more) = answered-unnumbered calls more
answered-unnumbered (event.Recv wire asked recv_answer.Failed ∷ calls) (is, more) = answered-unnumbered calls more
answered-unnumbered (event.Send wire offered (send_answer.Took n) ∷ calls) (is, more) = answered-unnumbered calls more
answered-unnumbered (event.Send wire offered send_answer.Failed ∷ calls) (is, more) = answered-unnumbered calls more
answered-unnumbered (e ∷ calls) (is, more) = absurd is

-- ---- and a NotReady behind them

stop-asks : (wire : ℕ) (dir : Dir) (h : Held) (e : Event) → IsNotReady wire dir e →
    asks (Some (begins h)) (e ∷ []) ≡ Some (after_stop dir (begins h))
stop-asks wire Read h (event.Recv w asked recv_answer.NotReady) is = refl
stop-asks wire Write h (event.Send w offered send_answer.NotReady) is = refl
stop-asks wire dir h e is = absurd is

stop-unnumbered : (wire : ℕ) (dir : Dir) (e : Event) → IsNotReady wire dir e → numbered_in (e ∷ []) ≡ 0
stop-unnumbered wire Read (event.Recv w asked recv_answer.NotReady) is = refl
stop-unnumbered wire Write (event.Send w offered send_answer.NotReady) is = refl
stop-unnumbered wire dir e is = absurd is

stop-shows : (wire : ℕ) (dir : Dir) (held : List Held) (e : Event) → IsNotReady wire dir e →
    registry held (e ∷ []) ≡ noted wire dir held
stop-shows wire Read held (event.Recv w asked recv_answer.NotReady) is = ap (λ x. noted x Read held) is
stop-shows wire Write held (event.Send w offered send_answer.NotReady) is = ap (λ x. noted x Write held) is
stop-shows wire dir held e is = absurd is

module _ (wire : ℕ) (dir : Dir) (calls : List Event) (s : StopsAt wire dir calls) where
  pub stops-asks : (h : Held) → asks (Some (begins h)) calls ≡ Some (after_stop dir (begins h))
  stops-asks h =
      ap (asks (Some (begins h))) s.whole ∙ (asks-append (Some (begins h)) s.answered (s.last ∷ [])
      ∙ (ap (λ a. asks a (s.last ∷ [])) (answered-asks h s.answered s.all) ∙ stop-asks wire dir h s.last s.stop))

  pub stops-shows : (held : List Held) → registry held calls ≡ noted wire dir held
  stops-shows held =
      ap (registry held) s.whole ∙ (registry-append held s.answered (s.last ∷ [])
      ∙ (ap (λ x. registry x (s.last ∷ [])) (answered-shows held s.answered s.all)
      ∙ stop-shows wire dir held s.last s.stop))

  pub stops-unnumbered : numbered_in calls ≡ 0
  stops-unnumbered =
      ap numbered_in s.whole ∙ (numbered_in-append s.answered (s.last ∷ [])
      ∙ rw (answered-unnumbered s.answered s.all, stop-unnumbered wire dir s.last s.stop) refl)
