-- What the answer of `open_all` over any outside says of a script of sessions.
use Rattle.std.proofs.Common.{◌≡◌, ℕ, Bool, ◌<◌, ◌≤◌, ◌^◌, ◌⊎◌, inl, inr, Option, Some, Ok, Err, List, [], length, refl, sym, subst, arith}
use Rattle.std.proofs.lemmas.List.{append-nil}
use Rattle.std.specs.Io.KnownBytes.{Consumes, IsAtEnd}
use Rattle.react_core.specs.declared.outside.Event.{Event}
use Rattle.react_core.specs.declared.reactor.Counter.{Counter}
use Rattle.react_core.specs.Core.{Core}
use Rattle.react_core.specs.Outer.{Outer, All, Keeps, keeps-same}
use Rattle.react_core.specs.Told.{Rose, told}
use Rattle.bus_script.specs.Script.{Script, script}
use Rattle.bus_script.specs.declared.reading.ScriptForm.TheVariants as forms
use Rattle.bus_script.specs.Printed.{printed, session_lines}
use Rattle.bus_session.specs.declared.ended.Ended.{Ended}
use Rattle.bus_session.specs.declared.session.Session.{Session}
use Rattle.bus_printed.specs.Names.{Names}
use Rattle.bus_peers.specs.Faults.{EndedsCounted}
use Rattle.bus_peers.specs.Headline.{Opened, RefusedWith}
use Rattle.bus_peers.specs.Exhausted.{NoneLeft}
use Rattle.react_core.specs.declared.reactor.Counter.{Counter}
use Rattle.react_core.specs.declared.reactor.Counter.TheVariants as counter
use Rattle.bus_peers.specs.declared.open.OpenError.{OpenError}
use Rattle.bus_peers.specs.declared.open.OpenError.TheVariants as open_err
use Rattle.bus_open.specs.Run.{Opens, OpensTo, OpeningFails, OpeningScriptFails, KeepsOutside, most_reports, status_of}
use Rattle.bus_open.proofs.Following.{reads}

-- Of a run without events the sessions' lines are printed alone.
pub no_events : (endeds : List Ended) → printed endeds [] ≡ session_lines endeds
no_events endeds = append-nil (session_lines endeds)

pub named_alone : (endeds : List Ended) → Names (printed endeds []) endeds [] → Names (session_lines endeds) endeds []
named_alone endeds named = subst (λ (text : List ℕ). Names text endeds []) (no_events endeds) named

-- The numbers of the rounds and of the timers do not run out where they begin at 0.
never_exhausted : (c : Counter) (sessions : List Session) (rounds : ℕ) (old : Core) (r : List Event) (ample : Bool) →
    NoneLeft c sessions rounds ample old r → old.ticker ≡ 0 → old.made ≡ 0 → rounds < 2 ^ 64 →
    length sessions < 2 ^ 32 → ⊥
never_exhausted counter.Round sessions rounds old r ample out begins made fits few =
    let last = out.last in
    let left = out.left in
    absurd (omega (arith, last, left, begins, fits))
never_exhausted counter.Timer sessions rounds old r ample out begins made fits few =
    let needed = out.needed in
    absurd (omega (arith, needed, made, few))

-- these two are among the statuses of opening
pub among : (n : ℕ) → (n ≡ 5) ⊎ (n ≡ 6) → (n ≡ 0) ⊎ (n ≡ 1) ⊎ (n ≡ 4) ⊎ (n ≡ 5) ⊎ (n ≡ 6)
among n (inl five) = inr (inr (inr (inl five)))
among n (inr six) = inr (inr (inr (inr six)))

-- the sessions of a script that is taken apart
pub few_parts : (s : Script) (sessions : List Session) → length s.sessions < 2 ^ 32 → sessions ≡ s.sessions →
    length sessions < 2 ^ 32
few_parts s sessions few same = rw same few

module _ {Origin : Type 0} where
  -- an outside that isn't touched is kept
  pub kept : (a : Outer Origin) → KeepsOutside a a
  kept a = keeps-same (All most_reports) a

  pub kept_with : (room : ℕ) (a b : Outer Origin) → room ≡ most_reports → Keeps (All room) a b → KeepsOutside a b
  kept_with room a b same keeps = subst (λ (n : ℕ). Keeps (All n) a b) same keeps

  pub opens_to : (before after : Outer Origin) (sessions : List Session) (rounds : ℕ) (old new : Core)
      (endeds : List Ended) → ((r : List Event) × (after.events ≡ told before.events r)
      × Opened sessions rounds old new endeds r × Unit {0}) → after.poller_faults ≡ before.poller_faults →
      EndedsCounted 0 endeds before after → OpensTo before after sessions rounds endeds
  opens_to before after sessions rounds old new endeds opened calm counted = record {
    events = opened.0;
    gained = opened.1;
    pieces = opened.2.pieces;
    headline = opened.2.headline;
    faultless = calm;
    counted = counted;
  }

  pub opens : (old new : Option (List ℕ)) (before after : Outer Origin) (text : List ℕ) (s : Script)
      (sessions : List Session) (rounds : ℕ) (endeds : List Ended) → Consumes old new text →
      (length text ≤ 16777216 → IsAtEnd new) → script forms.Open text ≡ Ok s → sessions ≡ s.sessions →
      Some rounds ≡ s.rounds → OpensTo before after sessions rounds endeds → Opens old new before after endeds
  opens old new before after text s sessions rounds endeds taken whole is same given opened = record {
    read = s;
    reads = reads forms.Open old new text s taken whole is;
    rounds = rounds;
    given = sym given;
    opens = subst (λ (l : List Session). OpensTo before after l rounds endeds) same opened;
  }

  pub script_fails : (old new : Option (List ℕ)) (before after : Outer Origin) (text : List ℕ) (s : Script)
      (sessions : List Session) (rounds : ℕ) → Consumes old new text →
      (length text ≤ 16777216 → IsAtEnd new) → script forms.Open text ≡ Ok s → sessions ≡ s.sessions →
      Some rounds ≡ s.rounds → OpeningFails before after sessions rounds → OpeningScriptFails old new before after
  script_fails old new before after text s sessions rounds taken whole is same given fails = record {
    read = s;
    reads = reads forms.Open old new text s taken whole is;
    rounds = rounds;
    given = sym given;
    fails = subst (λ (l : List Session). OpeningFails before after l rounds) same fails;
  }

  -- what a refusal over an outside says, whose reactor begins at 0
  module _ (before after : Outer Origin) (sessions : List Session) (rounds : ℕ) (old new : Core) where
    abbrev pub Refuses : OpenError → Type 0
    Refuses e = (r : List Event) × (after.events ≡ told before.events r) × Unit {0}
        × RefusedWith {T = List Ended} sessions rounds before.ample old new (Err e) r

    pub two_of : (e : OpenError) → Refuses e → old.ticker ≡ 0 → old.made ≡ 0 → rounds < 2 ^ 64 →
        length sessions < 2 ^ 32 → (status_of e ≡ 5) ⊎ (status_of e ≡ 6)
    two_of open_err.OutOfMemory refused begins made fits few = inl refl
    two_of open_err.Poller refused begins made fits few = inr refl
    two_of (open_err.Exhausted c value) refused begins made fits few =
        absurd (never_exhausted c sessions rounds old refused.0 before.ample refused.3.2 begins made fits few)

    pub opening_fails : (e : OpenError) → Refuses e → e ≡ open_err.Poller →
        Rose before.poller_faults after.poller_faults → OpeningFails before after sessions rounds
    opening_fails open_err.OutOfMemory refused is rose = absurd (cc)
    opening_fails open_err.Poller refused is rose = record {
      events = refused.0;
      gained = refused.1;
      rose = rose;
      cut = refused.3.1;
    }
    opening_fails (open_err.Exhausted c value) refused is rose = absurd (cc)
