-- One Dial after another, and what each of them counts.
use Rattle.std.proofs.Common.{◌≡◌, ◌≤◌, ℕ, Bool, true, false, ◌==◌, ◌&&◌, if◌then◌else◌, List, [], ◌∷◌, ◌++◌, Option}
use Rattle.std.proofs.Common.{Some, None, Result, Ok, Err, IfOk, refl, sym, ◌∙◌, ap, subst, arith}
use Rattle.std.proofs.Common.{◌<◌, ◌+◌, map, take, drop, filter, get_or, length, add-one, drop-cons}
use Rattle.std.proofs.lemmas.Bool.{eq-eqb}
use Rattle.std.proofs.lemmas.List.{take_more, take_all, map-append}
use Rattle.std.proofs.lemmas.Option.{none-some}
use Rattle.std.proofs.lemmas.Slice.Eq.{bytes_eq-Decides}
use Rattle.std.specs.Option.{option_and_then}
use Rattle.std.specs.Str.{bytes_eq, is_utf8, IsUtf8, trim}
use Rattle.std.proofs.lemmas.Str.{IsUtf8-from_is_utf8}
use Rattle.react_core.specs.declared.outside.Event.{Event}
use Rattle.react_core.specs.declared.outside.Event.TheVariants as event
use Rattle.react_core.specs.declared.outside.Peer.{Peer}
use Rattle.react_core.specs.declared.outside.Peer.TheVariants as peer
use Rattle.react_core.specs.declared.outside.Question.{Question}
use Rattle.react_core.specs.declared.outside.Question.TheVariants as question
use Rattle.react_core.specs.declared.outside.DialAnswer.{DialAnswer}
use Rattle.react_core.specs.declared.outside.DialAnswer.TheVariants as dial_answer
use Rattle.react_core.specs.declared.outside.Fault.{Fault}
use Rattle.react_core.specs.declared.outside.Fault.TheVariants as fault
use Rattle.react_core.specs.declared.outside.Opened.{Opened}
use Rattle.react_core.specs.Outer.{Outer, Keeps, dial-in-visit}
use Rattle.react_core.specs.Outer as part
use Rattle.react_core.specs.Told.{told, told-told, told-nothing, dial_told, Counted, Rose}
use Rattle.bus_address.specs.declared.tcp.TcpTransportFamily.{TcpTransportFamily}
use Rattle.bus_address.specs.declared.unix.UnixSocket.{UnixSocket}
use Rattle.bus_address.specs.declared.unix.UnixSocket.TheVariants as socket
use Rattle.bus_address.specs.declared.error.AddressKind.{AddressKind}
use Rattle.bus_address.specs.declared.transport.Transport.{Transport}
use Rattle.bus_visit.specs.laws.Faults.{rose-within}
use Rattle.bus_address.specs.Address.{AddressParts}
use Rattle.bus_address.specs.Parts.{TcpParts, ProgramParts}
use Rattle.bus_address.specs.Reading.{address}
use Rattle.bus_opening.specs.declared.config.ClientConfig.{ClientConfig}
use Rattle.bus_session.specs.declared.ended.AddressReason.TheVariants as reason
use Rattle.bus_session.specs.declared.session.Party.{Party}
use Rattle.bus_session.specs.declared.session.Party.TheVariants as party
use Rattle.bus_session.specs.Dialling.{begins, expects, guid_in, to_given, to_read, given, printed}
use Rattle.bus_session.specs.declared.ended.Ending.{Ending}
use Rattle.bus_session.specs.declared.ended.Ending.TheVariants as ending
use Rattle.bus_session.specs.Dialling.{is_text, to_socket, to_host, to_program, to_peers, over_tcp, fits, the_peers, a_peer}
use Rattle.std.specs.List.{list_all}
use Rattle.bus_session.specs.Dialling.{Dialling, Purpose, asks, the_wire, answered, dialled as dialled_by}
use Rattle.bus_session.specs.Dialling.{asks_if, fails, is_same, is_same_peer, is_same_option, are_same}
use Rattle.bus_visit.specs.declared.dialling.Dialled.{Dialled}
use Rattle.bus_visit.specs.declared.dialling.Dialled.TheVariants as dialled
use Rattle.bus_visit.specs.declared.dialling.Reached.{Reached}
use Rattle.bus_visit.specs.Dialled.{Answered, dials_of, dials_through, as_dialling, DialsTo, DialTold, ReachTold, OpenedAs}
use Rattle.bus_visit.specs.Faults.{DialCounted}

-- ---- a question is itself

bytes-self : (a : List ℕ) → bytes_eq a a ≡ true
bytes-self a = (bytes_eq-Decides a a).1 refl

number-self : (n : ℕ) → (n == n) ≡ true
number-self n = eq-eqb n n refl

both : (a b : Bool) → a ≡ true → b ≡ true → (a && b) ≡ true
both a b p q = ap (λ x. x && b) p ∙ q

peer-self : (p : Peer) → is_same_peer p p ≡ true
peer-self (peer.V4 ip port) = both _ _ (number-self ip) (number-self port)
peer-self (peer.V6 ip port) = both _ _ (number-self ip) (number-self port)

option-self : (o : Option (List ℕ)) → is_same_option o o ≡ true
option-self None = refl
option-self (Some a) = bytes-self a

args-self : (l : List (List ℕ)) → are_same l l ≡ true
args-self [] = refl
args-self (a ∷ l) = both _ _ (bytes-self a) (args-self l)

question-self : (q : Question) → is_same q q ≡ true
question-self (question.Unix a) = bytes-self a
question-self (question.Abstract a) = bytes-self a
question-self (question.Lookup a n) = both _ _ (bytes-self a) (number-self n)
question-self (question.Tcp p) = peer-self p
question-self (question.Nonce a) = bytes-self a
question-self (question.Start a o l) = both _ _ (bytes-self a) (both _ _ (option-self o) (args-self l))
question-self question.Ibus = refl
question-self question.Accept = refl

-- ---- one after another

dials-append : (wire : ℕ) (a b : List Answered) → dials_of wire (a ++ b) ≡ dials_of wire a ++ dials_of wire b
dials-append wire [] b = refl
dials-append wire (x ∷ a) b = ap (λ l. event.Dial wire x.question x.answer ∷ l) (dials-append wire a b)

through_at : (o : Option Dialling) (mid : Dialling) (a b : List Answered) →
    ((to : Dialling) → dials_through to a ≡ Some mid → dials_through to (a ++ b) ≡ dials_through mid b) →
    option_and_then (λ to. dials_through to a) o ≡ Some mid →
    option_and_then (λ to. dials_through to (a ++ b)) o ≡ dials_through mid b
through_at None mid a b go is = absurd (none-some mid is)
through_at (Some to) mid a b go is = go to is

through-then : (from mid : Dialling) (a b : List Answered) → dials_through from a ≡ Some mid →
    dials_through from (a ++ b) ≡ dials_through mid b
through-then from mid [] b is = ap (option_and_then (λ d. dials_through d b)) is
through-then from mid (x ∷ a) b is =
    through_at (dialled_by from x.question x.answer) mid a b (λ to comes. through-then to mid a b comes) is

gained-then : (wire : ℕ) (r0 r1 r2 : Option (List Event)) (a b : List Answered) → r1 ≡ told r0 (dials_of wire a) →
    r2 ≡ told r1 (dials_of wire b) → r2 ≡ told r0 (dials_of wire (a ++ b))
gained-then wire r0 r1 r2 a b one two =
    two ∙ (ap (λ r. told r (dials_of wire b)) one
    ∙ (told-told r0 (dials_of wire a) (dials_of wire b) ∙ ap (told r0) (sym (dials-append wire a b))))

pub to-then : (wire : ℕ) (from mid to : Dialling) (r0 r1 r2 : Option (List Event)) (a b : List Answered) →
    DialsTo wire from mid r0 r1 a → DialsTo wire mid to r1 r2 b → DialsTo wire from to r0 r2 (a ++ b)
to-then wire from mid to r0 r1 r2 a b one two = record {
  gained = gained-then wire r0 r1 r2 a b one.gained two.gained;
  through = through-then from mid a b one.through ∙ two.through;
}

-- the Dials so far, and then those of the rest
pub told-then : {E : Type 0} (wire : ℕ) (from mid : Dialling) (result : Result Dialled E)
    (r0 r1 r2 : Option (List Event)) (a : List Answered) → DialsTo wire from mid r0 r1 a →
    DialTold wire mid result r1 r2 → DialTold wire from result r0 r2
told-then wire from mid (Ok d) r0 r1 r2 a one (b, two) =
    (a ++ b, to-then wire from mid (as_dialling d) r0 r1 r2 a b one two)
told-then wire from mid (Err e) r0 r1 r2 a one (b, two) = (a ++ b, gained-then wire r0 r1 r2 a b one.gained two)

-- nothing is asked
pub told-none : (E : Type 0) (wire : ℕ) (d : Dialled) (r : Option (List Event)) →
    DialTold {E = E} wire (as_dialling d) (Ok d) r r
told-none E wire d r = ([], record { gained = told-nothing r; through = refl })

pub refused-none : {E : Type 0} (wire : ℕ) (from : Dialling) (e : E) (r : Option (List Event)) →
    DialTold wire from (Err e) r r
refused-none wire from e r = ([], told-nothing r)

-- ---- one question

-- this question is asked, and the answer comes to this
pub one-dial : (wire : ℕ) (asked : Question) (purpose : Purpose) (answer : DialAnswer) (to : Dialling)
    (r0 r1 : Option (List Event)) → answered purpose answer ≡ Some to →
    r1 ≡ told r0 (event.Dial wire asked answer ∷ []) →
    DialsTo wire (asks asked purpose) to r0 r1 (record { question = asked; answer = answer } ∷ [])
one-dial wire asked purpose answer to r0 r1 comes gained = record {
  gained = gained;
  through = ap (λ b. option_and_then (λ d. Some d) (if b then answered purpose answer else None)) (question-self asked)
      ∙ ap (option_and_then (λ d. Some d)) comes;
}

-- the same, as what a dialling told
pub one-told : (E : Type 0) (wire : ℕ) (asked : Question) (purpose : Purpose) (answer : DialAnswer) (d : Dialled)
    (r0 r1 : Option (List Event)) → answered purpose answer ≡ Some (as_dialling d) →
    r1 ≡ told r0 (event.Dial wire asked answer ∷ []) → DialTold {E = E} wire (asks asked purpose) (Ok d) r0 r1
one-told E wire asked purpose answer d r0 r1 comes gained = (
  record { question = asked; answer = answer } ∷ [],
  one-dial wire asked purpose answer (as_dialling d) r0 r1 comes gained,
)

-- this question is asked, and the rest follows
pub then-told : {E : Type 0} (wire : ℕ) (asked : Question) (purpose : Purpose) (answer : DialAnswer) (mid : Dialling)
    (result : Result Dialled E) (r0 r1 r2 : Option (List Event)) → answered purpose answer ≡ Some mid →
    r1 ≡ told r0 (event.Dial wire asked answer ∷ []) → DialTold wire mid result r1 r2 →
    DialTold wire (asks asked purpose) result r0 r2
then-told wire asked purpose answer mid result r0 r1 r2 comes gained rest =
    told-then wire (asks asked purpose) mid result r0 r1 r2 (record { question = asked; answer = answer } ∷ [])
    (one-dial wire asked purpose answer mid r0 r1 comes gained) rest

-- a call that opens a wire which is none of TCP
pub opened-told : {E : Type 0} (wire : ℕ) (asked : Question) (answer : Result Opened Fault) (result : Result Dialled E)
    (r0 r1 : Option (List Event)) → OpenedAs answer result → r1 ≡ told r0 (dial_told wire asked answer) →
    DialTold wire (asks asked the_wire) result r0 r1
opened-told wire asked (Ok opened) (Ok d) r0 r1 is gained = (
  record { question = asked; answer = dial_answer.Opened opened.passes } ∷ [],
  one-dial wire asked the_wire (dial_answer.Opened opened.passes) (as_dialling d) r0 r1
      (ap (λ x. Some (as_dialling x)) (sym is)) gained,
)
opened-told wire asked (Err fault.Failed) (Ok d) r0 r1 is gained = (
  record { question = asked; answer = dial_answer.Failed } ∷ [],
  one-dial wire asked the_wire dial_answer.Failed (as_dialling d) r0 r1 (ap (λ x. Some (as_dialling x)) (sym is))
      gained,
)
opened-told wire asked (Err fault.OutOfMemory) (Err e) r0 r1 is gained = ([], gained)
opened-told wire asked (Ok opened) (Err e) r0 r1 is gained = absurd is
opened-told wire asked (Err fault.Failed) (Err e) r0 r1 is gained = absurd is
opened-told wire asked (Err fault.OutOfMemory) (Ok d) r0 r1 is gained = absurd is

-- ---- the counts

counted-rises : {T : Type 0} (answer : Result T Fault) (a b : ℕ) → Counted answer a b → a ≤ b
counted-rises (Ok v) a b is = omega (arith, is)
counted-rises (Err fault.Failed) a b is = omega (arith, is)
counted-rises (Err fault.OutOfMemory) a b is = omega (arith, is)

module _ {Origin : Type 0} where
  -- a call of the dialling, in a visit
  pub dial-keeps : {T : Type 0} (wire : ℕ) (answer : Result T Fault) (a b : Outer Origin) →
      Keeps (part.Dial wire) a b → Counted answer (a.dial_faults wire) (b.dial_faults wire) →
      Keeps (part.Visit wire) a b
  dial-keeps wire answer a b k counted = dial-in-visit wire a b k (counted-rises answer _ _ counted)

  pub opened-counted : {E : Type 0} (wire : ℕ) (answer : Result Opened Fault) (result : Result Dialled E)
      (a b : Outer Origin) → OpenedAs answer result → Counted answer (a.dial_faults wire) (b.dial_faults wire) →
      IfOk result (λ d. DialCounted wire d a b)
  opened-counted wire (Ok opened) (Ok d) a b is counted =
      let C : Dialled → Type 0 = λ x. DialCounted wire x a b in subst C (sym is) tt
  opened-counted wire (Err fault.Failed) (Ok d) a b is counted =
      let C : Dialled → Type 0 = λ x. DialCounted wire x a b in subst C (sym is) (refl, counted)
  opened-counted wire (Err fault.OutOfMemory) (Err e) a b is counted = tt
  opened-counted wire (Ok opened) (Err e) a b is counted = absurd is
  opened-counted wire (Err fault.Failed) (Err e) a b is counted = absurd is
  opened-counted wire (Err fault.OutOfMemory) (Ok d) a b is counted = absurd is

-- ---- text

-- a list is UTF-8, or not
pub text-refused : (bytes : List ℕ) → (IsUtf8 bytes → ⊥) → is_utf8 bytes ≡ false
text-refused bytes none =
    elim (is_utf8 bytes) as (λ b. is_utf8 bytes ≡ b → is_utf8 bytes ≡ false) [
      | true ↦ λ is. absurd (none (IsUtf8-from_is_utf8 bytes is))
      | false ↦ λ is. is
    ] refl

-- a dialling that stands so
pub told-at : {E : Type 0} (wire : ℕ) (from from' : Dialling) (result : Result Dialled E) (r0 r1 : Option (List Event)) →
    from ≡ from' → DialTold wire from' result r0 r1 → DialTold wire from result r0 r1
told-at wire from from' result r0 r1 is told_ =
    let T : Dialling → Type 0 = λ d. DialTold wire d result r0 r1 in subst T (sym is) told_

-- names that are no UTF-8 are not asked for
pub unnamed-told : (E : Type 0) (wire : ℕ) (named : Bool) (asked : Question) (purpose : Purpose)
    (r : Option (List Event)) → named ≡ false →
    DialTold {E = E} wire (asks_if named asked purpose) (Ok (dialled.Failed ending.Unsupported)) r r
unnamed-told E wire named asked purpose r is =
    told-at {E = E} wire (asks_if named asked purpose) (fails ending.Unsupported)
    (Ok (dialled.Failed ending.Unsupported)) r r (ap (λ b. asks_if b asked purpose) is)
    (told-none E wire (dialled.Failed ending.Unsupported) r)

-- names that are UTF-8 are asked for
pub named-told : {E : Type 0} (wire : ℕ) (named : Bool) (asked : Question) (purpose : Purpose)
    (result : Result Dialled E) (r0 r1 : Option (List Event)) → named ≡ true →
    DialTold wire (asks asked purpose) result r0 r1 → DialTold wire (asks_if named asked purpose) result r0 r1
named-told wire named asked purpose result r0 r1 is told_ =
    told-at wire _ (asks asked purpose) result r0 r1 (ap (λ b. asks_if b asked purpose) is) told_

-- ---- the loops

-- one more is copied
pub copied-on : {V : Type 0} (f : V → List ℕ) (all : List V) (i : ℕ) (d : V) (items new : List (List ℕ)) →
    i < length all → items ≡ map f (take i all) → new ≡ items ++ f (get_or all i d) ∷ [] →
    new ≡ map f (take (i + 1) all)
copied-on f all i d items new below was extend =
    rw (extend, was, take_more all i d below) (sym (map-append f (take i all) (get_or all i d ∷ [])))

pub copied-all : {V : Type 0} (f : V → List ℕ) (all : List V) (i : ℕ) (items : List (List ℕ)) → length all ≤ i →
    items ≡ map f (take i all) → items ≡ map f all
copied-all f all i items past was = was ∙ ap (map f) (take_all i all past)

-- the peers from this one on
peers-at : (p : Peer → Bool) (peers : List Peer) (i : ℕ) (d : Peer) → i < length peers →
    filter p (drop i peers) ≡ (if p (get_or peers i d) then get_or peers i d ∷ filter p (drop (i + 1) peers)
    else filter p (drop (i + 1) peers))
peers-at p peers i d below = rw (add-one, drop-cons peers i d below) refl

-- ---- a socket

pub file-asks : (at : UnixSocket) (path bytes text : List ℕ) → at ≡ socket.File path → bytes ≡ path →
    is_utf8 bytes ≡ true → text ≡ bytes → to_socket at ≡ asks (question.Unix text) the_wire
file-asks at path bytes text is same utf8 read =
    ap to_socket is
    ∙ (ap (λ p. asks_if (is_utf8 p) (question.Unix p) the_wire) (sym same)
    ∙ (ap (λ b. asks_if b (question.Unix bytes) the_wire) utf8
    ∙ ap (λ p. asks (question.Unix p) the_wire) (sym read)))

pub name-asks : (at : UnixSocket) (name bytes : List ℕ) → at ≡ socket.Abstract name → bytes ≡ name →
    to_socket at ≡ asks (question.Abstract bytes) the_wire
name-asks at name bytes is same = ap to_socket is ∙ ap (λ n. asks (question.Abstract n) the_wire) (sym same)

-- ---- a host

pub host-asks : (t : TcpParts) (file : Option (List ℕ)) (host : List ℕ) (port : ℕ) → file ≡ t.nonce_file →
    host ≡ t.host → port ≡ t.port → is_text file ≡ true →
    to_host t ≡ asks (question.Lookup host port) (the_peers t.family t.nonce_file)
host-asks t file host port file-is host-is port-is named =
    let q : Question = question.Lookup t.host t.port in
    let p : Purpose = the_peers t.family t.nonce_file in
    ap (λ f. asks_if (is_text f) q p) (sym file-is)
    ∙ (ap (λ b. asks_if b q p) named
    ∙ (ap (λ h. asks (question.Lookup h t.port) p) (sym host-is)
    ∙ ap (λ n. asks (question.Lookup host n) p) (sym port-is)))

-- ---- its peers

module _ (wire : ℕ) (family : Option TcpTransportFamily) (file : Option (List ℕ)) (peers : List Peer) where
  -- the peers from this one on are asked
  abbrev pub from-peer : Ending → ℕ → Dialling
  from-peer none i = to_peers none file (filter (fits family) (drop i peers))

  peer-asks : (none : Ending) (i : ℕ) (d : Peer) → i < length peers → fits family (get_or peers i d) ≡ true →
      from-peer none i
      ≡ asks (question.Tcp (get_or peers i d)) (a_peer (filter (fits family) (drop (i + 1) peers)) file)
  peer-asks none i d below fit =
      ap (to_peers none file)
      (peers-at (fits family) peers i d below
      ∙ ap (λ b. if b then get_or peers i d ∷ filter (fits family) (drop (i + 1) peers)
      else filter (fits family) (drop (i + 1) peers)) fit)

  -- a peer was asked after others
  peer-dialled : (from to : Dialling) (none : Ending) (i : ℕ) (d p : Peer) (answer : DialAnswer)
      (r0 r1 r2 : Option (List Event)) → i < length peers → p ≡ get_or peers i d → fits family p ≡ true →
      answered (a_peer (filter (fits family) (drop (i + 1) peers)) file) answer ≡ Some to →
      (dials : List Answered) × DialsTo wire from (from-peer none i) r0 r1 dials →
      r2 ≡ told r1 (event.Dial wire (question.Tcp p) answer ∷ []) →
      (dials : List Answered) × DialsTo wire from to r0 r2 dials
  peer-dialled from to none i d p answer r0 r1 r2 below is fit comes (dials, so-far) gained =
      let left : List Peer = filter (fits family) (drop (i + 1) peers) in
      let D : Dialling → Type 0 = λ x. DialsTo wire from x r0 r1 dials in
      let fit' : fits family (get_or peers i d) ≡ true = ap (fits family) (sym is) ∙ fit in
      let asked : from-peer none i ≡ asks (question.Tcp p) (a_peer left file) =
      peer-asks none i d below fit' ∙ ap (λ x. asks (question.Tcp x) (a_peer left file)) (sym is) in (
        dials ++ record { question = question.Tcp p; answer = answer } ∷ [],
        to-then wire from (asks (question.Tcp p) (a_peer left file)) to r0 r1 r2 dials
            (record { question = question.Tcp p; answer = answer } ∷ []) (subst D asked so-far)
            (one-dial wire (question.Tcp p) (a_peer left file) answer to r1 r2 comes gained),
      )

  pub peer-failed : (from : Dialling) (none : Ending) (i : ℕ) (d p : Peer) (r0 r1 r2 : Option (List Event)) →
      i < length peers → p ≡ get_or peers i d → fits family p ≡ true →
      (dials : List Answered) × DialsTo wire from (from-peer none i) r0 r1 dials →
      r2 ≡ told r1 (event.Dial wire (question.Tcp p) dial_answer.Failed ∷ []) →
      (dials : List Answered) × DialsTo wire from (from-peer ending.Connection (i + 1)) r0 r2 dials
  peer-failed from none i d p r0 r1 r2 below is fit so-far gained =
      peer-dialled from (from-peer ending.Connection (i + 1)) none i d p dial_answer.Failed r0 r1 r2 below is fit refl
      so-far gained

  pub peer-opened : {E : Type 0} (from : Dialling) (none : Ending) (i : ℕ) (d p : Peer) (passes : Bool)
      (result : Result Dialled E) (r0 r1 r2 r3 : Option (List Event)) → i < length peers → p ≡ get_or peers i d →
      fits family p ≡ true → (dials : List Answered) × DialsTo wire from (from-peer none i) r0 r1 dials →
      r2 ≡ told r1 (event.Dial wire (question.Tcp p) (dial_answer.Opened passes) ∷ []) →
      DialTold wire (over_tcp file passes) result r2 r3 → DialTold wire from result r0 r3
  peer-opened from none i d p passes result r0 r1 r2 r3 below is fit so-far gained rest =
      let one = peer-dialled from (over_tcp file passes) none i d p (dial_answer.Opened passes) r0 r1 r2 below is fit refl
      so-far gained in
      told-then wire from (over_tcp file passes) result r0 r2 r3 one.0 one.1 rest

-- ---- a program

all-mapped : {V : Type 0} (f : V → List ℕ) (l : List V) → list_all is_utf8 (map f l) ≡ list_all (λ v. is_utf8 (f v)) l
all-mapped f [] = refl
all-mapped f (x ∷ l) = ap (λ b. is_utf8 (f x) && b) (all-mapped f l)

module _ {V : Type 0} (f : V → List ℕ) (p : ProgramParts) (path : List ℕ) (arg0 : Option (List ℕ)) (args : List V)
    (path-is : path ≡ p.path) (arg0-is : arg0 ≡ p.arg0) (args-is : map f args ≡ p.args)
    (path-text : is_utf8 path ≡ true) (arg0-text : is_text arg0 ≡ true) where
  named-by : (b : Bool) → list_all (λ v. is_utf8 (f v)) args ≡ b →
      to_program p ≡ asks_if b (question.Start p.path p.arg0 p.args) the_wire
  named-by b is =
      let q : Question = question.Start p.path p.arg0 p.args in
      ap (λ x. asks_if (is_utf8 x && (is_text p.arg0 && list_all is_utf8 p.args)) q the_wire) (sym path-is)
      ∙ (ap (λ x. asks_if (x && (is_text p.arg0 && list_all is_utf8 p.args)) q the_wire) path-text
      ∙ (ap (λ x. asks_if (is_text x && list_all is_utf8 p.args) q the_wire) (sym arg0-is)
      ∙ (ap (λ x. asks_if (x && list_all is_utf8 p.args) q the_wire) arg0-text
      ∙ (ap (λ x. asks_if (list_all is_utf8 x) q the_wire) (sym args-is)
      ∙ ap (λ x. asks_if x q the_wire) (all-mapped f args ∙ is)))))

  pub program-unnamed : list_all (λ v. is_utf8 (f v)) args ≡ false → to_program p ≡ fails ending.Unsupported
  program-unnamed is = named-by false is

  pub program-asks : list_all (λ v. is_utf8 (f v)) args ≡ true →
      to_program p ≡ asks (question.Start path arg0 (map f args)) the_wire
  program-asks is =
      named-by true is
      ∙ (ap (λ x. asks (question.Start x p.arg0 p.args) the_wire) (sym path-is)
      ∙ (ap (λ x. asks (question.Start path x p.args) the_wire) (sym arg0-is)
      ∙ ap (λ x. asks (question.Start path arg0 x) the_wire) (sym args-is)))

-- ---- what ibus printed

module _ (success : Bool) (said bytes text trimmed : List ℕ) (ended : success ≡ true) (bytes-is : bytes ≡ said)
    (utf8 : is_utf8 bytes ≡ true) (text-is : text ≡ bytes) (trimmed-is : trimmed ≡ trim text) where
  printed-so : printed success said ≡ given (address trimmed)
  printed-so =
      ap (printed success) (sym bytes-is)
      ∙ (ap (λ b. if b && is_utf8 bytes then given (address (trim bytes)) else fails (ending.Address reason.IbusFailed)) ended
      ∙ (ap (λ b. if b then given (address (trim bytes)) else fails (ending.Address reason.IbusFailed)) utf8
      ∙ (ap (λ b. given (address (trim b))) (sym text-is) ∙ ap (λ b. given (address b)) (sym trimmed-is))))

  pub printed-given : (a : AddressParts) → address trimmed ≡ Ok a → printed success said ≡ to_given a.transport
  printed-given a is = printed-so ∙ ap given is

  pub printed-refused : (refusal : AddressKind) → address trimmed ≡ Err refusal →
      printed success said ≡ fails (ending.Address reason.IbusFailed)
  printed-refused refusal is = printed-so ∙ ap given is

-- ---- a party

-- a dialling that stands so, with the GUID that its address names
pub reach-at : {E : Type 0} (wire : ℕ) (from from' : Dialling) (result : Result Reached E)
    (r0 r1 : Option (List Event)) → from ≡ from' → ReachTold wire from' result r0 r1 → ReachTold wire from result r0 r1
reach-at wire from from' result r0 r1 is told_ =
    let T : Dialling → Type 0 = λ d. ReachTold wire d result r0 r1 in subst T (sym is) told_

pub client-begins : (p : Party) (text read : List ℕ) (config : ClientConfig) → p ≡ party.Client text config →
    read ≡ text → begins p ≡ to_read (address read)
client-begins p text read config is same = ap begins is ∙ ap (λ t. to_read (address t)) (sym same)

pub client-expects : (p : Party) (text read : List ℕ) (config : ClientConfig) → p ≡ party.Client text config →
    read ≡ text → guid_in (address read) ≡ expects p
client-expects p text read config is same = ap (λ t. guid_in (address t)) same ∙ sym (ap expects is)

pub expected-at : {E : Type 0} (result : Result Reached E) (a b : Option (List ℕ)) → a ≡ b →
    IfOk result (λ r. r.expected ≡ a) → IfOk result (λ r. r.expected ≡ b)
expected-at (Ok r) a b is h = h ∙ is
expected-at (Err e) a b is h = h

-- ---- a host and its peers

pub host-dialled : {E : Type 0} (wire : ℕ) (t : TcpParts) (file text : Option (List ℕ)) (host : List ℕ) (port : ℕ)
    (family : Option TcpTransportFamily) (found peers : List Peer) (result : Result Dialled E)
    (r0 r1 r2 : Option (List Event)) → file ≡ t.nonce_file → host ≡ t.host → port ≡ t.port → family ≡ t.family →
    is_text file ≡ true → text ≡ file → peers ≡ found →
    r1 ≡ told r0 (event.Dial wire (question.Lookup host port) (dial_answer.Found found) ∷ []) →
    DialTold wire (to_peers (ending.Address reason.NoAddress) text (filter (fits family) peers)) result r1 r2 →
    DialTold wire (to_host t) result r0 r2
host-dialled wire t file text host port family found peers result r0 r1 r2 file-is host-is port-is family-is named
    text-is peers-is gained rest =
    let none : Ending = ending.Address reason.NoAddress in
    let mid : Dialling = to_peers none t.nonce_file (filter (fits t.family) found) in
    let mid-is : mid ≡ to_peers none text (filter (fits family) peers) =
    ap (λ f. to_peers none f (filter (fits t.family) found)) (sym file-is)
    ∙ (ap (λ f. to_peers none f (filter (fits t.family) found)) (sym text-is)
    ∙ (ap (λ f. to_peers none text (filter (fits f) found)) (sym family-is)
    ∙ ap (λ p. to_peers none text (filter (fits family) p)) (sym peers-is))) in
    told-at wire (to_host t) (asks (question.Lookup host port) (the_peers t.family t.nonce_file)) result r0 r2
    (host-asks t file host port file-is host-is port-is named)
    (then-told wire (question.Lookup host port) (the_peers t.family t.nonce_file) (dial_answer.Found found) mid result r0 r1
    r2 refl gained (told-at wire mid (to_peers none text (filter (fits family) peers)) result r1 r2 mid-is rest))

pub program-args : {path text : List ℕ} {arg0 name : Option (List ℕ)} {copied args : List (List ℕ)} → text ≡ path →
    name ≡ arg0 → copied ≡ args →
    asks (question.Start path arg0 args) the_wire ≡ asks (question.Start text name copied) the_wire
program-args {path} {text} {arg0} {name} {copied} {args} path-is name-is args-is =
    ap (λ x. asks (question.Start x arg0 args) the_wire) (sym path-is)
    ∙ (ap (λ x. asks (question.Start text x args) the_wire) (sym name-is)
    ∙ ap (λ x. asks (question.Start text name x) the_wire) (sym args-is))

pub given-transport : {from : Dialling} {a b : Transport} → from ≡ to_given a → b ≡ a → from ≡ to_given b
given-transport from-is same = from-is ∙ ap to_given (sym same)

-- an answer that was no want of memory, whatever else the result might be
pub opened-ok : (E F : Type 0) (answer : Result Opened Fault) (d : Dialled) → OpenedAs {E = E} answer (Ok d) →
    OpenedAs {E = F} answer (Ok d)
opened-ok E F (Ok opened) d is = is
opened-ok E F (Err fault.Failed) d is = is
opened-ok E F (Err fault.OutOfMemory) d is = absurd is

-- a peer could not be reached, after other Dials
pub failed-counted : {Origin : Type 0} (wire : ℕ) (a b c : Outer Origin) → Keeps (part.Visit wire) a b →
    Rose (b.dial_faults wire) (c.dial_faults wire) → Rose (a.dial_faults wire) (c.dial_faults wire)
failed-counted wire a b c k rose = rose-within _ _ _ _ k.dials.1 (omega arith) rose
