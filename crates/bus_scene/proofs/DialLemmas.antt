-- What a scene answers to dialling, and what that does to a play and to the counts of faults.
use Rattle.std.proofs.Common.{◌≡◌, ◌≢◌, ℕ, Bool, true, false, eq-eqb, List, [], ◌∷◌, ◌++◌, length, map, Option, Some}
use Rattle.std.proofs.Common.{None, Result, Ok, Err, refl, sym, ap, ◌∙◌}
use Rattle.std.proofs.lemmas.List.{append-nil}
use Rattle.std.proofs.lemmas.Bool.{both_ways}
use Rattle.react_core.specs.Outer.{Keeps}
use Rattle.react_core.specs.Outer as part
use Rattle.react_core.specs.Told.{Counted, dial_told, lookup_told, nonce_told, output_told}
use Rattle.react_core.specs.declared.outside.Event.{Event}
use Rattle.react_core.specs.declared.outside.Event.TheVariants as event
use Rattle.react_core.specs.declared.outside.Question.{Question}
use Rattle.react_core.specs.declared.outside.Question.TheVariants as question
use Rattle.react_core.specs.declared.outside.DialAnswer.{DialAnswer}
use Rattle.react_core.specs.declared.outside.DialAnswer.TheVariants as dial_answer
use Rattle.react_core.specs.declared.outside.Fault.{Fault}
use Rattle.react_core.specs.declared.outside.Fault.TheVariants as fault
use Rattle.react_core.specs.declared.outside.Opened.{Opened}
use Rattle.react_core.specs.declared.outside.Output.{Output}
use Rattle.react_core.specs.declared.outside.Peer.{Peer}
use Rattle.react_core.specs.declared.outside.Peer.TheVariants as peer
use Rattle.react_core.specs.declared.outside.Rooms.{Rooms}
use Rattle.bus_scene.specs.declared.queues.Answers.{Answers}
use Rattle.bus_scene.specs.Queues.{queue_at, next_answer, without_next}
use Rattle.bus_scene.specs.Plays.{Play, outer_of, counted, is_dial_fault, faults_of_dials, dial_given, asks_for_wire}
use Rattle.bus_scene.specs.Plays.{peer_eq, peers_eq, dial_eq}
use Rattle.bus_scene.specs.Cursors.{left, script_of, rest_of, Plays, passes_in, peers_in, nonce_in, output_in}
use Rattle.bus_scene.proofs.PlayLemmas.{plays_on, only_if-true, bool_eq-refl, bytes_eq-refl}
use Rattle.bus_scene.proofs.FaultLemmas.{count_same, count_rose, poller_same, wires_same, other_wire, counted_rose}
use Rattle.bus_scene.proofs.FaultLemmas.{all_counted, moment_same, keeps_none}

-- ---- the answer that is given

peer_eq-refl : (p : Peer) → peer_eq p p ≡ true
peer_eq-refl (peer.V4 ip port) = rw (eq-eqb ip ip refl) (eq-eqb port port refl)
peer_eq-refl (peer.V6 ip port) = rw (eq-eqb ip ip refl) (eq-eqb port port refl)

peers_eq-refl : (ps : List Peer) → peers_eq ps ps ≡ true
peers_eq-refl [] = refl
peers_eq-refl (p ∷ ps) = rw (peer_eq-refl p) (peers_eq-refl ps)

dial_eq-refl : (a : DialAnswer) → dial_eq a a ≡ true
dial_eq-refl (dial_answer.Opened passes) = bool_eq-refl passes
dial_eq-refl (dial_answer.Found peers) = peers_eq-refl peers
dial_eq-refl (dial_answer.Nonce bytes) = bytes_eq-refl bytes
dial_eq-refl (dial_answer.Output success text) = rw (bool_eq-refl success) (bytes_eq-refl text)
dial_eq-refl dial_answer.Failed = refl

abbrev opened : Option Bool → DialAnswer
opened (Some passes) = dial_answer.Opened passes
opened None = dial_answer.Failed

-- a question for a connection is answered by one that opened, or by a fault
dial_opened : (asked : Question) (a : Option DialAnswer) → asks_for_wire asked ≡ true →
    dial_given asked a ≡ opened (passes_in a)
dial_opened asked None is = refl
dial_opened (question.Unix path) (Some (dial_answer.Opened passes)) is = refl
dial_opened (question.Unix path) (Some (dial_answer.Found peers)) is = refl
dial_opened (question.Unix path) (Some (dial_answer.Nonce bytes)) is = refl
dial_opened (question.Unix path) (Some (dial_answer.Output success text)) is = refl
dial_opened (question.Unix path) (Some dial_answer.Failed) is = refl
dial_opened (question.Abstract name) (Some (dial_answer.Opened passes)) is = refl
dial_opened (question.Abstract name) (Some (dial_answer.Found peers)) is = refl
dial_opened (question.Abstract name) (Some (dial_answer.Nonce bytes)) is = refl
dial_opened (question.Abstract name) (Some (dial_answer.Output success text)) is = refl
dial_opened (question.Abstract name) (Some dial_answer.Failed) is = refl
dial_opened (question.Lookup host port) (Some (dial_answer.Opened passes)) is = absurd (both_ways false refl is)
dial_opened (question.Lookup host port) (Some (dial_answer.Found peers)) is = absurd (both_ways false refl is)
dial_opened (question.Lookup host port) (Some (dial_answer.Nonce bytes)) is = absurd (both_ways false refl is)
dial_opened (question.Lookup host port) (Some (dial_answer.Output success text)) is = absurd (both_ways false refl is)
dial_opened (question.Lookup host port) (Some dial_answer.Failed) is = absurd (both_ways false refl is)
dial_opened (question.Tcp peer) (Some (dial_answer.Opened passes)) is = refl
dial_opened (question.Tcp peer) (Some (dial_answer.Found peers)) is = refl
dial_opened (question.Tcp peer) (Some (dial_answer.Nonce bytes)) is = refl
dial_opened (question.Tcp peer) (Some (dial_answer.Output success text)) is = refl
dial_opened (question.Tcp peer) (Some dial_answer.Failed) is = refl
dial_opened (question.Nonce path) (Some (dial_answer.Opened passes)) is = absurd (both_ways false refl is)
dial_opened (question.Nonce path) (Some (dial_answer.Found peers)) is = absurd (both_ways false refl is)
dial_opened (question.Nonce path) (Some (dial_answer.Nonce bytes)) is = absurd (both_ways false refl is)
dial_opened (question.Nonce path) (Some (dial_answer.Output success text)) is = absurd (both_ways false refl is)
dial_opened (question.Nonce path) (Some dial_answer.Failed) is = absurd (both_ways false refl is)
dial_opened (question.Start program arg0 args) (Some (dial_answer.Opened passes)) is = refl
dial_opened (question.Start program arg0 args) (Some (dial_answer.Found peers)) is = refl
dial_opened (question.Start program arg0 args) (Some (dial_answer.Nonce bytes)) is = refl
dial_opened (question.Start program arg0 args) (Some (dial_answer.Output success text)) is = refl
dial_opened (question.Start program arg0 args) (Some dial_answer.Failed) is = refl
dial_opened question.Ibus (Some (dial_answer.Opened passes)) is = absurd (both_ways false refl is)
dial_opened question.Ibus (Some (dial_answer.Found peers)) is = absurd (both_ways false refl is)
dial_opened question.Ibus (Some (dial_answer.Nonce bytes)) is = absurd (both_ways false refl is)
dial_opened question.Ibus (Some (dial_answer.Output success text)) is = absurd (both_ways false refl is)
dial_opened question.Ibus (Some dial_answer.Failed) is = absurd (both_ways false refl is)
dial_opened question.Accept (Some (dial_answer.Opened passes)) is = refl
dial_opened question.Accept (Some (dial_answer.Found peers)) is = refl
dial_opened question.Accept (Some (dial_answer.Nonce bytes)) is = refl
dial_opened question.Accept (Some (dial_answer.Output success text)) is = refl
dial_opened question.Accept (Some dial_answer.Failed) is = refl

pub opened_given : (asked : Question) (a : Option DialAnswer) (passes : Bool) → asks_for_wire asked ≡ true →
    passes_in a ≡ Some passes → dial_given asked a ≡ dial_answer.Opened passes
opened_given asked a passes asks is = dial_opened asked a asks ∙ ap opened is

pub unopened_given : (asked : Question) (a : Option DialAnswer) → asks_for_wire asked ≡ true → passes_in a ≡ None →
    dial_given asked a ≡ dial_answer.Failed
unopened_given asked a asks is = dial_opened asked a asks ∙ ap opened is

-- the same of the other questions
abbrev found : Option (List Peer) → DialAnswer
found (Some peers) = dial_answer.Found peers
found None = dial_answer.Failed

dial_found : (host : List ℕ) (port : ℕ) (a : Option DialAnswer) →
    dial_given (question.Lookup host port) a ≡ found (peers_in a)
dial_found host port None = refl
dial_found host port (Some (dial_answer.Opened passes)) = refl
dial_found host port (Some (dial_answer.Found peers)) = refl
dial_found host port (Some (dial_answer.Nonce bytes)) = refl
dial_found host port (Some (dial_answer.Output success text)) = refl
dial_found host port (Some dial_answer.Failed) = refl

pub found_given : (host : List ℕ) (port : ℕ) (a : Option DialAnswer) (peers : List Peer) → peers_in a ≡ Some peers →
    dial_given (question.Lookup host port) a ≡ dial_answer.Found peers
found_given host port a peers is = dial_found host port a ∙ ap found is

pub unfound_given : (host : List ℕ) (port : ℕ) (a : Option DialAnswer) → peers_in a ≡ None →
    dial_given (question.Lookup host port) a ≡ dial_answer.Failed
unfound_given host port a is = dial_found host port a ∙ ap found is

abbrev nonce : Option (List ℕ) → DialAnswer
nonce (Some bytes) = dial_answer.Nonce bytes
nonce None = dial_answer.Failed

dial_nonce : (path : List ℕ) (a : Option DialAnswer) → dial_given (question.Nonce path) a ≡ nonce (nonce_in a)
dial_nonce path None = refl
dial_nonce path (Some (dial_answer.Opened passes)) = refl
dial_nonce path (Some (dial_answer.Found peers)) = refl
dial_nonce path (Some (dial_answer.Nonce bytes)) = refl
dial_nonce path (Some (dial_answer.Output success text)) = refl
dial_nonce path (Some dial_answer.Failed) = refl

pub nonce_given : (path : List ℕ) (a : Option DialAnswer) (bytes : List ℕ) → nonce_in a ≡ Some bytes →
    dial_given (question.Nonce path) a ≡ dial_answer.Nonce bytes
nonce_given path a bytes is = dial_nonce path a ∙ ap nonce is

pub unread_given : (path : List ℕ) (a : Option DialAnswer) → nonce_in a ≡ None →
    dial_given (question.Nonce path) a ≡ dial_answer.Failed
unread_given path a is = dial_nonce path a ∙ ap nonce is

abbrev output : Option (Bool × List ℕ) → DialAnswer
output (Some (success, text)) = dial_answer.Output success text
output None = dial_answer.Failed

dial_output : (a : Option DialAnswer) → dial_given question.Ibus a ≡ output (output_in a)
dial_output None = refl
dial_output (Some (dial_answer.Opened passes)) = refl
dial_output (Some (dial_answer.Found peers)) = refl
dial_output (Some (dial_answer.Nonce bytes)) = refl
dial_output (Some (dial_answer.Output success text)) = refl
dial_output (Some dial_answer.Failed) = refl

pub output_given : (a : Option DialAnswer) (success : Bool) (text : List ℕ) → output_in a ≡ Some (success, text) →
    dial_given question.Ibus a ≡ dial_answer.Output success text
output_given a success text is = dial_output a ∙ ap output is

pub unprinted_given : (a : Option DialAnswer) → output_in a ≡ None → dial_given question.Ibus a ≡ dial_answer.Failed
unprinted_given a is = dial_output a ∙ ap output is

-- ---- a play goes on

pub plays_dial : {rooms : Rooms} (a a' : Answers) (told told' : List Event) (keys : List (Option ℕ)) (last wire : ℕ)
    (asked : Question) (answer : DialAnswer) → Plays rooms a told keys last →
    dial_given asked (next_answer (queue_at (map left a.dials.items) wire)) ≡ answer →
    rest_of a' ≡ record (rest_of a) { dials = without_next (map left a.dials.items) wire } →
    script_of a' ≡ script_of a → length a'.dials.items ≡ length a.dials.items →
    told' ≡ told ++ event.Dial wire asked answer ∷ [] → Plays rooms a' told' keys last
plays_dial a a' told told' keys last wire asked answer p given rest all lengths now =
    let next : Option DialAnswer = next_answer (queue_at (map left a.dials.items) wire) in
    let same : dial_eq (dial_given asked next) answer ≡ true = rw given (dial_eq-refl answer) in
    rw now (plays_on a a' told keys keys last (event.Dial wire asked answer) p
    (only_if-true (dial_eq (dial_given asked next) answer)
    (record (rest_of a) { dials = without_next (map left a.dials.items) wire }) same ∙ ap Some (sym rest))
    all p.sources (p.sessions ∙ sym lengths))

-- ---- what contracts see of a scene, after a call

dial_other : (w wire : ℕ) (asked : Question) (a : DialAnswer) → w ≢ wire →
    is_dial_fault w (event.Dial wire asked a) ≡ false
dial_other w wire asked (dial_answer.Opened passes) other = refl
dial_other w wire asked (dial_answer.Found peers) other = refl
dial_other w wire asked (dial_answer.Nonce bytes) other = refl
dial_other w wire asked (dial_answer.Output success text) other = refl
dial_other w wire asked dial_answer.Failed other = other_wire w wire other

keeps_event : (before after : Play) (wire : ℕ) (asked : Question) (a : DialAnswer) → after.script ≡ before.script →
    after.rooms ≡ before.rooms → after.told ≡ before.told ++ event.Dial wire asked a ∷ [] →
    Keeps (part.Dial wire) (outer_of before) (outer_of after)
keeps_event before after wire asked a script rooms now =
    record {
      origin = script;
      moment = moment_same before.told after.told (event.Dial wire asked a) now refl;
      poller = ap counted (poller_same before.told after.told (event.Dial wire asked a) now refl);
      wires = all_counted _ _ (wires_same before.told after.told (event.Dial wire asked a) now (λ w. refl));
      dials = λ w other. ap counted (count_same (is_dial_fault w) before.told after.told (event.Dial wire asked a) now
          (dial_other w wire asked a other));
      rooms = ap Some rooms;
      doors = refl;
      ample = refl;
    }

-- What a call tells by its result: the answer that it has, a fault, or nothing.
pub record TellsBy {T : Type 0} (answer : T → DialAnswer) (events : ℕ → Question → Result T Fault → List Event) : Type 0
  where
    pub quiet : (v : T) (w wire : ℕ) (asked : Question) → is_dial_fault w (event.Dial wire asked (answer v)) ≡ false
    pub done : (wire : ℕ) (asked : Question) (v : T) → events wire asked (Ok v) ≡ event.Dial wire asked (answer v) ∷ []
    pub failed : (wire : ℕ) (asked : Question) →
        events wire asked (Err fault.Failed) ≡ event.Dial wire asked dial_answer.Failed ∷ []
    pub lacked : (wire : ℕ) (asked : Question) → events wire asked (Err fault.OutOfMemory) ≡ []

-- the call failed exactly where its count rose
by_cause : {T : Type 0} (answer : T → DialAnswer) (events : ℕ → Question → Result T Fault → List Event) →
    TellsBy answer events → (told told' : List Event) (wire : ℕ) (asked : Question) (r : Result T Fault) →
    told' ≡ told ++ events wire asked r →
    Counted r (counted (faults_of_dials told wire)) (counted (faults_of_dials told' wire))
by_cause answer events way told told' wire asked (Ok v) now =
    ap counted (count_same (is_dial_fault wire) told told' (event.Dial wire asked (answer v))
    (now ∙ ap (λ es. told ++ es) (way.done wire asked v)) (way.quiet v wire wire asked))
by_cause answer events way told told' wire asked (Err fault.Failed) now =
    counted_rose (faults_of_dials told wire) (faults_of_dials told' wire)
    (count_rose (is_dial_fault wire) told told' (event.Dial wire asked dial_answer.Failed)
    (now ∙ ap (λ es. told ++ es) (way.failed wire asked)) (eq-eqb wire wire refl))
by_cause answer events way told told' wire asked (Err fault.OutOfMemory) now =
    ap (λ t. counted (faults_of_dials t wire)) (now ∙ ap (λ es. told ++ es) (way.lacked wire asked) ∙ append-nil told)

by_keeps : {T : Type 0} (answer : T → DialAnswer) (events : ℕ → Question → Result T Fault → List Event) →
    TellsBy answer events → (before after : Play) (wire : ℕ) (asked : Question) (r : Result T Fault) →
    after.script ≡ before.script → after.rooms ≡ before.rooms → after.told ≡ before.told ++ events wire asked r →
    Keeps (part.Dial wire) (outer_of before) (outer_of after)
by_keeps answer events way before after wire asked (Ok v) script rooms now =
    keeps_event before after wire asked (answer v) script rooms
    (now ∙ ap (λ es. before.told ++ es) (way.done wire asked v))
by_keeps answer events way before after wire asked (Err fault.Failed) script rooms now =
    keeps_event before after wire asked dial_answer.Failed script rooms
    (now ∙ ap (λ es. before.told ++ es) (way.failed wire asked))
by_keeps answer events way before after wire asked (Err fault.OutOfMemory) script rooms now =
    keeps_none (part.Dial wire) before after script rooms
    (now ∙ ap (λ es. before.told ++ es) (way.lacked wire asked) ∙ append-nil before.told)

dial_by : TellsBy (λ (o : Opened). dial_answer.Opened o.passes) dial_told
dial_by = record {
  quiet = λ v w wire asked. refl;
  done = λ wire asked v. refl;
  failed = λ wire asked. refl;
  lacked = λ wire asked. refl;
}

pub dial_cause : (told told' : List Event) (wire : ℕ) (asked : Question) (r : Result Opened Fault) →
    told' ≡ told ++ dial_told wire asked r →
    Counted r (counted (faults_of_dials told wire)) (counted (faults_of_dials told' wire))
dial_cause told told' wire asked r now = by_cause (λ (o : Opened). dial_answer.Opened o.passes) dial_told dial_by told
    told' wire asked r now

pub keeps_dial : (before after : Play) (wire : ℕ) (asked : Question) (r : Result Opened Fault) →
    after.script ≡ before.script → after.rooms ≡ before.rooms →
    after.told ≡ before.told ++ dial_told wire asked r → Keeps (part.Dial wire) (outer_of before) (outer_of after)
keeps_dial before after wire asked r script rooms now =
    by_keeps (λ (o : Opened). dial_answer.Opened o.passes) dial_told dial_by before after wire asked r script rooms now

lookup_by : TellsBy dial_answer.Found lookup_told
lookup_by = record {
  quiet = λ v w wire asked. refl;
  done = λ wire asked v. refl;
  failed = λ wire asked. refl;
  lacked = λ wire asked. refl;
}

pub lookup_cause : (told told' : List Event) (wire : ℕ) (asked : Question) (r : Result (List Peer) Fault) →
    told' ≡ told ++ lookup_told wire asked r →
    Counted r (counted (faults_of_dials told wire)) (counted (faults_of_dials told' wire))
lookup_cause told told' wire asked r now = by_cause dial_answer.Found lookup_told lookup_by told told' wire asked r now

pub keeps_lookup : (before after : Play) (wire : ℕ) (asked : Question) (r : Result (List Peer) Fault) →
    after.script ≡ before.script → after.rooms ≡ before.rooms →
    after.told ≡ before.told ++ lookup_told wire asked r → Keeps (part.Dial wire) (outer_of before) (outer_of after)
keeps_lookup before after wire asked r script rooms now =
    by_keeps dial_answer.Found lookup_told lookup_by before after wire asked r script rooms now

nonce_by : TellsBy dial_answer.Nonce nonce_told
nonce_by = record {
  quiet = λ v w wire asked. refl;
  done = λ wire asked v. refl;
  failed = λ wire asked. refl;
  lacked = λ wire asked. refl;
}

pub nonce_cause : (told told' : List Event) (wire : ℕ) (asked : Question) (r : Result (List ℕ) Fault) →
    told' ≡ told ++ nonce_told wire asked r →
    Counted r (counted (faults_of_dials told wire)) (counted (faults_of_dials told' wire))
nonce_cause told told' wire asked r now = by_cause dial_answer.Nonce nonce_told nonce_by told told' wire asked r now

pub keeps_nonce : (before after : Play) (wire : ℕ) (asked : Question) (r : Result (List ℕ) Fault) →
    after.script ≡ before.script → after.rooms ≡ before.rooms →
    after.told ≡ before.told ++ nonce_told wire asked r → Keeps (part.Dial wire) (outer_of before) (outer_of after)
keeps_nonce before after wire asked r script rooms now =
    by_keeps dial_answer.Nonce nonce_told nonce_by before after wire asked r script rooms now

output_by : TellsBy (λ (o : Output). dial_answer.Output o.success o.text) output_told
output_by = record {
  quiet = λ v w wire asked. refl;
  done = λ wire asked v. refl;
  failed = λ wire asked. refl;
  lacked = λ wire asked. refl;
}

pub output_cause : (told told' : List Event) (wire : ℕ) (asked : Question) (r : Result Output Fault) →
    told' ≡ told ++ output_told wire asked r →
    Counted r (counted (faults_of_dials told wire)) (counted (faults_of_dials told' wire))
output_cause told told' wire asked r now = by_cause (λ (o : Output). dial_answer.Output o.success o.text) output_told
    output_by told told' wire asked r now

pub keeps_output : (before after : Play) (wire : ℕ) (asked : Question) (r : Result Output Fault) →
    after.script ≡ before.script → after.rooms ≡ before.rooms →
    after.told ≡ before.told ++ output_told wire asked r → Keeps (part.Dial wire) (outer_of before) (outer_of after)
keeps_output before after wire asked r script rooms now =
    by_keeps (λ (o : Output). dial_answer.Output o.success o.text) output_told output_by before after wire asked r
    script rooms now
