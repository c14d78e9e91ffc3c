-- A play goes on by one event.
use Rattle.std.proofs.Common.{◌≡◌, ℕ, ◌<◌, ◌≤◌, Bool, true, false, if◌then◌else◌, eq-eqb, List, [], ◌∷◌, ◌++◌, length}
use Rattle.std.proofs.Common.{take, drop, map, replicate, Option, Some, None, refl, sym, ap, ◌∙◌, arith}
use Rattle.std.specs.Prelude.{◌==◌, slice_index_or, slice_set}
use Rattle.std.proofs.lemmas.List.{append_assoc, append-nil, length-set}
use Rattle.std.proofs.lemmas.List.Sums.{fold-append}
use Rattle.std.proofs.lemmas.Grind.{common_steps}
use Rattle.react_core.specs.declared.outside.Event.{Event}
use Rattle.react_core.specs.declared.outside.Event.TheVariants as event
use Rattle.react_core.specs.declared.outside.RecvAnswer.{RecvAnswer}
use Rattle.react_core.specs.declared.outside.RecvAnswer.TheVariants as recv_answer
use Rattle.react_core.specs.declared.outside.SendAnswer.{SendAnswer}
use Rattle.react_core.specs.declared.outside.SendAnswer.TheVariants as send_answer
use Rattle.std.specs.Str.{bytes_eq}
use Rattle.react_core.specs.declared.outside.Rooms.{Rooms}
use Rattle.bus_scene.specs.declared.queues.Queue.{Queue}
use Rattle.bus_scene.specs.declared.queues.Answers.{Answers}
use Rattle.bus_scene.specs.Queues.{Queues, queue_at, next_answer, without_next}
use Rattle.bus_scene.specs.Plays.{next, next_of, played_from, played, only_if, last_reading, later, source_key}
use Rattle.bus_scene.specs.Plays.{after_call, bool_eq, recv_eq, send_eq, reading_given, outcome_given, recv_given}
use Rattle.bus_scene.specs.Plays.{send_given, after_recv}
use Rattle.bus_scene.specs.Cursors.{whole, left, left_reads, script_of, rest_of, Plays}

pub played_from-last : (r : Rooms) (told : List Event) (q : Option Queues) (events : List Event) (e : Event) →
    played_from r told q (events ++ e ∷ []) ≡ next_of r (told ++ events) (played_from r told q events) e
played_from-last r told q [] e = rw (append-nil told) refl
played_from-last r told q (x ∷ events) e =
    played_from-last r (told ++ x ∷ []) (next_of r told q x) events e
    ∙ ap (λ t. next_of r t (played_from r (told ++ x ∷ []) (next_of r told q x) events) e)
    (append_assoc told (x ∷ []) events)

-- the record with one more event leaves what that event leaves
pub played-last : (r : Rooms) (script q q' : Queues) (told : List Event) (e : Event) → played r script told ≡ Some q →
    next r told q e ≡ Some q' →
    played r script (told ++ e ∷ []) ≡ Some q'
played-last r script q q' told e was is = played_from-last r [] (Some script) told e ∙ (rw was is)

pub last_reading-last : (told : List Event) (e : Event) → last_reading (told ++ e ∷ []) ≡ later (last_reading told) e
last_reading-last told e = fold-append later 0 told (e ∷ [])

pub source_key-last : (told : List Event) (e : Event) (session : ℕ) →
    source_key (told ++ e ∷ []) session ≡ after_call session (source_key told session) e
source_key-last told e session = fold-append (after_call session) None told (e ∷ [])

pub only_if-true : {X : Type 0} (b : Bool) (x : X) → b ≡ true → only_if b x ≡ Some x
only_if-true b x e = rw e refl

pub bool_eq-refl : (b : Bool) → bool_eq b b ≡ true
bool_eq-refl true = refl
bool_eq-refl false = refl

-- A play goes on: the event is what the rest's next answer says, and the new rest is what it leaves.
pub plays_on : {rooms : Rooms} (a a' : Answers) (told : List Event) (keys keys' : List (Option ℕ)) (last : ℕ)
    (e : Event) → Plays rooms a told keys last →
    next rooms told (rest_of a) e ≡ Some (rest_of a') → script_of a' ≡ script_of a →
    ((session : ℕ) → session < length keys' → slice_index_or keys' session None ≡ after_call session
    (source_key told session) e) →
    length keys' ≡ length a'.dials.items →
    Plays rooms a' (told ++ e ∷ []) keys' (later last e)
plays_on a a' told keys keys' last e p is same keys_are lengths = record {
  played = rw same (played-last _ (script_of a) (rest_of a) (rest_of a') told e p.played is);
  reading = ap (λ t. later t e) p.reading ∙ sym (last_reading-last told e);
  sources = λ session lt. keys_are session lt ∙ sym (source_key-last told e session);
  sessions = lengths;
}

-- the key that a call sets is that of its wire's source, and no other
pub key_set : (keys : List (Option ℕ)) (told : List Event) (wire : ℕ) (key : Option ℕ) →
    ((session : ℕ) → session < length keys → slice_index_or keys session None ≡ source_key told session) →
    (session : ℕ) → session < length (slice_set keys wire key) →
    slice_index_or (slice_set keys wire key) session None ≡ (if wire == session then key else source_key told session)
key_set keys told wire key were session lt =
    let within : session < length keys = omega (arith, length-set keys wire key) in
    grind (arith, common_steps, were session within)

pub reading_is : (told : List Event) (last t : ℕ) (asked : Option ℕ) → last ≡ last_reading told →
    t ≡ reading_given last asked →
    (reading_given (last_reading told) asked == t) ≡ true
reading_is told last t asked was given = eq-eqb (reading_given (last_reading told) asked) t
    (ap (λ l. reading_given l asked) (sym was) ∙ sym given)

-- the clock never falls
pub reading_forward : (last : ℕ) (asked : Option ℕ) → last ≤ reading_given last asked
reading_forward last None = omega arith
reading_forward last (Some t) = omega arith

-- The same, call by call.

pub plays_now : {rooms : Rooms} (a : Answers) (nows : Queue ℕ) (told told' : List Event) (keys : List (Option ℕ))
    (last t : ℕ) → Plays rooms a told keys last →
    t ≡ reading_given last (next_answer (left a.nows)) → left nows ≡ drop 1 (left a.nows) → whole nows ≡ whole a.nows →
    told' ≡ told ++ event.Now t ∷ [] →
    Plays rooms (record a { nows = nows }) told' keys t
plays_now a nows told told' keys last t p given rest all now =
    rw now (plays_on a (record a { nows = nows }) told keys keys last (event.Now t) p
    (only_if-true _ _ (reading_is told last t (next_answer (left a.nows)) p.reading given)
    ∙ ap (λ (n : List ℕ). Some (record (rest_of a) { nows = n })) (sym rest))
    (ap (λ (n : List ℕ). record (script_of a) { nows = n }) all)
    p.sources p.sessions)

pub plays_add : {rooms : Rooms} (a : Answers) (adds : Queue Bool) (told told' : List Event) (keys : List (Option ℕ))
    (last : ℕ) (wire key : ℕ) (ok : Bool) (keys' : List (Option ℕ)) → Plays rooms a told keys last →
    ok ≡ outcome_given (next_answer (left a.adds)) → left adds ≡ drop 1 (left a.adds) → whole adds ≡ whole a.adds →
    told' ≡ told ++ event.Add wire key ok ∷ [] →
    keys' ≡ slice_set keys wire (Some key) →
    Plays rooms (record a { adds = adds }) told' keys' last
plays_add a adds told told' keys last wire key ok keys' p given rest all now set_to =
    rw (now, set_to) (plays_on a (record a { adds = adds }) told keys (slice_set keys wire (Some key)) last
    (event.Add wire key ok) p
    (only_if-true _ _ (rw (sym given) (bool_eq-refl ok))
    ∙ ap (λ (n : List Bool). Some (record (rest_of a) { adds = n })) (sym rest))
    (ap (λ (n : List Bool). record (script_of a) { adds = n }) all)
    (key_set keys told wire (Some key) p.sources) (length-set keys wire (Some key) ∙ p.sessions))

pub plays_modify : {rooms : Rooms} (a : Answers) (modifies : Queue Bool) (told told' : List Event)
    (keys : List (Option ℕ)) (last : ℕ) (wire key : ℕ) (read write : Bool) (ok : Bool) → Plays rooms a told keys last →
    ok ≡ outcome_given (next_answer (left a.modifies)) → left modifies ≡ drop 1 (left a.modifies) →
    whole modifies ≡ whole a.modifies → told' ≡ told ++ event.Modify wire key read write ok ∷ [] →
    Plays rooms (record a { modifies = modifies }) told' keys last
plays_modify a modifies told told' keys last wire key read write ok p given rest all now =
    rw now (plays_on a (record a { modifies = modifies }) told keys keys last (event.Modify wire key read write ok) p
    (only_if-true _ _ (rw (sym given) (bool_eq-refl ok))
    ∙ ap (λ (n : List Bool). Some (record (rest_of a) { modifies = n })) (sym rest))
    (ap (λ (n : List Bool). record (script_of a) { modifies = n }) all)
    p.sources p.sessions)

pub plays_delete : {rooms : Rooms} (a : Answers) (deletes : Queue Bool) (told told' : List Event)
    (keys : List (Option ℕ)) (last : ℕ) (wire key : ℕ) (ok : Bool) (keys' : List (Option ℕ)) →
    Plays rooms a told keys last →
    ok ≡ outcome_given (next_answer (left a.deletes)) → left deletes ≡ drop 1 (left a.deletes) →
    whole deletes ≡ whole a.deletes → told' ≡ told ++ event.Delete wire key ok ∷ [] →
    keys' ≡ slice_set keys wire (None) →
    Plays rooms (record a { deletes = deletes }) told' keys' last
plays_delete a deletes told told' keys last wire key ok keys' p given rest all now set_to =
    rw (now, set_to) (plays_on a (record a { deletes = deletes }) told keys (slice_set keys wire (None)) last
    (event.Delete wire key ok) p
    (only_if-true _ _ (rw (sym given) (bool_eq-refl ok))
    ∙ ap (λ (n : List Bool). Some (record (rest_of a) { deletes = n })) (sym rest))
    (ap (λ (n : List Bool). record (script_of a) { deletes = n }) all)
    (key_set keys told wire (None) p.sources) (length-set keys wire (None) ∙ p.sessions))

pub plays_notify : {rooms : Rooms} (a : Answers) (notifies : Queue Bool) (told told' : List Event)
    (keys : List (Option ℕ)) (last : ℕ) (ok : Bool) → Plays rooms a told keys last →
    ok ≡ outcome_given (next_answer (left a.notifies)) → left notifies ≡ drop 1 (left a.notifies) →
    whole notifies ≡ whole a.notifies → told' ≡ told ++ event.Notify ok ∷ [] →
    Plays rooms (record a { notifies = notifies }) told' keys last
plays_notify a notifies told told' keys last ok p given rest all now =
    rw now (plays_on a (record a { notifies = notifies }) told keys keys last (event.Notify ok) p
    (only_if-true _ _ (rw (sym given) (bool_eq-refl ok))
    ∙ ap (λ (n : List Bool). Some (record (rest_of a) { notifies = n })) (sym rest))
    (ap (λ (n : List Bool). record (script_of a) { notifies = n }) all)
    p.sources p.sessions)

pub plays_close : {rooms : Rooms} (a : Answers) (told told' : List Event) (keys : List (Option ℕ)) (last wire : ℕ) →
    Plays rooms a told keys last →
    told' ≡ told ++ event.Close wire ∷ [] → Plays rooms a told' keys last
plays_close a told told' keys last wire p now =
    rw now (plays_on a a told keys keys last (event.Close wire) p refl refl p.sources p.sessions)

pub send_eq-refl : (s : SendAnswer) → send_eq s s ≡ true
send_eq-refl (send_answer.Took n) = eq-eqb n n refl
send_eq-refl send_answer.NotReady = refl
send_eq-refl send_answer.Failed = refl

pub plays_send : {rooms : Rooms} (a a' : Answers) (told told' : List Event) (keys : List (Option ℕ)) (last wire : ℕ)
    (offered : List ℕ) (s : SendAnswer) → Plays rooms a told keys last →
    s ≡ send_given (length offered) (next_answer (queue_at (map left a.sends.items) wire)) →
    rest_of a' ≡ record (rest_of a) {
      sends = without_next (map left a.sends.items) wire;
    } → script_of a' ≡ script_of a → length a'.dials.items ≡ length a.dials.items →
    told' ≡ told ++ event.Send wire offered s ∷ [] → Plays rooms a' told' keys last
plays_send a a' told told' keys last wire offered s p given rest all lengths now =
    rw now (plays_on a a' told keys keys last (event.Send wire offered s) p
    (only_if-true (send_eq (send_given (length offered) (next_answer (queue_at (map left a.sends.items) wire))) s)
    (record (rest_of a) {
      sends = without_next (map left a.sends.items) wire;
    }) (rw (sym given) (send_eq-refl s)) ∙ ap Some (sym rest))
    all p.sources (p.sessions ∙ sym lengths))

pub bytes_eq-refl : (bytes : List ℕ) → bytes_eq bytes bytes ≡ true
bytes_eq-refl [] = refl
bytes_eq-refl (b ∷ bytes) = rw (eq-eqb b b refl) (bytes_eq-refl bytes)

pub recv_eq-refl : (r : RecvAnswer) → recv_eq r r ≡ true
recv_eq-refl (recv_answer.Got bytes) = bytes_eq-refl bytes
recv_eq-refl recv_answer.End = refl
recv_eq-refl recv_answer.NotReady = refl
recv_eq-refl recv_answer.Failed = refl

pub plays_recv : {rooms : Rooms} (a a' : Answers) (told told' : List Event) (keys : List (Option ℕ))
    (last wire asked : ℕ) (r : RecvAnswer) → Plays rooms a told keys last →
    recv_given asked (next_answer (queue_at (map left_reads a.recvs.items) wire)) ≡ r →
    rest_of a' ≡ record (rest_of a) {
      recvs = after_recv asked (map left_reads a.recvs.items) wire;
    } → script_of a' ≡ script_of a → length a'.dials.items ≡ length a.dials.items →
    told' ≡ told ++ event.Recv wire asked r ∷ [] → Plays rooms a' told' keys last
plays_recv a a' told told' keys last wire asked r p given rest all lengths now =
    rw now (plays_on a a' told keys keys last (event.Recv wire asked r) p
    (only_if-true (recv_eq (recv_given asked (next_answer (queue_at (map left_reads a.recvs.items) wire))) r)
    (record (rest_of a) {
      recvs = after_recv asked (map left_reads a.recvs.items) wire;
    }) (rw given (recv_eq-refl r)) ∙ ap Some (sym rest))
    all p.sources (p.sessions ∙ sym lengths))

-- what is written over the whole of a list
pub written_whole : {X : Type 0} (n : ℕ) (xs ys : List X) → length xs ≡ n → length ys ≡ n →
    take n (xs ++ drop (length xs) ys) ≡ xs
written_whole n xs ys e f = grind (arith, common_steps)

-- no answer is used at the start
pub plays_nothing : {rooms : Rooms} (a : Answers) (keys : List (Option ℕ)) → script_of a ≡ rest_of a →
    keys ≡ replicate (length a.dials.items) None → Plays rooms a [] keys 0
plays_nothing a keys same none = record {
  played = ap Some same;
  reading = refl;
  sources = λ session lt. rw none (grind (arith, common_steps));
  sessions = grind (arith, common_steps);
}
