-- A run over a script of the program's own making.
use Rattle.std.proofs.Common.{◌≡◌, ℕ, ◌≤◌, ◌<◌, ◌+◌, ◌-◌, ◌^◌, inl, inr, ◌⊎◌, List, length, Some, Result, Ok}
use Rattle.std.proofs.Common.{sym, ◌∙◌, ap, subst, arith}
use Rattle.bus_script.specs.Script.{Script, Refused, script}
use Rattle.bus_script.specs.declared.reading.ScriptForm.TheVariants as forms
use Rattle.bus_scene.specs.declared.from_script.Played.{Played}
use Rattle.bus_scene.specs.Plays.{HasNoPollerFault}
use Rattle.bus_scene.specs.Queues.{Queues, queues}
use Rattle.bus_scene.specs.Reading.{IsOf}
use Rattle.bus_bulk.specs.Bulk.{bulk, bulk_text}
use Rattle.bus_open.specs.Run.{PollerFails, RunsOut}

abbrev read_as : Script → Result Script Refused
read_as s = Ok s

same-script : (s t : Script) → read_as s ≡ read_as t → s ≡ t
same-script s t e = cc

-- what was made of the text of a bulk run was made of its script
pub of-bulk : (n : ℕ) (text : List ℕ) (p : Played) → text ≡ bulk_text n → script forms.Play (bulk_text n) ≡ Ok (bulk n) →
    ((s : Script) × (script forms.Play text ≡ Ok s) × IsOf s p) → IsOf (bulk n) p
of-bulk n text p is reads from =
    subst (λ s. IsOf s p) (same-script from.0 (bulk n) (sym from.1 ∙ ap (script forms.Play) is ∙ reads)) from.2

-- no answer of that script is a fault of the poller
pub no-fault : (n : ℕ) (p : Played) → IsOf (bulk n) p → HasNoPollerFault (queues (length (bulk n).sessions) (bulk n).answers) →
    PollerFails p.scene.script p.sessions.items p.rounds → ⊥
no-fault n p is clean fails = fails.faulty (subst (λ (q : Queues). HasNoPollerFault q) (sym is.script) clean)

-- with one round, and with no more timers than sessions, no number runs out
no-number : (limit tick timer rounds sessions : ℕ) (A B : Type 0) → 10001 ≤ limit → tick ≡ 0 → timer ≡ 0 → rounds ≡ 1 →
    sessions ≤ 10000 → ((A × (limit < tick + rounds)) ⊎ (B × (limit < timer + sessions))) → ⊥
no-number limit tick timer rounds sessions A B high begins made once few (inl out) =
    omega (arith, high, begins, once, out.1)
no-number limit tick timer rounds sessions A B high begins made once few (inr out) =
    omega (arith, high, made, few, out.1)

some-same : (a b : ℕ) → Some a ≡ Some b → a ≡ b
some-same a b e = cc

pub no-run-out : (n : ℕ) (p : Played) → IsOf (bulk n) p → n ≤ 10000 → length (bulk n).sessions ≡ n →
    RunsOut p.scene.script p.sessions.items p.tick p.timer p.rounds → ⊥
unfolding bulk
no-run-out n p is few count out =
    let sessions : length p.sessions.items ≡ n = ap length is.sessions ∙ count in
    let at_most : length p.sessions.items ≤ 10000 = rw sessions few in
    no-number (2 ^ 64 - 1) p.tick p.timer p.rounds (length p.sessions.items) _ _ (omega arith) is.tick is.timer
    (some-same p.rounds 1 is.rounds) at_most out.exhausts
