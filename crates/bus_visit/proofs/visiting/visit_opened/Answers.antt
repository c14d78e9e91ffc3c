use Rattle.std.proofs.Common.{refl, ap}
use Rattle.bus_session.specs.Dialling.{conversation}
use Rattle.bus_visit.specs.Dialled.{as_opened}
use Rattle.bus_visit.proofs.TurnLemmas.{on-err}
use Rattle.bus_visit.proofs.FirstVisit.{if-ok, refused-by, insert-keeps, inserted-holds, inserted-rests, inserted-keeps, inserted-tags, inserted-registers, inserted-fails, inserted-runs-out, insert-fails}
use Rattle.bus_visit.proofs.TimedVisits.{on-exhausted-map}
use Rattle.bus_visit.specs.declared.visiting.Slot.{Slot}
use Rattle.bus_visit.proofs.FailureLemmas.{on-poller, on-poller-by}
use Rattle.react_core.specs.Outer.{keeps-same, poller-in-visit}
use Rattle.react_core.specs.Outer as part
use Rattle.bus_visit.proofs.VisitFrames.{keeps-registered, slot-after}
use Rattle.bus_visit.proofs.visiting.visit_opened.Goals as goal

pub returns-in_err-key-clause-refused : goal.returns-in_err-key-clause-refused
returns-in_err-key-clause-refused g c =
    on-err c.from_residual-in_err-key.result
    (insert-keeps c.args.wire _ _ _ c.args.reactor.now.core c.insert_io.new.self.core c.requires.rests c.in_err-key.ensures.told (ap (λ r. r.core) c.in_err-key.ensures.err))

pub visit_registered-requires-clause-holds : goal.visit_registered-requires-clause-holds
visit_registered-requires-clause-holds g c =
    inserted-holds c.args.reactor.now.core c.insert_io.new.self.core c.args.wire c.in_ok-key.key c.in_ok-key.ensures.free (ap (λ r. r.core) c.in_ok-key.ensures.inserted)

pub visit_registered-requires-clause-rests : goal.visit_registered-requires-clause-rests
visit_registered-requires-clause-rests g c =
    inserted-rests c.args.reactor.now.core c.insert_io.new.self.core c.args.wire c.in_ok-key.key
    c.in_ok-key.ensures.free (ap (λ r. r.core) c.in_ok-key.ensures.inserted) c.requires.new c.requires.rests

pub returns-clause-visited : goal.returns-clause-visited
returns-clause-visited g c =
    if-ok c.visit_registered.result
    (λ slot stays.
    inserted-registers c.args.reactor.now.core c.insert_io.new.self.core c.args.wire c.in_ok-key.key
    c.in_ok-key.ensures.free (ap (λ r. r.core) c.in_ok-key.ensures.inserted) c.args.session.now (as_opened c.args.opened.now)
    _ _ _ c.visit_registered.new.reactor.core c.in_ok-client.client slot (
      conversation c.args.session.now.party (as_opened c.args.opened.now),
      refl,
      c.in_ok-client.ensures.stands,
    ) c.in_ok-client.ensures.written
    c.in_ok-key.ensures.told stays)
    (rw c.limit_of-limit.ensures at c.visit_registered.ensures.visited)

pub returns-clause-tags : goal.returns-clause-tags
returns-clause-tags g c =
    if-ok c.visit_registered.result
    (λ slot stays.
    inserted-tags c.args.reactor.now.core c.insert_io.new.self.core c.args.wire c.in_ok-key.key
    c.in_ok-key.ensures.free (ap (λ r. r.core) c.in_ok-key.ensures.inserted)
    _ _ _ c.visit_registered.new.reactor.core c.in_ok-client.client slot c.requires.new stays)
    c.visit_registered.ensures.visited

pub returns-clause-refused : goal.returns-clause-refused
returns-clause-refused g c =
    refused-by c.visit_registered.result
    (λ keeps.
    inserted-keeps c.args.reactor.now.core c.insert_io.new.self.core c.args.wire c.in_ok-key.key
    c.in_ok-key.ensures.free (ap (λ r. r.core) c.in_ok-key.ensures.inserted)
    _ _ _ c.visit_registered.new.reactor.core c.in_ok-key.ensures.told keeps)
    c.visit_registered.ensures.refused

pub returns-in_err-client-clause-keeps : goal.returns-in_err-client-clause-keeps
returns-in_err-client-clause-keeps g c = keeps-same (part.Visit c.args.wire) _

pub returns-in_err-key-clause-keeps : goal.returns-in_err-key-clause-keeps
returns-in_err-key-clause-keeps g c = poller-in-visit c.args.wire _ _ c.insert_io.ensures.keeps

pub returns-clause-keeps : goal.returns-clause-keeps
returns-clause-keeps g c = keeps-registered c.args.wire _ _ _ c.insert_io.ensures.keeps c.visit_registered.ensures.keeps

pub returns-clause-counted : goal.returns-clause-counted
returns-clause-counted g c = if-ok c.visit_registered.result (λ slot counted. slot-after c.args.wire slot _ _ _ (poller-in-visit c.args.wire _ _ c.insert_io.ensures.keeps) counted) c.visit_registered.ensures.counted

pub returns-in_err-key-clause-failed : goal.returns-in_err-key-clause-failed
returns-in_err-key-clause-failed g c =
    on-poller _ c.from_residual-in_err-key.result c.in_err-key.field-0.0 c.from_residual-in_err-key.ensures.1
    (insert-fails c.args.session.now c.args.wire (as_opened c.args.opened.now) _ c.in_err-key.field-0.0 _ _
    c.args.reactor.now.core c.in_err-key.ensures.told)

pub returns-clause-failed : goal.returns-clause-failed
returns-clause-failed g c =
    on-poller-by _ _ c.visit_registered.result (λ fails.
    inserted-fails c.args.reactor.now.core c.insert_io.new.self.core c.args.wire c.in_ok-key.key
    c.in_ok-key.ensures.free (ap (λ r. r.core) c.in_ok-key.ensures.inserted) c.args.session.now
    (as_opened c.args.opened.now) _ _ _ _ c.in_ok-client.client c.in_ok-client.ensures.stands
    c.in_ok-client.ensures.written c.in_ok-key.ensures.told
    (rw c.insert_io.ensures.keeps.ample at (rw c.limit_of-limit.ensures at fails))) c.visit_registered.ensures.failed

pub returns-clause-exhausted : goal.returns-clause-exhausted
returns-clause-exhausted g c =
    on-exhausted-map Slot _ _ c.visit_registered.result (λ out.
    inserted-runs-out c.args.reactor.now.core c.insert_io.new.self.core c.args.wire c.in_ok-key.key
    c.in_ok-key.ensures.free (ap (λ r. r.core) c.in_ok-key.ensures.inserted) c.args.session.now
    (as_opened c.args.opened.now) _ _ _ _ c.in_ok-client.client c.in_ok-client.ensures.stands
    c.in_ok-client.ensures.written c.in_ok-key.ensures.told
    (rw c.insert_io.ensures.keeps.ample at (rw c.limit_of-limit.ensures at out))) c.visit_registered.ensures.exhausted
