use Rattle.std.proofs.Common.{◌≡◌, ◌∙◌, ap, arith}
use Rattle.react_timers.specs.Live.{insertions}
use Rattle.react_timers.specs.Timetable.{Timetable}
use Rattle.react_timers.proofs.Covers.{few-insertions, one-insertion}
use Rattle.react_timers.proofs.timers.Timers.push.Goals as goal

pub overflow_add-self : goal.overflow_add-self
overflow_add-self c =
    let few = few-insertions c.args.self.now.queue in
    let awaited : c.self.inside.awaited ≡ insertions c.args.self.now.queue =
    c.self.invariant.awaited ∙ ap (λ (t : Timetable). insertions t.queue) c.self.view_is in
    let one = one-insertion c.args.op in
    omega (arith, few, awaited, one, c.insertions.ensures, c.requires.place)
