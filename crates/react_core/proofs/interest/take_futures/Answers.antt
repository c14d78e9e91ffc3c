use Rattle.std.proofs.Common.{◌≡◌, ◌∙◌, ◌++◌, sym, ap, refl, None, Some, get_or, set, length, add-one, add-zero, arith, vec_len, vec_capacity}
use Rattle.std.proofs.lemmas.List.{append-nil}
use Rattle.std.specs.Option.{option_copied_mut}
use Rattle.react_core.proofs.Slots.{taken_to-next, taken_to-none, taken_to-more, taken_to-free, taken_to-all, tasks_to-none, tasks_to-all, hands-more, len-more, room-more}
use Rattle.react_core.proofs.interest.take_futures.Goals.{in-Some, in_default}
use Rattle.react_core.proofs.interest.take_futures.Goals as goal

pub loop-place-init : goal.loop-place-init
loop-place-init c = record {
  slots = sym (taken_to-none c.args.futures.now.slots);
  hands = sym (append-nil c.args.hands.now.items) ∙ ap (λ ts. c.args.hands.now.items ++ ts) (sym (tasks_to-none c.args.futures.now.slots));
  len = omega (arith, ap length (tasks_to-none c.args.futures.now.slots));
  capacity = refl;
  room = c.capacity-place-end.ensures.slots;
}

pub take_task-requires : goal.take_task-requires
take_task-requires c =
    let n = c.loop-place.place in
    let old = c.args.futures.now.slots in
    let was = c.loop-place.invariant in
    let here : get_or old n None ≡ Some c.in-Some.waiting.now =
    sym (taken_to-next old n) ∙ ap (λ s. get_or s n None) (sym was.slots) ∙ sym c.get_mut.follows ∙ ap option_copied_mut c.in-Some.is in
    rw was.capacity (room-more old n _ here _ _ _ was.len c.requires)

pub loop-place-preserved : goal.loop-place-preserved
loop-place-preserved c =
    let n = c.loop-place.place in
    let old = c.args.futures.now.slots in
    let was = c.loop-place.invariant in
    let found = sym (taken_to-next old n) ∙ ap (λ s. get_or s n None) (sym was.slots) ∙ sym c.get_mut.follows in
    rw add-one (elim c.match-get_mut.branch [
      | in-Some w ↦
          let here : get_or old n None ≡ Some w.in-Some.waiting.now = found ∙ ap option_copied_mut w.in-Some.is in
          record {
            slots = ap (λ s. s.slots) w.futures-is ∙ ap (λ v. set c.loop-place.futures.slots n (Some v)) w.take_task.ensures.waiting
                ∙ ap (λ s. set s n (Some (record w.in-Some.waiting.now { task = None }))) was.slots ∙ taken_to-more old n w.in-Some.waiting.now here;
            hands = hands-more old n _ here _ _ _ was.hands (ap (λ h. h.items) w.hands-is ∙ w.take_task.ensures.hands);
            len = len-more old n _ here _ _ _ was.len (ap vec_len w.hands-is ∙ w.take_task.ensures.len);
            capacity = ap vec_capacity w.hands-is ∙ w.take_task.ensures.capacity ∙ was.capacity;
            room = was.room;
          }
      | in_default w ↦
          let here : get_or old n None ≡ None = found ∙ ap option_copied_mut w.in_default.is in
          record {
            slots = ap (λ s. s.slots) w.futures-is ∙ was.slots ∙ taken_to-free old n here;
            hands = hands-more old n None here _ _ _ was.hands (ap (λ h. h.items) w.hands-is ∙ sym (append-nil c.loop-place.hands.items));
            len = len-more old n None here _ _ _ was.len (ap vec_len w.hands-is ∙ sym (add-zero (vec_len c.loop-place.hands)));
            capacity = ap vec_capacity w.hands-is ∙ was.capacity;
            room = was.room;
          }
    ])

pub returns-clause-slots : goal.returns-clause-slots
returns-clause-slots c = c.loop-place.invariant.slots ∙ taken_to-all c.args.futures.now.slots c.loop-place.place (omega (arith, c.loop-place.invariant.room, c.loop-place-test.false))

pub returns-clause-hands : goal.returns-clause-hands
returns-clause-hands c =
    c.loop-place.invariant.hands
    ∙ ap (λ ts. c.args.hands.now.items ++ ts) (tasks_to-all c.args.futures.now.slots c.loop-place.place (omega (arith, c.loop-place.invariant.room, c.loop-place-test.false)))

pub returns-clause-len : goal.returns-clause-len
returns-clause-len c =
    omega (arith, c.loop-place.invariant.len, ap length (tasks_to-all c.args.futures.now.slots c.loop-place.place (omega (arith, c.loop-place.invariant.room, c.loop-place-test.false))))
