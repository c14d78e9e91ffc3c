-- A stay over a registered wire comes to the end of a visit.
use Rattle.std.proofs.Common.{◌≡◌, ℕ, Bool, true, false, ◌&&◌, ◌||◌, ◌==◌, if◌then◌else◌, List, [], ◌∷◌, ◌++◌, Option}
use Rattle.std.proofs.Common.{Some, None, refl, sym, ◌∙◌, ap, subst}
use Rattle.std.proofs.lemmas.Bool.{both_ways, eq-eqb}
use Rattle.std.proofs.lemmas.Option.{none-some, same_Some}
use Rattle.std.specs.Prelude.{is_none}
use Rattle.std.specs.Option.{option_map}
use Rattle.react_core.specs.declared.outside.Event.{Event}
use Rattle.react_core.specs.declared.outside.Event.TheVariants as event
use Rattle.react_core.specs.declared.reactor.Dir.{Dir}
use Rattle.react_core.specs.declared.reactor.Dir.TheVariants.{Read, Write}
use Rattle.bus_session.specs.declared.session.Session.{Session}
use Rattle.bus_session.specs.Outcomes.{is_ended}
use Rattle.bus_session.specs.Alone.{Course, after, goes_through, outcome_in}
use Rattle.bus_record.specs.Places.{is_dir, stop_of}
use Rattle.bus_record.specs.Visits.{Here, here_by, Stage, conversing, arming, reading, leaving, finished, goes_on}
use Rattle.bus_record.specs.Visits.{asked}
use Rattle.bus_record.specs.Visits.{after_call, is_armed_with, is_bool}
use Rattle.bus_visit.specs.Registry.{Idle, Waits, Reported, Held, waits, side_held, stopped_held}
use Rattle.bus_visit.specs.Registry as registry
use Rattle.bus_visit.specs.Calls.{AreCalls}
use Rattle.bus_peers.specs.inside.Shows.{StandsAt}
use Rattle.bus_peers.proofs.CallFacts.{OfCall, of-call}
use Rattle.bus_peers.proofs.Progresses.{IsOpen, open-before, open-paused, moved}
use Rattle.bus_peers.proofs.StaySteps.{Asks, Steps, goes, again, arms, rests, steps}
use Rattle.bus_peers.proofs.Sides.{side-at, side-waits, is-idle, is-waiting, is-reported, stands-on, stands-stopped}
use Rattle.bus_peers.proofs.Sides.{stopped-waits, stopped-wire, stopped-key}
use Rattle.bus_peers.proofs.StayPlaces.{arming-some}

-- where a visit stands whose session waits for its wire: over, or the clock is to be read
abbrev pub rests_at : Session → ℕ → Course → Stage
rests_at s key c = if is_none s.deadline then finished else reading key c

module _ (s : Session) (wire key : ℕ) where
  -- these events lead from a conversation to that stage
  abbrev pub LeadsTo : Stage → Here → Course → List Event → Type 0
  LeadsTo stage h c events = goes_on s wire h (Some (conversing key c)) events ≡ Some stage

  -- they end the visit
  abbrev pub Ends : Here → Course → List Event → Type 0
  Ends = LeadsTo finished

  -- a call that the session asks
  asked-call : (h : Here) (c d : Course) (e : Event) (events : List Event) → OfCall wire e → after c e ≡ Some d →
      goes_on s wire h (Some (conversing key c)) (e ∷ events)
      ≡ goes_on s wire (here_by h e) (Some (after_call s h key (stop_of e) d)) events
  asked-call h c d e events f by =
      let go : Option Course → Option Stage =
      λ o. goes_on s wire (here_by h e) (option_map (after_call s h key (stop_of e)) o) events in
      ap (λ own. go (asked own c e)) f.own ∙ ap go by

  -- the visit goes on with this stage behind the call
  leads-call : (end : Stage) (h : Here) (c d : Course) (e : Event) (events : List Event) (stage : Stage) →
      OfCall wire e → after c e ≡ Some d → after_call s h key (stop_of e) d ≡ stage →
      goes_on s wire (here_by h e) (Some stage) events ≡ Some end → LeadsTo end h c (e ∷ events)
  leads-call end h c d e events stage f by is rest =
      asked-call h c d e events f by ∙ (ap (λ z. goes_on s wire (here_by h e) (Some z) events) is ∙ rest)

  -- ---- what comes behind a call

  -- no direction was paused, and the session goes on
  after-open : (h : Here) (e : Event) (d : Course) → stop_of e ≡ None → IsOpen d →
      after_call s h key (stop_of e) d ≡ conversing key d
  after-open h e d stop open_ =
      ap (λ so. after_call s h key so d) stop ∙ ap (λ b. if b then leaving key d else conversing key d) open_

  -- no direction was paused, and the session has ended
  after-ended : (h : Here) (e : Event) (d : Course) → stop_of e ≡ None → is_ended (outcome_in false d.progress) ≡ true →
      after_call s h key (stop_of e) d ≡ leaving key d
  after-ended h e d stop ended =
      ap (λ so. after_call s h key so d) stop ∙ ap (λ b. if b then leaving key d else conversing key d) ended

  -- what comes behind a NotReady: it asks again, or rests, or arms
  abbrev stop_stage : Bool → Bool → Dir → Course → Stage
  stop_stage was waiting x d =
      if was then conversing key d else if waiting then rests_at s key d else arming key d x

  after-stopped : (h : Here) (e : Event) (d : Course) (x : Dir) (was waiting : Bool) → stop_of e ≡ Some x →
      h.was_reported x ≡ was → h.is_waiting x ≡ waiting →
      after_call s h key (stop_of e) d ≡ stop_stage was waiting x d
  after-stopped h e d x was waiting stop r w =
      ap (λ so. after_call s h key so d) stop
      ∙ (ap (λ b. stop_stage b (h.is_waiting x) x d) r ∙ ap (λ b. stop_stage was b x d) w)

  -- ---- the ends of a visit

  -- the source is taken out
  leaves : (h : Here) (d : Course) →
      goes_on s wire h (Some (leaving key d)) (event.Delete wire key true ∷ []) ≡ Some finished
  leaves h d =
      ap (λ b. if b && (key == key) then Some finished else None) (eq-eqb wire wire refl)
      ∙ ap (λ b. if b then Some finished else None) (eq-eqb key key refl)

  is-bool : (a b : Bool) → a ≡ b → is_bool a b ≡ true
  is-bool true b e = sym e
  is-bool false true e = e
  is-bool false false e = refl

  armed_go : (a b c d : Bool) (stage : Stage) → a ≡ true → b ≡ true → c ≡ true → d ≡ true →
      (if a && (b && (c && d)) then Some stage else None) ≡ Some stage
  armed_go a b c d stage ea eb ec ed = rw (ea, eb, ec, ed) refl

  -- the directions that wait are armed with the one that was paused
  armed_with : (h : Here) (held : Held) (x y : Dir) → side_held x held ≡ Idle → StandsAt h held →
      waits (side_held y (stopped_held x held)) ≡ is_armed_with h x y
  armed_with h held Read Read idle at = stopped-waits Read held Idle idle refl
  armed_with h held Read Write idle at =
      sym (side-waits (h.is_waiting Write) (h.was_reported Write) held.write at.write)
  armed_with h held Write Read idle at = sym (side-waits (h.is_waiting Read) (h.was_reported Read) held.read at.read)
  armed_with h held Write Write idle at = stopped-waits Write held Idle idle refl

  -- the place behind a call that began there, as far as an arming looks at it
  waits-call : (e : Event) (h : Here) (x y : Dir) → OfCall wire e →
      is_armed_with (here_by h e) x y ≡ is_armed_with h x y
  waits-call e h x y f = ap (λ b. is_dir y (Some x) || b) (f.waits y (h.is_waiting y))

  arms-so : (h : Here) (held : Held) (e : Event) (d : Course) (x : Dir) → OfCall wire e →
      held.key ≡ key → held.wire ≡ wire → side_held x held ≡ Idle → StandsAt h held →
      goes_on s wire (here_by h e) (Some (arming key d x)) (registry.arming (stopped_held x held))
      ≡ Some (rests_at s key d)
  arms-so h held e d x f keyed wired idle at =
      let new : Held = stopped_held x held in
      let up : waits (side_held x new) ≡ true = stopped-waits x held Idle idle refl in
      ap (goes_on s wire (here_by h e) (Some (arming key d x))) (arming-some new x up)
      ∙ armed_go (new.wire == wire) (new.key == key) (is_bool (waits new.read) (is_armed_with (here_by h e) x Read))
      (is_bool (waits new.write) (is_armed_with (here_by h e) x Write)) (rests_at s key d)
      (eq-eqb new.wire wire (stopped-wire x held ∙ wired)) (eq-eqb new.key key (stopped-key x held ∙ keyed))
      (is-bool (waits new.read) (is_armed_with (here_by h e) x Read)
      (armed_with h held x Read idle at ∙ sym (waits-call e h x Read f)))
      (is-bool (waits new.write) (is_armed_with (here_by h e) x Write)
      (armed_with h held x Write idle at ∙ sym (waits-call e h x Write f)))

  -- ---- a stay that ends asleep

  -- a conversation that these calls lead to sleep
  abbrev FallsAsleep : Held → List Event → Course → List Event → Type 0
  FallsAsleep h' arm d calls =
      (h : Here) (held : Held) (c : Course) → held.key ≡ key → held.wire ≡ wire → StandsAt h held →
      Asks held calls h' (Some arm) → goes_through (Some c) calls ≡ Some d → LeadsTo (rests_at s key d) h c (calls ++ arm)

  -- the session has not ended where the visit isn't over
  open-still : (calls : List Event) (held h' : Held) (arm : List Event) (c d : Course) → Asks held calls h' (Some arm) →
      goes_through (Some c) calls ≡ Some d → IsOpen c
  open-still [] held h' arm c d asked through =
      absurd (none-some arm (ap (λ a. a.over) (same_Some _ (record { held = h'; over = Some arm }) asked)))
  open-still (e ∷ calls) held h' arm c d asked through =
      let m = moved c e calls d through in open-before c e m.mid m.by

  asleep_go : (h : Here) (held h' : Held) (arm : List Event) (e : Event) (calls : List Event) (c d m : Course)
      (so : Option Dir) → held.key ≡ key → held.wire ≡ wire → OfCall wire e → stop_of e ≡ so →
      StandsAt h held → after c e ≡ Some m → goes_through (Some m) calls ≡ Some d → FallsAsleep h' arm d calls →
      Steps held calls h' (Some arm) so → LeadsTo (rests_at s key d) h c (e ∷ calls ++ arm)
  asleep_go h held h' arm e calls c d m so keyed wired f stop at by through ih (goes asked) =
      leads-call (rests_at s key d) h c m e (calls ++ arm) (conversing key m) f by
      (after-open h e m stop (open-still calls held h' arm m d asked through))
      (ih (here_by h e) held m keyed wired (stands-on wire e h held f stop at) asked through)
  asleep_go h held h' arm e calls c d m so keyed wired f stop at by through ih (again x side asked) =
      let was = is-reported (h.is_waiting x) (h.was_reported x) (side_held x held) side (side-at h held x at) in
      leads-call (rests_at s key d) h c m e (calls ++ arm) (conversing key m) f by
      (after-stopped h e m x true false stop was.1 was.0)
      (ih (here_by h e) (stopped_held x held) m (stopped-key x held ∙ keyed) (stopped-wire x held ∙ wired)
      (stands-stopped wire e h held x f stop (λ idle. let r : Reported ≡ Idle = sym side ∙ idle in absurd (cc)) at)
      asked through)
  asleep_go h held h' arm e calls c d m so keyed wired f stop at by through ih (arms x side none is over) =
      let was = is-idle (h.is_waiting x) (h.was_reported x) (side_held x held) side (side-at h held x at) in
      let armed : List Event = registry.arming (stopped_held x held) in
      let last : m ≡ d = same_Some m d (ap (goes_through (Some m)) (sym none) ∙ through) in
      subst (λ z. LeadsTo (rests_at s key d) h c (e ∷ z ++ arm)) (sym none)
      (subst (λ z. LeadsTo (rests_at s key d) h c (e ∷ z)) (sym (same_Some arm armed over))
      (leads-call (rests_at s key d) h c m e armed (arming key m x) f by
      (after-stopped h e m x false false stop was.1 was.0)
      (arms-so h held e m x f keyed wired side at ∙ ap (λ z. Some (rests_at s key z)) last)))
  asleep_go h held h' arm e calls c d m so keyed wired f stop at by through ih (rests x side none is over) =
      let was = is-waiting (h.is_waiting x) (h.was_reported x) (side_held x held) side (side-at h held x at) in
      let last : m ≡ d = same_Some m d (ap (goes_through (Some m)) (sym none) ∙ through) in
      subst (λ z. LeadsTo (rests_at s key d) h c (e ∷ z ++ arm)) (sym none)
      (subst (λ z. LeadsTo (rests_at s key d) h c (e ∷ z)) (sym (same_Some arm [] over))
      (leads-call (rests_at s key d) h c m e [] (rests_at s key m) f by (after-stopped h e m x false true stop was.1 was.0)
      (ap (λ z. Some (rests_at s key z)) last)))

  -- calls until a direction waits, and its arming
  pub falls-asleep : (calls : List Event) (h : Here) (held h' : Held) (arm : List Event) (c d : Course) →
      held.key ≡ key → held.wire ≡ wire → AreCalls wire calls → StandsAt h held →
      Asks held calls h' (Some arm) → goes_through (Some c) calls ≡ Some d → LeadsTo (rests_at s key d) h c (calls ++ arm)
  falls-asleep [] h held h' arm c d keyed wired own at asked through =
      absurd (none-some arm (ap (λ a. a.over) (same_Some _ (record { held = h'; over = Some arm }) asked)))
  falls-asleep (e ∷ calls) h held h' arm c d keyed wired own at asked through =
      let f : OfCall wire e = of-call wire e own.0 in
      let m = moved c e calls d through in
      asleep_go h held h' arm e calls c d m.mid (stop_of e) keyed wired f refl at m.by m.rest
      (λ h1 held1 c1 keyed1 wired1 at1 asked1 through1.
      falls-asleep calls h1 held1 h' arm c1 d keyed1 wired1 own.1 at1 asked1 through1)
      (steps wire e calls held h' (Some arm) f asked)

  -- ---- a stay in which the session ends

  abbrev EndsSo : Held → Course → List Event → Type 0
  EndsSo h' d calls =
      (h : Here) (held : Held) (c : Course) → StandsAt h held → Asks held calls h' None →
      goes_through (Some c) calls ≡ Some d → IsOpen c → Ends h c (calls ++ event.Delete wire key true ∷ [])

  -- where a session has ended, it was its last call
  ended-last : (calls : List Event) (m d : Course) → is_ended (outcome_in false m.progress) ≡ true →
      goes_through (Some m) calls ≡ Some d → calls ≡ []
  ended-last [] m d ended through = refl
  ended-last (e ∷ calls) m d ended through =
      let n = moved m e calls d through in
      absurd (both_ways (is_ended (outcome_in false m.progress)) (open-before m e n.mid n.by) ended)

  ended_or_on : (h : Here) (held h' : Held) (e : Event) (calls : List Event) (c d m : Course) (ended : Bool) →
      is_ended (outcome_in false m.progress) ≡ ended → OfCall wire e → stop_of e ≡ None → StandsAt h held →
      after c e ≡ Some m → goes_through (Some m) calls ≡ Some d → EndsSo h' d calls → Asks held calls h' None →
      Ends h c (e ∷ calls ++ event.Delete wire key true ∷ [])
  ended_or_on h held h' e calls c d m true is f stop at by through ih asked =
      subst (λ z. Ends h c (e ∷ z ++ event.Delete wire key true ∷ [])) (sym (ended-last calls m d is through))
      (leads-call finished h c m e (event.Delete wire key true ∷ []) (leaving key m) f by (after-ended h e m stop is)
      (leaves (here_by h e) m))
  ended_or_on h held h' e calls c d m false is f stop at by through ih asked =
      leads-call finished h c m e (calls ++ event.Delete wire key true ∷ []) (conversing key m) f by (after-open h e m stop is)
      (ih (here_by h e) held m (stands-on wire e h held f stop at) asked through is)

  ends_go : (h : Here) (held h' : Held) (e : Event) (calls : List Event) (c d m : Course) (so : Option Dir) →
      OfCall wire e → stop_of e ≡ so → StandsAt h held → after c e ≡ Some m →
      goes_through (Some m) calls ≡ Some d → EndsSo h' d calls → Steps held calls h' None so →
      Ends h c (e ∷ calls ++ event.Delete wire key true ∷ [])
  ends_go h held h' e calls c d m so f stop at by through ih (goes asked) =
      ended_or_on h held h' e calls c d m (is_ended (outcome_in false m.progress)) refl f stop at by through ih asked
  ends_go h held h' e calls c d m so f stop at by through ih (again x side asked) =
      let was = is-reported (h.is_waiting x) (h.was_reported x) (side_held x held) side (side-at h held x at) in
      leads-call finished h c m e (calls ++ event.Delete wire key true ∷ []) (conversing key m) f by
      (after-stopped h e m x true false stop was.1 was.0)
      (ih (here_by h e) (stopped_held x held) m
      (stands-stopped wire e h held x f stop (λ idle. let r : Reported ≡ Idle = sym side ∙ idle in absurd (cc)) at)
      asked through (open-paused c e x m stop by))
  ends_go h held h' e calls c d m so f stop at by through ih (arms x side none is over) =
      absurd (none-some (registry.arming (stopped_held x held)) over)
  ends_go h held h' e calls c d m so f stop at by through ih (rests x side none is over) =
      absurd (none-some [] over)

  -- calls until the session has ended, and the removal of its source
  pub ends-stay : (calls : List Event) (h : Here) (held h' : Held) (c d : Course) →
      AreCalls wire calls → StandsAt h held → Asks held calls h' None → goes_through (Some c) calls ≡ Some d →
      IsOpen c → is_ended (outcome_in false d.progress) ≡ true →
      Ends h c (calls ++ event.Delete wire key true ∷ [])
  ends-stay [] h held h' c d own at asked through open_ ended =
      absurd (both_ways (is_ended (outcome_in false d.progress)) (subst IsOpen (same_Some c d through) open_) ended)
  ends-stay (e ∷ calls) h held h' c d own at asked through open_ ended =
      let f : OfCall wire e = of-call wire e own.0 in
      let m = moved c e calls d through in
      ends_go h held h' e calls c d m.mid (stop_of e) f refl at m.by m.rest
      (λ h1 held1 c1 at1 asked1 through1 open1.
      ends-stay calls h1 held1 h' c1 d own.1 at1 asked1 through1 open1 ended)
      (steps wire e calls held h' None f asked)
