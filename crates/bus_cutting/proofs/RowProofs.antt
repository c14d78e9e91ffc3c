-- The rows, by computation.
use Rattle.std.proofs.Common.{◌≡◌, ℕ, Bool, true, false, ◌||◌, List, [], ◌∷◌, ◌++◌, refl, ap, sym, ◌∙◌}
use Rattle.std.specs.Fmt.{digits}
use Rattle.std.specs.List.{list_any}
use Rattle.std.specs.Str.{is_utf8, chars}
use lib.Utf8.{encode}
use Rattle.hex.specs.Hex.{encode_with}
use Rattle.react_core.specs.declared.outside.Event.{Event}
use Rattle.react_core.specs.declared.outside.Event.TheVariants as event
use Rattle.react_core.specs.declared.outside.RecvAnswer.TheVariants as recv_answer
use Rattle.react_core.specs.declared.outside.SendAnswer.TheVariants as send_answer
use Rattle.bus_opening.specs.Talk.{ask, ask_from, looked_from, left, talk}
use Rattle.bus_opening.specs.Client.{client}
use Rattle.bus_opening.specs.Server.{server}
use Rattle.bus_session.specs.declared.ended.Ending.TheVariants as ending
use Rattle.bus_session.specs.Alone.{course}
use Rattle.bus_cutting.specs.Converse.{conversed}
use Rattle.bus_cutting.specs.Rows as row

unfoldable pub computes : ℕ
unfolding course ask ask_from looked_from left talk client server encode_with digits is_utf8 chars encode conversed
computes = 0

pub whole_rows : row.WholeRows
unfolding computes
whole_rows = record { gone = refl; broken = refl; waits = refl; full = refl; enough = refl; refused = refl }

-- an end or a failure of the wire
abbrev stops : Event → Bool
stops (event.Recv wire asked recv_answer.End) = true
stops (event.Recv wire asked recv_answer.Failed) = true
stops (event.Send wire offered send_answer.Failed) = true
stops e = false

-- among events without one there is no place for one
no_place : (events before behind : List Event) (e : Event) → list_any stops events ≡ false →
    events ≡ before ++ (e ∷ behind) → stops e ≡ true → ⊥
no_place [] [] behind e none is stop = cc
no_place [] (b ∷ before) behind e none is stop = cc
no_place (x ∷ events) [] behind e none is stop = at_front (stops x) refl none
  where
    same : x ≡ e
    same = cc

    at_front : (c : Bool) → stops x ≡ c → (c || list_any stops events) ≡ false → ⊥
    at_front true f g = cc
    at_front false f g = let off : stops e ≡ false = ap stops (sym same) ∙ f in cc
no_place (x ∷ events) (b ∷ before) behind e none is stop =
    no_place events before behind e (further (stops x) none) others stop
  where
    others : events ≡ before ++ (e ∷ behind)
    others = cc

    further : (c : Bool) → (c || list_any stops events) ≡ false → list_any stops events ≡ false
    further true g = absurd cc
    further false g = g

not_timed_out : ending.Handshake ≡ ending.TimedOut → ⊥
not_timed_out e = cc

not_waiting : ending.Handshake ≡ ending.Waiting → ⊥
not_waiting e = cc

pub cut_rows : row.CutRows
unfolding computes
cut_rows = record {
  one = record {
    opens = refl;
    draws = record {
      left = [];
      came = refl;
      ends = λ before behind wire asked e. absurd (no_place row.one_read before behind _ refl e refl);
      fails = λ before behind wire asked e. absurd (no_place row.one_read before behind _ refl e refl);
      taken = refl;
      full = λ before behind wire offered e. absurd (no_place row.one_read before behind _ refl e refl);
    };
    comes = refl;
    in_time = not_timed_out;
    over = not_waiting;
  };
  two = record {
    opens = refl;
    draws = record {
      left = [];
      came = refl;
      ends = λ before behind wire asked e. absurd (no_place row.two_reads before behind _ refl e refl);
      fails = λ before behind wire asked e. absurd (no_place row.two_reads before behind _ refl e refl);
      taken = refl;
      full = λ before behind wire offered e. absurd (no_place row.two_reads before behind _ refl e refl);
    };
    comes = refl;
    in_time = not_timed_out;
    over = not_waiting;
  };
}
