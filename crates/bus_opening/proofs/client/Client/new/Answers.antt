use Rattle.std.proofs.Common.{◌≡◌, ◌∙◌, ℕ, List, [], ◌∷◌, ◌++◌, false, refl, sym, ap, subst}
use Rattle.bus_opening.specs.declared.mechanism.AuthMechanism.{AuthMechanism}
use Rattle.bus_opening.specs.declared.exchange.ClientStage.TheVariants as client_stage
use Rattle.bus_opening.specs.declared.exchange.Stage.TheVariants as stage
use Rattle.bus_opening.specs.declared.part.ClientPart.{ClientPart}
use Rattle.bus_opening.specs.declared.part.Part.TheVariants as part
use Rattle.bus_opening.specs.Client.{Settings, auth_line, end, piece, terms_of, client}
use Rattle.bus_opening.specs.Openings.{Opening, StandsIn}
use Rattle.bus_opening.proofs.Starting.{client_starts}
use Rattle.bus_opening.proofs.client.Client.new.Goals as goal

pub returns-clause-stands : goal.returns-clause-stands
returns-clause-stands c =
    let own : List ℕ → ClientPart = λ hello. record { hello = hello; flatpak = c.args.config.now.flatpak; expected = c.args.expected; passes = c.args.passes } in
    let settings : List ℕ → Settings = λ hello. record { hello = hello; flatpak = c.args.config.now.flatpak; expected = c.args.expected; passes = c.args.passes } in
    let o : Opening = record {
      part = part.Client (own c.in_ok-hello.hello);
      stage = stage.Client client_stage.First;
      waiting = c.in_ok-outbox.outbox.waiting;
      count = 0;
      rest = [];
      written = c.in_ok-outbox.outbox.written;
      ended = false;
    } in
    let line : c.as_slice.result.now ≡ 0 ∷ auth_line c.mechanism_of-mechanism.result c.args.config.now.user ++ end = c.as_slice.ensures.value ∙ c.in_ok-line.ensures in
    let chosen = ap (λ (m : AuthMechanism). 0 ∷ auth_line m c.args.config.now.user ++ end) c.mechanism_of-mechanism.ensures in
    let terms = terms_of c.args.config.now c.args.expected c.args.passes c.args.tcp c.args.nonce.now in
    let starts : StandsIn (client terms) [] o = client_starts terms (own c.in_ok-hello.hello) o (ap settings c.in_ok-hello.ensures) refl refl
    (c.in_ok-outbox.ensures.0 ∙ ap (λ (bytes : List ℕ). piece c.args.nonce.now ++ piece bytes) (line ∙ chosen)) refl refl c.in_ok-outbox.ensures.1 in
    subst (λ (x : Opening). StandsIn (client terms) [] x) (sym c.new.ensures) starts
