-- What a party says after some lines is the front of what it says after more.
use Rattle.std.proofs.Common.{◌≡◌, ℕ, List, [], ◌∷◌, ◌++◌, refl, sym, ap, ◌∙◌, append_assoc}
use Rattle.std.specs.List.{concat}
use Rattle.std.proofs.lemmas.List.{append-nil}
use Rattle.std.proofs.lemmas.List.Folds.{concat-append}
use Rattle.bus_opening.specs.Talk.{Said, Turn, goes, ends, onto, then_turn, turn_from, said_of, Side, talk}
use Rattle.bus_opening.specs.Client.{client, client_side, terms_of}
use Rattle.bus_opening.specs.Server.{server, server_side, server_terms_of}
use Rattle.bus_session.specs.declared.session.Party.{Party}
use Rattle.bus_session.specs.declared.session.Party.TheVariants as party
use Rattle.bus_session.specs.Dialling.{Opened, conversation, guid_in}
use Rattle.bus_address.specs.Reading.{address}

-- pieces behind which others come
abbrev pub Begins : List (List ℕ) → List (List ℕ) → Type 0
Begins ps qs = (others : List (List ℕ)) × (qs ≡ ps ++ others)

abbrev pub Grows : (List (List ℕ) → Said) → Type 0
Grows talk = (ls more : List (List ℕ)) → Begins (talk ls).pieces (talk (ls ++ more)).pieces

pieces-onto : {Phase : Type 0} (ps : List (List ℕ)) (t : Turn Phase) → (said_of (onto ps t)).pieces ≡ ps ++ (said_of t).pieces
pieces-onto ps (goes qs phase) = refl
pieces-onto ps (ends qs status) = refl

onto-begins : {Phase : Type 0} (ps : List (List ℕ)) (t u : Turn Phase) →
    Begins (said_of t).pieces (said_of u).pieces → Begins (said_of (onto ps t)).pieces (said_of (onto ps u)).pieces
onto-begins ps t u b = (
  b.0,
  pieces-onto ps u
      ∙ ap (λ (qs : List (List ℕ)). ps ++ qs) b.1
      ∙ sym (append_assoc ps (said_of t).pieces b.0)
      ∙ ap (λ (qs : List (List ℕ)). qs ++ b.0) (sym (pieces-onto ps t)),
)

then-begins : {Phase : Type 0} (t : Turn Phase) (f g : Phase → Turn Phase) →
    ((p : Phase) → Begins (said_of (f p)).pieces (said_of (g p)).pieces) →
    Begins (said_of (then_turn t f)).pieces (said_of (then_turn t g)).pieces
then-begins (goes ps phase) f g h = onto-begins ps (f phase) (g phase) (h phase)
then-begins (ends ps status) f g h = ([], sym (append-nil ps))

from-begins : {Phase : Type 0} (step : Phase → List ℕ → Turn Phase) (ls more : List (List ℕ)) (phase : Phase) →
    Begins (said_of (turn_from step phase ls)).pieces (said_of (turn_from step phase (ls ++ more))).pieces
from-begins step [] more phase = ((said_of (turn_from step phase more)).pieces, refl)
from-begins step (l ∷ ls) more phase =
    then-begins (step phase l) (λ next. turn_from step next ls) (λ next. turn_from step next (ls ++ more))
    (λ next. from-begins step ls more next)

talk-grows : {Phase : Type 0} (side : Side Phase) → Grows (talk side)
unfolding talk
talk-grows side ls more =
    onto-begins side.opening (turn_from side.step side.start ls) (turn_from side.step side.start (ls ++ more))
    (from-begins side.step ls more side.start)

-- so does each party's conversation
pub conversation-grows : (p : Party) (o : Opened) → Grows (conversation p o)
unfolding client server
conversation-grows (party.Client text config) o =
    talk-grows (client_side (terms_of config (guid_in (address text)) o.passes o.tcp o.nonce))
conversation-grows (party.Server config) o = talk-grows (server_side (server_terms_of config o.passes))

-- bytes that are the front of these
abbrev pub IsFront : List ℕ → List ℕ → Type 0
IsFront bytes whole = (rest : List ℕ) × (whole ≡ bytes ++ rest)

pub front-grows : (ps qs : List (List ℕ)) (bytes : List ℕ) → Begins ps qs → IsFront bytes (concat ps) →
    IsFront bytes (concat qs)
front-grows ps qs bytes b f = (
  f.0 ++ concat b.0,
  ap concat b.1
      ∙ concat-append ps b.0
      ∙ ap (λ (x : List ℕ). x ++ concat b.0) f.1
      ∙ append_assoc bytes f.0 (concat b.0),
)
