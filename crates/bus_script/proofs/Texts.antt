-- Bytes as words, and lists of words as texts.
use Rattle.std.proofs.Common.{◌≡◌, ℕ, ◌<◌, List, [], ◌∷◌, ◌++◌, map, length, refl, sym, ◌∙◌, ap, arith, append_assoc, codes}
use Rattle.std.specs.List.{join_with_byte, flat_map}
use Rattle.std.specs.Fmt.{decimal}
use Rattle.std.proofs.lemmas.List.{append-nil}
use Rattle.hex.specs.Hex.{encode_lower}
use Rattle.react_core.specs.declared.outside.Peer.{Peer}
use Rattle.react_core.specs.declared.outside.Report.{Report}
use Rattle.react_core.specs.declared.outside.Question.{Question}
use Rattle.react_core.specs.declared.outside.Question.TheVariants as questions
use Rattle.react_core.specs.declared.outside.DialAnswer.{DialAnswer}
use Rattle.react_core.specs.declared.outside.DialAnswer.TheVariants as dials
use Rattle.bus_script.specs.Printed.{bytes_word, peer_word, report_word, question_words, dial_words, words_text, optional_word, flag_word}

pub some_bytes : (bs : List ℕ) → 0 < length bs → encode_lower bs ≡ bytes_word bs
some_bytes [] some = absurd (omega arith)
some_bytes (b ∷ bs) some = refl

pub no_bytes : (bs : List ℕ) → length bs ≡ 0 → codes "." ≡ bytes_word bs
no_bytes [] none = refl
no_bytes (b ∷ bs) none = absurd (omega arith)

joined : {A : Type 0} (f : A → List ℕ) (w : List ℕ) (xs : List A) →
    join_with_byte 32 (w ∷ map f xs) ≡ w ++ flat_map (λ x. 32 ∷ f x) xs
joined f w [] = sym (append-nil w)
joined f w (x ∷ xs) = ap (λ v. w ++ 32 ∷ v) (joined f (f x) xs)

pub reports_joined : (rs : List Report) → codes "reports" ++ flat_map (λ r. 32 ∷ report_word r) rs ≡ words_text
    (codes "reports" ∷ map report_word rs)
reports_joined rs = sym (joined report_word (codes "reports") rs)

pub peers_joined : (ps : List Peer) → codes "peers" ++ flat_map (λ p. 32 ∷ peer_word p) ps ≡ words_text
    (codes "peers" ∷ map peer_word ps)
peers_joined ps = sym (joined peer_word (codes "peers") ps)

pub start_joined : (program arg0 : List ℕ) (args : List (List ℕ)) →
    words_text (codes "start" ∷ program ∷ arg0 ∷ map bytes_word args) ≡ codes "start " ++ program
    ++ 32 ∷ (arg0 ++ flat_map (λ bs. 32 ∷ bytes_word bs) args)
start_joined program arg0 args = ap (λ v. codes "start " ++ program ++ 32 ∷ v) (joined bytes_word arg0 args)

-- two lists of words with one space between them
both_joined : (x y : List ℕ) (xs ys : List (List ℕ)) →
    words_text ((x ∷ xs) ++ y ∷ ys) ≡ words_text (x ∷ xs) ++ 32 ∷ words_text (y ∷ ys)
both_joined x y [] ys = refl
both_joined x y (z ∷ xs) ys = ap (λ v. x ++ 32 ∷ v) (both_joined z y xs ys)
    ∙ sym (append_assoc x (32 ∷ words_text (z ∷ xs)) (32 ∷ words_text (y ∷ ys)))

pub bare_start_joined : (program : List ℕ) (args : List (List ℕ)) →
    words_text (codes "start" ∷ program ∷ codes "-" ∷ map bytes_word args) ≡ codes "start "
    ++ (program ++ (codes " -" ++ flat_map (λ bs. 32 ∷ bytes_word bs) args))
bare_start_joined program args = start_joined program (codes "-") args

some_question : (q : Question) → (x : List ℕ) × (xs : List (List ℕ)) × (question_words q ≡ x ∷ xs)
some_question (questions.Unix path) = (codes "unix", bytes_word path ∷ [], refl)
some_question (questions.Abstract name) = (codes "abstract", bytes_word name ∷ [], refl)
some_question (questions.Lookup host port) = (codes "lookup", bytes_word host ∷ decimal port ∷ [], refl)
some_question (questions.Tcp peer) = (codes "tcp", peer_word peer ∷ [], refl)
some_question (questions.Nonce file) = (codes "nonce", bytes_word file ∷ [], refl)
some_question (questions.Start program arg0 args) = (
  codes "start",
  bytes_word program ∷ optional_word arg0 ∷ map
      bytes_word args,
  refl,
)
some_question questions.Ibus = (codes "ibus", [], refl)
some_question questions.Accept = (codes "accept", [], refl)

some_dial : (a : DialAnswer) → (y : List ℕ) × (ys : List (List ℕ)) × (dial_words a ≡ y ∷ ys)
some_dial (dials.Opened passes) = (codes "open", flag_word passes ∷ [], refl)
some_dial (dials.Found ps) = (codes "peers", map peer_word ps, refl)
some_dial (dials.Nonce bs) = (codes "nonce", bytes_word bs ∷ [], refl)
some_dial (dials.Output success text) = (codes "output", flag_word success ∷ bytes_word text ∷ [], refl)
some_dial dials.Failed = (codes "fault", [], refl)

dial_shape : (w x y : List ℕ) (xs ys : List (List ℕ)) → words_text (codes "dial" ∷ w ∷ ((x ∷ xs) ++ codes "=" ∷ y ∷ ys))
    ≡ codes "dial " ++ (w ++ 32 ∷ (words_text (x ∷ xs) ++ (codes " = " ++ words_text (y ∷ ys))))
dial_shape w x y xs ys = ap (λ v. codes "dial " ++ w ++ 32 ∷ v) (both_joined x (codes "=") xs (y ∷ ys))

pub dial_joined : (w : List ℕ) (q : Question) (a : DialAnswer) →
    words_text (codes "dial" ∷ w ∷ (question_words q ++ codes "=" ∷ dial_words a)) ≡ codes "dial "
    ++ (w ++ 32 ∷ (words_text (question_words q) ++ (codes " = " ++ words_text (dial_words a))))
dial_joined w q a =
    let asked = some_question q in
    let answered = some_dial a in
    rw (asked.2, answered.2) (dial_shape w asked.0 answered.0 asked.1 answered.1)
