-- Arguments that are read one by one, and other values.
use Rattle.std.proofs.Common.{◌≡◌, ℕ, suc, ◌+◌, ◌-◌, ◌<◌, ◌≤◌, List, [], ◌∷◌, ◌++◌, map, Option, Some, None, Result, Ok, Err, refl, sym, ap, ◌∙◌, arith, append_assoc}
use Rattle.std.proofs.lemmas.List.{append-nil}
use Rattle.bus_address.specs.declared.error.AddressKind.{AddressKind}
use Rattle.bus_address.specs.Errors.{◌>>=◌}
use Rattle.bus_address.specs.Values.{decoded, optional}
use Rattle.bus_address.specs.Reading.{arguments_from, all_decoded, up_to_missing}

-- arguments with others in front
abbrev pub with_arguments : List (List ℕ) → Result (List (List ℕ)) AddressKind → Result (List (List ℕ)) AddressKind
with_arguments front read = read >>= λ others. Ok (front ++ others)

-- the arguments that are left at the index i
abbrev pub left_from : (ℕ → Option (List ℕ)) → ℕ → ℕ → Result (List (List ℕ)) AddressKind
left_from argument len i = all_decoded (arguments_from argument (i + 1) (len - i))

with_arguments-nil : (read : Result (List (List ℕ)) AddressKind) → with_arguments [] read ≡ read
with_arguments-nil (Ok others) = refl
with_arguments-nil (Err k) = refl

with_arguments-push : (front : List (List ℕ)) (x : List ℕ) (read : Result (List (List ℕ)) AddressKind)
    → with_arguments (front ++ x ∷ []) read ≡ with_arguments front (read >>= λ others. Ok (x ∷ others))
with_arguments-push front x (Ok others) = ap Ok (append_assoc front (x ∷ []) others)
with_arguments-push front x (Err k) = refl

turn : (argument : ℕ → Option (List ℕ)) (len i : ℕ) → i < len → arguments_from argument (i + 1) (len - i) ≡ up_to_missing (argument (i + 1)) (arguments_from argument (i + 1 + 1) (len - (i + 1)))
turn argument len i inside =
    let left : len - i ≡ suc (len - (i + 1)) = omega arith in
    let next : suc (i + 1) ≡ i + 1 + 1 = omega arith in
    ap (arguments_from argument (i + 1)) left ∙ ap (λ m. up_to_missing (argument (i + 1)) (arguments_from argument m (len - (i + 1)))) next

pub arguments_none : (argument : ℕ → Option (List ℕ)) (len : ℕ) → with_arguments [] (left_from argument len 0) ≡ all_decoded (arguments_from argument 1 len)
arguments_none argument len =
    let whole : len - 0 ≡ len = omega arith in
    with_arguments-nil (left_from argument len 0) ∙ ap (λ n. all_decoded (arguments_from argument 1 n)) whole

pub arguments_more : (argument : ℕ → Option (List ℕ)) (len i : ℕ) (front new : List (List ℕ)) (text bytes : List ℕ)
    (read : Result (List (List ℕ)) AddressKind)
    → i < len → argument (i + 1) ≡ Some text → decoded text ≡ Ok bytes → new ≡ front ++ bytes ∷ []
    → with_arguments front (left_from argument len i) ≡ read
    → with_arguments new (left_from argument len (i + 1)) ≡ read
arguments_more argument len i front new text bytes read inside is_there says pushed sofar =
    ap (λ v. with_arguments v (left_from argument len (i + 1))) pushed
    ∙ with_arguments-push front bytes (left_from argument len (i + 1))
    ∙ sym (ap (λ d. with_arguments front (d >>= λ b. (left_from argument len (i + 1) >>= λ others. Ok (b ∷ others)))) says)
    ∙ sym (ap (λ o. with_arguments front (all_decoded (up_to_missing o (arguments_from argument (i + 1 + 1) (len - (i + 1)))))) is_there)
    ∙ sym (ap (λ a. with_arguments front (all_decoded a)) (turn argument len i inside))
    ∙ sofar

pub arguments_missing : (argument : ℕ → Option (List ℕ)) (len i : ℕ) (front : List (List ℕ))
    (read : Result (List (List ℕ)) AddressKind)
    → i < len → argument (i + 1) ≡ None → with_arguments front (left_from argument len i) ≡ read → read ≡ Ok front
arguments_missing argument len i front read inside missing sofar =
    sym sofar
    ∙ ap (λ a. with_arguments front (all_decoded a)) (turn argument len i inside)
    ∙ ap (λ o. with_arguments front (all_decoded (up_to_missing o (arguments_from argument (i + 1 + 1) (len - (i + 1)))))) missing
    ∙ ap Ok (append-nil front)

pub arguments_refused : (argument : ℕ → Option (List ℕ)) (len i : ℕ) (front : List (List ℕ)) (text : List ℕ)
    (k : AddressKind) (read : Result (List (List ℕ)) AddressKind)
    → i < len → argument (i + 1) ≡ Some text → decoded text ≡ Err k
    → with_arguments front (left_from argument len i) ≡ read → read ≡ Err k
arguments_refused argument len i front text k read inside is_there says sofar =
    sym sofar
    ∙ ap (λ a. with_arguments front (all_decoded a)) (turn argument len i inside)
    ∙ ap (λ o. with_arguments front (all_decoded (up_to_missing o (arguments_from argument (i + 1 + 1) (len - (i + 1)))))) is_there
    ∙ ap (λ d. with_arguments front (d >>= λ b. (left_from argument len (i + 1) >>= λ others. Ok (b ∷ others)))) says

pub arguments_end : (argument : ℕ → Option (List ℕ)) (len i : ℕ) (front : List (List ℕ))
    (read : Result (List (List ℕ)) AddressKind)
    → len ≤ i → with_arguments front (left_from argument len i) ≡ read → read ≡ Ok front
arguments_end argument len i front read past sofar =
    let none : len - i ≡ 0 = omega arith in
    sym sofar ∙ ap (λ n. with_arguments front (all_decoded (arguments_from argument (i + 1) n))) none ∙ ap Ok (append-nil front)

read_value : (r : Result (List ℕ) AddressKind) (bytes : List ℕ) → (r >>= λ x. Ok (Some x)) ≡ Ok (Some bytes) → r ≡ Ok bytes
read_value (Ok x) bytes h = cc
read_value (Err k) bytes h = absurd cc

read_none : (r : Result (List ℕ) AddressKind) → (r >>= λ x. Ok (Some x)) ≡ Ok None → ⊥
read_none (Ok x) h = cc
read_none (Err k) h = cc

read_refusal : (r : Result (List ℕ) AddressKind) (k : AddressKind) → (r >>= λ x. Ok (Some x)) ≡ Err k → r ≡ Err k
read_refusal (Ok x) k h = absurd cc
read_refusal (Err d) k h = cc

next_by : (o : Option (List ℕ)) (argument : ℕ → Option (List ℕ)) (len i : ℕ) (front new : List (List ℕ))
    (bytes : List ℕ) (read : Result (List (List ℕ)) AddressKind)
    → argument (i + 1) ≡ o → i < len → optional decoded o ≡ Ok (Some bytes) → new ≡ front ++ bytes ∷ []
    → with_arguments front (left_from argument len i) ≡ read
    → with_arguments new (left_from argument len (i + 1)) ≡ read
next_by None argument len i front new bytes read is inside says pushed sofar = absurd cc
next_by (Some text) argument len i front new bytes read is inside says pushed sofar =
    arguments_more argument len i front new text bytes read inside is (read_value (decoded text) bytes says) pushed sofar

-- an argument that is there
pub arguments_next : (argument : ℕ → Option (List ℕ)) (len i : ℕ) (front new : List (List ℕ)) (bytes : List ℕ)
    (read : Result (List (List ℕ)) AddressKind)
    → i < len → optional decoded (argument (i + 1)) ≡ Ok (Some bytes) → new ≡ front ++ bytes ∷ []
    → with_arguments front (left_from argument len i) ≡ read
    → with_arguments new (left_from argument len (i + 1)) ≡ read
arguments_next argument len i front new bytes read inside says pushed sofar = next_by (argument (i + 1)) argument len i front new bytes read refl inside says pushed sofar

stop_by : (o : Option (List ℕ)) (argument : ℕ → Option (List ℕ)) (len i : ℕ) (front : List (List ℕ))
    (read : Result (List (List ℕ)) AddressKind)
    → argument (i + 1) ≡ o → i < len → optional decoded o ≡ Ok None
    → with_arguments front (left_from argument len i) ≡ read → read ≡ Ok front
stop_by None argument len i front read is inside says sofar = arguments_missing argument len i front read inside is sofar
stop_by (Some text) argument len i front read is inside says sofar = absurd (read_none (decoded text) says)

-- the first that is missing
pub arguments_stop : (argument : ℕ → Option (List ℕ)) (len i : ℕ) (front : List (List ℕ))
    (read : Result (List (List ℕ)) AddressKind)
    → i < len → optional decoded (argument (i + 1)) ≡ Ok None → with_arguments front (left_from argument len i) ≡ read
    → read ≡ Ok front
arguments_stop argument len i front read inside says sofar = stop_by (argument (i + 1)) argument len i front read refl inside says sofar

fail_by : (o : Option (List ℕ)) (argument : ℕ → Option (List ℕ)) (len i : ℕ) (front : List (List ℕ)) (k : AddressKind)
    (read : Result (List (List ℕ)) AddressKind)
    → argument (i + 1) ≡ o → i < len → optional decoded o ≡ Err k
    → with_arguments front (left_from argument len i) ≡ read → read ≡ Err k
fail_by None argument len i front k read is inside says sofar = absurd cc
fail_by (Some text) argument len i front k read is inside says sofar =
    arguments_refused argument len i front text k read inside is (read_refusal (decoded text) k says) sofar

-- one that is refused
pub arguments_fail : (argument : ℕ → Option (List ℕ)) (len i : ℕ) (front : List (List ℕ)) (k : AddressKind)
    (read : Result (List (List ℕ)) AddressKind)
    → i < len → optional decoded (argument (i + 1)) ≡ Err k → with_arguments front (left_from argument len i) ≡ read
    → read ≡ Err k
arguments_fail argument len i front k read inside says sofar = fail_by (argument (i + 1)) argument len i front k read refl inside says sofar

pub map_push : {X Y : Type 0} (f : X → Y) (xs : List X) (x : X) → map f (xs ++ x ∷ []) ≡ map f xs ++ f x ∷ []
map_push f [] x = refl
map_push f (y ∷ ys) x = ap (λ v. f y ∷ v) (map_push f ys x)
