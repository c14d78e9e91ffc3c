-- Worked conversations of a client, by computation.
use Rattle.std.proofs.Common.{◌≡◌, ℕ, true, false, List, [], ◌∷◌, ◌++◌, Some, None, refl}
use Rattle.std.specs.Prelude.{codes, replicate}
use Rattle.std.specs.Fmt.{digits}
use Rattle.hex.specs.Hex.{encode_with}
use Rattle.std.specs.Str.{is_utf8, chars}
use Rattle.bus_opening.specs.declared.mechanism.AuthMechanism.TheVariants.{External}
use Rattle.bus_opening.specs.Lines.{lines, long}
use Rattle.bus_opening.specs.Talk.{talk, more, done, ask, ask_from, send, recv, opens, handshake, left, looked_from}
use Rattle.bus_opening.specs.Client.{Terms, client}

abbrev G : List ℕ
G = codes "1234deadbeef1234deadbeef12345678"

abbrev K : List ℕ
K = codes "OK " ++ G ++ 13 ∷ 10 ∷ []

abbrev terms : Terms
terms = record { mechanism = External; user = 1000; hello = []; flatpak = false; expected = None; passes = false; nonce = [] }

lines_K : lines (K ++ codes "ab") ≡ record { whole = K ∷ []; rest = codes "ab" }
lines_K = refl

plain-start : client terms [] ≡ record { pieces = (0 ∷ codes "AUTH EXTERNAL 31303030" ++ 13 ∷ 10 ∷ []) ∷ []; status = more }
unfolding ask ask_from client talk digits encode_with
plain-start = refl

plain-said : client terms (K ∷ []) ≡ record { pieces = (0 ∷ codes "AUTH EXTERNAL 31303030" ++ 13 ∷ 10 ∷ []) ∷ (codes "BEGIN" ++ 13 ∷ 10 ∷ []) ∷ []; status = done G false }
unfolding ask ask_from client talk digits encode_with is_utf8 chars lib.Utf8.encode
plain-said = refl

plain-send : ask (client terms) [] 0 ≡ send (0 ∷ codes "AUTH EXTERNAL 31303030" ++ 13 ∷ 10 ∷ [])
unfolding ask ask_from client talk digits encode_with
plain-send = refl

plain-recv : ask (client terms) [] 25 ≡ recv
unfolding ask ask_from client talk digits encode_with
plain-recv = refl

plain-begin : ask (client terms) K 25 ≡ send (codes "BEGIN" ++ 13 ∷ 10 ∷ [])
unfolding ask ask_from client talk digits encode_with is_utf8 chars lib.Utf8.encode
plain-begin = refl

plain-open : ask (client terms) K 32 ≡ opens G false
unfolding ask ask_from client talk digits encode_with is_utf8 chars lib.Utf8.encode
plain-open = refl

plain-left : left (client terms) (K ++ codes "ab") 32 ≡ codes "ab"
unfolding left looked_from client talk digits encode_with is_utf8 chars lib.Utf8.encode
plain-left = refl

long_at_16385 : long (replicate 16385 97) ≡ true
long_at_16385 = refl

not_long_at_16384 : long (replicate 16384 97) ≡ false
not_long_at_16384 = refl

-- a client that asks whether descriptors pass, and has a greeting to send
abbrev daily : Terms
daily = record { mechanism = External; user = 1000; hello = 108 ∷ 1 ∷ []; flatpak = false; expected = Some G; passes = true; nonce = [] }

daily-both : ask (client daily) K 25 ≡ send (codes "NEGOTIATE_UNIX_FD" ++ 13 ∷ 10 ∷ codes "BEGIN" ++ 13 ∷ 10 ∷ 108 ∷ 1 ∷ [])
unfolding ask ask_from client talk digits encode_with is_utf8 chars lib.Utf8.encode
daily-both = refl

daily-open : ask (client daily) (K ++ codes "AGREE_UNIX_FD" ++ 13 ∷ 10 ∷ 108 ∷ 2 ∷ []) 53 ≡ opens G true
unfolding ask ask_from client talk digits encode_with is_utf8 chars lib.Utf8.encode
daily-open = refl

daily-left : left (client daily) (K ++ codes "AGREE_UNIX_FD" ++ 13 ∷ 10 ∷ 108 ∷ 2 ∷ []) 53 ≡ 108 ∷ 2 ∷ []
unfolding left looked_from client talk digits encode_with is_utf8 chars lib.Utf8.encode
daily-left = refl

-- a client that expects another GUID
abbrev wary : Terms
wary = record { mechanism = External; user = 1000; hello = []; flatpak = false; expected = Some (replicate 32 48); passes = false; nonce = [] }

wary-refuses : ask (client wary) K 25 ≡ handshake
unfolding ask ask_from client talk digits encode_with is_utf8 chars lib.Utf8.encode
wary-refuses = refl
