-- Worked conversations of a server, by computation.
use Rattle.std.proofs.Common.{◌≡◌, ℕ, ◌*◌, Bool, true, false, List, [], ◌∷◌, ◌++◌, Some, None, refl}
use Rattle.std.specs.Prelude.{codes, replicate}
use Rattle.std.specs.List.{concat}
use Rattle.hex.specs.Hex.{decode_pairs}
use Rattle.std.specs.Str.{is_utf8, chars}
use Rattle.bus_opening.specs.declared.mechanism.AuthMechanism.TheVariants.{External}
use Rattle.bus_opening.specs.Talk.{talk, ask, ask_from, send, recv, opens, handshake, too_many_commands}
use Rattle.bus_opening.specs.Client.{end}
use Rattle.bus_opening.specs.Server.{ServerTerms, server, user_of}

abbrev G : List ℕ
G = codes "1234deadbeef1234deadbeef12345678"

abbrev K : List ℕ
K = codes "OK " ++ G ++ end

abbrev terms : Bool → ServerTerms
terms passes = record { guid = G; mechanism = External; permitted = Some 1000; passes = passes }

-- ---- the user number

user-signed : user_of (codes "+007") ≡ Some 7
user-signed = refl

user-greatest : user_of (codes "4294967295") ≡ Some 4294967295
user-greatest = refl

user-beyond : user_of (codes "4294967296") ≡ None
user-beyond = refl

user-sign_alone : user_of (codes "+") ≡ None
user-sign_alone = refl

user-two_signs : user_of (codes "++7") ≡ None
user-two_signs = refl

user-nothing : user_of [] ≡ None
user-nothing = refl

user-no_text : user_of (255 ∷ []) ≡ None
user-no_text = refl

-- ---- the user is asked for

abbrev asked : List ℕ
asked = (0 ∷ codes "AUTH EXTERNAL") ++ end ++ codes "DATA" ++ end ++ codes "BEGIN" ++ end

asked-data : ask (server (terms false)) asked 0 ≡ send (codes "DATA" ++ end)
unfolding ask ask_from server talk is_utf8 chars lib.Utf8.encode
asked-data = refl

asked-ok : ask (server (terms false)) asked 6 ≡ send K
unfolding ask ask_from server talk is_utf8 chars lib.Utf8.encode
asked-ok = refl

asked-opens : ask (server (terms false)) asked 43 ≡ opens G false
unfolding ask ask_from server talk is_utf8 chars lib.Utf8.encode
asked-opens = refl

-- ---- another mechanism

abbrev other : List ℕ
other = (0 ∷ codes "AUTH ANONYMOUS abcd") ++ end

other-rejected : ask (server (terms false)) other 0 ≡ send (codes "REJECTED EXTERNAL" ++ end)
unfolding ask ask_from server talk is_utf8 chars lib.Utf8.encode decode_pairs
other-rejected = refl

other-goes_on : ask (server (terms false)) other 19 ≡ recv
unfolding ask ask_from server talk is_utf8 chars lib.Utf8.encode decode_pairs
other-goes_on = refl

-- ---- whether descriptors pass

abbrev negotiated : List ℕ
negotiated = (0 ∷ codes "AUTH EXTERNAL 31303030") ++ end ++ codes "NEGOTIATE_UNIX_FD" ++ end ++ codes "BEGIN" ++ end

negotiated-not : ask (server (terms false)) negotiated 37 ≡ send (codes "ERROR FD-passing not possible on this socket type" ++ end)
unfolding ask ask_from server talk is_utf8 chars lib.Utf8.encode decode_pairs
negotiated-not = refl

negotiated-opens : ask (server (terms true)) negotiated 52 ≡ opens G true
unfolding ask ask_from server talk is_utf8 chars lib.Utf8.encode decode_pairs
negotiated-opens = refl

-- what was agreed stands after the client begins anew
abbrev anew : List ℕ
anew = (0 ∷ codes "AUTH EXTERNAL 31303030") ++ end ++ codes "NEGOTIATE_UNIX_FD" ++ end ++ codes "CANCEL" ++ end ++ codes "AUTH EXTERNAL 31303030" ++ end ++ codes "BEGIN" ++ end

anew-opens : ask (server (terms true)) anew 108 ≡ opens G true
unfolding ask ask_from server talk is_utf8 chars lib.Utf8.encode decode_pairs
anew-opens = refl

-- ---- lines that are refused, and too many of them

feed-refused : ask (server (terms false)) (10 ∷ []) 0 ≡ handshake
unfolding ask ask_from server talk is_utf8 chars lib.Utf8.encode
feed-refused = refl

no_nul-refused : ask (server (terms false)) (codes "AUTH" ++ end) 0 ≡ handshake
unfolding ask ask_from server talk is_utf8 chars lib.Utf8.encode
no_nul-refused = refl

too_many : ask (server (terms false)) (0 ∷ concat (replicate 64 (codes "BEGIN" ++ end))) (64 * 40) ≡ too_many_commands
unfolding ask ask_from server talk is_utf8 chars lib.Utf8.encode
too_many = refl
