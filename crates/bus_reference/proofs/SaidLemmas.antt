-- What is said, from the first line on.
use Rattle.std.proofs.Common.{◌≡◌, ℕ, List, [], ◌∷◌, refl}
use Rattle.bus_opening.specs.Talk.{Said, Turn, goes, ends, onto, said_of, turn_from, talk}
use Rattle.bus_opening.specs.Client.{Terms, opening, client, step, settings_of, first}
use Rattle.bus_opening.specs.Server.{ServerTerms, server, server_step, start}
use Rattle.bus_reference.specs.Views.{ahead}

said_onto : {P : Type 0} (b : List (List ℕ)) (t : Turn P) → ahead b (said_of t) ≡ said_of (onto b t)
said_onto b (goes pieces phase) = refl
said_onto b (ends pieces status) = refl

-- a line more, and what is said after the others
pub said_more : {P : Type 0} (step : P → List ℕ → Turn P) (phase next : P) (ls others b : List (List ℕ)) (line : List ℕ) (s : Said)
    → ls ≡ line ∷ others → goes b next ≡ step phase line → s ≡ said_of (turn_from step next others) → ahead b s ≡ said_of (turn_from step phase ls)
said_more step phase next ls others b line s e f g = rw (e, ← f, g) (said_onto b (turn_from step next others))

pub client_is : (t : Terms) (ls b : List (List ℕ)) (s : Said) → b ≡ opening t → s ≡ said_of (turn_from (step (settings_of t)) first ls) → ahead b s ≡ client t ls
unfolding client talk
client_is t ls b s e f = rw (e, f) (said_onto (opening t) (turn_from (step (settings_of t)) first ls))

nothing_ahead : {P : Type 0} (t : Turn P) → said_of t ≡ said_of (onto [] t)
nothing_ahead (goes pieces phase) = refl
nothing_ahead (ends pieces status) = refl

pub server_is : (t : ServerTerms) (ls : List (List ℕ)) → said_of (turn_from (server_step t) start ls) ≡ server t ls
unfolding server talk
server_is t ls = nothing_ahead (turn_from (server_step t) start ls)
