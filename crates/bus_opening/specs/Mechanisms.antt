-- The names of the mechanisms (D-Bus specification, Authentication Protocol).
use Rattle.std.specs.Prelude.{ℕ, if◌then◌else◌, List, codes, Option, Some, None}
use Rattle.std.specs.Str.{bytes_eq}
use Rattle.bus_opening.specs.declared.mechanism.AuthMechanism.{AuthMechanism}
use Rattle.bus_opening.specs.declared.mechanism.AuthMechanism.TheVariants.{External, Anonymous}

-- the mechanism of a name
abbrev pub mechanism : List ℕ → Option AuthMechanism
mechanism name =
    if bytes_eq name (codes "EXTERNAL") then Some External
    else if bytes_eq name (codes "ANONYMOUS") then Some Anonymous
    else None

-- the name of a mechanism
abbrev pub name_of : AuthMechanism → List ℕ
name_of External = codes "EXTERNAL"
name_of Anonymous = codes "ANONYMOUS"
