-- The six kinds of the sessions of a bulk run, and what a session of each kind is.
use Rattle.std.specs.Prelude.{ℕ, ◌%◌, ◌==◌, List, [], ◌∷◌, Option, Some, None, false, codes, if◌then◌else◌}
use Rattle.bus_opening.specs.declared.mechanism.AuthMechanism.TheVariants.{External}
use Rattle.bus_session.specs.declared.session.Party.{Party}
use Rattle.bus_session.specs.declared.session.Party.TheVariants as parties
use Rattle.bus_session.specs.declared.session.Session.{Session}
use Rattle.bus_script.specs.Printed.{number_word}
use Rattle.bus_bulk.specs.declared.kind.Kind.{Kind}
use Rattle.bus_bulk.specs.declared.kind.Kind.TheVariants as kinds

-- the kind of the session of a number: the six take turns
unfoldable pub kind_of : ℕ → Kind
kind_of session =
    if session % 6 == 0 then kinds.Accepted
    else if session % 6 == 1 then kinds.AcceptedByBytes
    else if session % 6 == 2 then kinds.Serving
    else if session % 6 == 3 then kinds.Refused
    else if session % 6 == 4 then kinds.CutOff
    else kinds.Unanswered

-- the GUID of every server
abbrev pub own_guid : List ℕ
own_guid = codes "1234deadbeef1234deadbeef12345678"

-- the moment at which a session stops waiting, in nanoseconds
abbrev pub deadline_of : Kind → Option ℕ
deadline_of kinds.Unanswered = Some 100
deadline_of _ = None

-- a server that lets user 1000 in, or a client of user 1000
abbrev pub party_of : Kind → Party
party_of kinds.Serving =
    parties.Server (record { guid = own_guid; mechanism = External; permitted = Some 1000 })
party_of _ =
    parties.Client (codes "unix:path=/run/a") (record {
      mechanism = Some External;
      user = 1000;
      hello = None;
      flatpak = false;
    })

-- the session
unfoldable pub session_of : Kind → Session
session_of kind = record { party = party_of kind; deadline = deadline_of kind }

-- the words of the session's line: GUID, mechanism, permitted user and deadline of a server; mechanism, user, bytes
-- behind the opening, flag of a flatpak, deadline and address of a client
unfoldable pub session_words : Kind → List (List ℕ)
session_words kinds.Serving =
    codes "server" ∷ own_guid ∷ codes "EXTERNAL" ∷ codes "1000" ∷ codes "-" ∷ []
session_words kind =
    codes "client" ∷ codes "EXTERNAL" ∷ codes "1000" ∷ codes "-" ∷ codes "n" ∷ number_word (deadline_of kind)
    ∷ codes "unix:path=/run/a" ∷ []
