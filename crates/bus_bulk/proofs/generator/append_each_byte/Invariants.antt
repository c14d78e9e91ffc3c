use Rattle.std.proofs.Common.{◌≡◌, [], ◌∷◌, ◌++◌, map, take, string_bytes}
use Rattle.std.specs.List.{flat_map}
use Rattle.bus_script.specs.Printed.{line_text}
use Rattle.bus_bulk.specs.Replies.{gives, reply_words}
use Rattle.bus_bulk.proofs.generator.append_each_byte.Given as goal

abbrev pub invariant-loop-byte : goal.invariant-loop-byte
invariant-loop-byte l =
    string_bytes l.text ≡ string_bytes l.initial.text ++ flat_map line_text
    (map (λ byte. reply_words l.session (gives (byte ∷ []))) (take l.byte-index l.bytes))
