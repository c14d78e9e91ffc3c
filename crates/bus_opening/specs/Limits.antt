-- The limits of a conversation, which the D-Bus specification leaves open.
use Rattle.std.specs.Prelude.{ℕ, ◌+◌}

-- so many bytes of a line may stand before its line feed
abbrev pub line_limit : ℕ
line_limit = 16384

-- so many lines are looked at
abbrev pub command_limit : ℕ
command_limit = 64

-- a read asks for so many bytes
abbrev pub read_size : ℕ
read_size = 1024

-- so many bytes that came are kept: the front of a line that may still end, and a read
abbrev pub buffer_limit : ℕ
buffer_limit = line_limit + read_size
