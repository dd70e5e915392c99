-- Lists copied to the front of a buffer, as far as it goes.
use Rattle.std.specs.Prelude.{ℕ, ◌%◌}

-- the low eight bits of a word
abbrev pub low_byte : ℕ → ℕ
low_byte w = w % 256
