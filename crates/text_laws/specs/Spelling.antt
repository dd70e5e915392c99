-- Names and powers that were written are read back.
use Rattle.std.specs.Prelude.{ℕ, ◌<◌}

-- ══ Names ══

abbrev pub IsByte : ℕ → Type 0
IsByte b = b < 256
