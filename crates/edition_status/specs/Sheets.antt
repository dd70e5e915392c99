-- What a reader has, as a sheet.
use Rattle.std.specs.Prelude.{◌≡◌, ℕ, ◌≤◌, ◌<◌, ⊤, length, replicate, Result, Ok, Err, Vec}
use Rattle.std.specs.declared.alloc.Global.{Global}
use Rattle.rules.specs.Names.{Bytes}
use Rattle.rules.specs.declared.Unseen.{Unseen}
use Rattle.rules.specs.declared.Unseen.TheVariants.{NotOpened, NotRead, TooLong}

-- room for the bytes of a sheet, and for one that is too many: all zero
unfoldable pub noBytes : Bytes
noBytes = replicate 1048577 0

-- a sheet is all that its reader had; it is too long above 1,048,576 bytes; a read may fail
abbrev pub IsSheetOf : Bytes → Result (Vec ℕ Global) Unseen → Type 0
IsSheetOf bs (Ok v) = (v.items ≡ bs) × (length bs ≤ 1048576)
IsSheetOf bs (Err TooLong) = 1048576 < length bs
IsSheetOf bs (Err NotRead) = ⊤
IsSheetOf bs (Err NotOpened) = ⊥
