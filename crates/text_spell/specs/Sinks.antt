-- Sinks of bytes: what they hold, what room they have, and what it means that bytes are put.
use Rattle.std.specs.Prelude.{◌≡◌, ℕ, ◌<◌, ◌++◌, length, take, drop, Result, OnOk, OnErr}
use Rattle.rules.specs.Names.{Bytes}

-- what a sink holds; its room, that is the bytes that the next ones are written over; and the name of the loan that it is, if it is one
pub record Place : Type 0 where
  pub held : Bytes
  pub room : Bytes
  pub loan : ℕ

-- what was there is still there, at the front
abbrev pub Keeps : Bytes → Bytes → Type 0
Keeps old new = take (length old) new ≡ old

-- these bytes were put; or there was no room for all of them: then what the sink held is kept, and some of them may stand behind it
pub record Puts {E : Type 0} (old : Place) (bs : Bytes) (result : Result (Unit {0}) E) (new : Place) : Type 0 where
  pub puts : OnOk result (new.held ≡ old.held ++ bs)
  pub rest : OnOk result (new.room ≡ drop (length bs) old.room)
  pub full : OnErr result (length old.room < length bs)
  pub kept : Keeps old.held new.held
  pub same : new.loan ≡ old.loan
