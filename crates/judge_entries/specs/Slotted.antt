-- The entries by variable.
use Rattle.std.specs.Prelude.{◌≡◌, not, List, ◌≤◌, length}
use Rattle.rules.specs.Calls.{Entry, differ}
use Rattle.judge_entries.specs.Entries.{variablesOf, slots_of}
use Rattle.judge_entries.specs.declared.inner.Slots.{Slots}

-- the slots, the repeat and the count of entries; where they are too many, the repeat is not looked for
pub record Slotted (es : List Entry) (s : Slots) : Type 0 where
  pub slots : s.places ≡ slots_of es
  pub again : s.count ≤ 2048 → s.repeated ≡ not (differ (variablesOf es))
  pub many : s.count ≡ length es
