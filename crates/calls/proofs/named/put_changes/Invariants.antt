-- What is put so far, and how far it goes, with what is still to be put.
use mathlib.Core.Path.{◌≡◌}
use Prim.Native.Nat.{◌+◌, ◌*◌, ◌-◌, ◌≤◌}
use lib.ListN.{length}
use Rattle.std.proofs.lemmas.List.Edits.{sets}
use Rattle.calls_defined.specs.Dispatch.{changesFrom}
use Rattle.calls.proofs.named.put_changes.Given as goal

abbrev pub invariant-loop-i : goal.invariant-loop-i
invariant-loop-i l =
    let left = changesFrom l.before l.after l.i (length l.after - l.i) in
    let all = changesFrom l.before l.after 0 (length l.after) in
    (l.next ≤ l.from + 2 * l.i) × (sets l.res l.next left ≡ sets l.initial.res l.from all) × (l.next + length left ≡ l.from + length all)
