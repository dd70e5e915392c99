-- `names::inner::enter_new` meets its contract: no number, no bytes, or the tail comes back with the name at its front.
use mathlib.Core.Path.{◌≡◌, refl, sym, ◌∙◌, ap, ◌≡⟨◌⟩◌, ◌∎}
use mathlib.Core.List.{List, [], ◌++◌, append_assoc, append-nil}
use mathlib.Core.Option.{none}
use Prim.Native.Nat.{ℕ, ◌+◌, ◌-◌, ◌≤◌, ◌<◌}
use native.Mathlib.Numerals.{add-one}
use native.Mathlib.Omega.{arith}
use borrow.Author.Tests.{lt-ltb, le-ltb, le-leb, lt-leb}
use lib.ListN.{length, take, drop, get_or, set, length-drop, drop_of_length-le}
use lib.Seq.{take_all, drop-drop}
use Rattle.rules.specs.declared.Refusal.TheVariants.{NoRoom}
use Rattle.rules.specs.declared.Was.TheVariants.{New}
use Rattle.rules.specs.Names.{table_of, hasRoom, enterKnown}
use Rattle.laws.specs.NameTable.{start_at, Good}
use Rattle.laws.proofs.NameTable.{used-within, room-is, new_is, good-laid}
use Rattle.std.specs.Prelude.{Ok, Err}
use Rattle.names.specs.Told.{entered}
use Rattle.names.proofs.inner.enter_new.Goals as goal

-- the pool with the name at free, where the tail from free on came back as y
back : (p n y : List ℕ) (free : ℕ) → free + length n ≤ length p → y ≡ n ++ drop (length n) (take (length p - free) (drop free p))
    → take free p ++ (y ++ drop (length p - free) (drop free p)) ≡ take free p ++ n ++ drop (free + length n) p
back p n y free h e =
    take free p ++ (y ++ drop (length p - free) (drop free p))
    ≡⟨ ap (λ (l : List ℕ). take free p ++ (y ++ l)) (drop_of_length-le (drop free p) {i = length p - free} (omega (arith, length-drop free p))) ⟩
    take free p ++ (y ++ [])
    ≡⟨ ap (λ (l : List ℕ). take free p ++ l) (append-nil y ∙ e) ⟩
    take free p ++ (n ++ drop (length n) (take (length p - free) (drop free p)))
    ≡⟨ ap (λ (l : List ℕ). take free p ++ (n ++ drop (length n) l)) (take_all (length p - free) (drop free p) (omega (arith, length-drop free p))) ⟩
    take free p ++ (n ++ drop (length n) (drop free p))
    ≡⟨ ap (λ (l : List ℕ). take free p ++ (n ++ l)) (drop-drop (length n) free p) ⟩
    take free p ++ (n ++ drop (free + length n) p)
    ≡⟨ sym (append_assoc (take free p) n (drop (free + length n) p)) ⟩
    take free p ++ n ++ drop (free + length n) p ∎

module _ {p t : List ℕ} (g : Good p t) (n : List ℕ) where
  no_number : 256 ≤ get_or t 0 0 → entered (Err NoRoom) p t ≡ enterKnown none (hasRoom (table_of p t) n) p t n
  unfolding enterKnown
  no_number h = rw (room-is (good-laid g) n, le-ltb (get_or t 0 0) 256 h)

  module _ (k : ℕ) (number : k ≡ get_or t 0 0) (few : k < 256) where
    no_bytes : 8192 < start_at t k + length n → entered (Err NoRoom) p t ≡ enterKnown none (hasRoom (table_of p t) n) p t n
    unfolding enterKnown
    no_bytes h = rw (room-is (good-laid g) n, ← number, lt-ltb k 256 few, lt-leb (start_at t k + length n) 8192 h)

    stored : (y : List ℕ) → start_at t k + length n ≤ 8192 → y ≡ n ++ drop (length n) (take (length p - start_at t k) (drop (start_at t k) p))
        → entered (Ok (get_or t 0 0, New)) (take (start_at t k) p ++ (y ++ drop (length p - start_at t k) (drop (start_at t k) p)))
        (set (set t 0 (get_or t 0 0 + 1)) (k + 1) (start_at t k + length n))
        ≡ enterKnown none (hasRoom (table_of p t) n) p t n
    unfolding enterKnown
    stored y h e =
        rw (
          room-is (good-laid g) n,
          ← number,
          lt-ltb k 256 few,
          le-leb (start_at t k + length n) 8192 h,
          back p n y (start_at t k) (omega (arith, g.bytes)) e,
          add-one k,
        )
        (sym (rw (← number) at (new_is (good-laid g) n)))

pub returns-then-k-ge-NAMES : goal.returns-then-k-ge-NAMES
returns-then-k-ge-NAMES c = no_number c.requires c.args.name.now c.if-k-ge-NAMES.true

pub overflow_sub-free : goal.overflow_sub-free
overflow_sub-free c = rw c.start_of-free.ensures (used-within (good-laid c.requires))

pub returns-then-free-name : goal.returns-then-free-name
returns-then-free-name c =
    let within = rw (← c.start_of-free.ensures) at (used-within (good-laid c.requires)) in
    no_bytes c.requires c.args.name.now _ refl c.if-k-ge-NAMES.false (omega (arith, c.start_of-free.ensures, c.if-free-name.true))

pub slice_bounds-copy-count : goal.slice_bounds-copy-count
slice_bounds-copy-count c =
    let within = used-within (good-laid c.requires) in
    omega (arith, within, c.start_of-free.ensures, c.requires.bytes)

pub slice_bounds-copy-start : goal.slice_bounds-copy-start
slice_bounds-copy-start c =
    let within = used-within (good-laid c.requires) in
    omega (arith, within, c.start_of-free.ensures, c.requires.bytes)

pub returns : goal.returns
returns c =
    let within = used-within (good-laid c.requires) in
    rw c.start_of-free.ensures
    (stored c.requires c.args.name.now _ refl c.if-k-ge-NAMES.false c.copy.new.dst
    (omega (arith, within, c.start_of-free.ensures, c.if-free-name.false)) (rw c.start_of-free.ensures at c.copy.ensures))
