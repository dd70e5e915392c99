-- Generalising a concrete type is quantifying its sorted names in one walk; of the bounds those stay whose names are renamed.
use Rattle.std.specs.Prelude.{◌≡◌, Bool, length}
use Rattle.std.proofs.Math.Path.{refl, sym, ap}
use Rattle.std.proofs.Common.{◌∙◌, arith}
use Rattle.std.proofs.Math.Bool.{true, false}
use mathlib.Core.List.Memᴰ
use mathlib.Core.List.{List, [], ◌∷◌, ◌++◌, map}
use Rattle.std.proofs.Math.Option.{Option, none, some}
use Prim.Native.Nat.{ℕ, suc, ◌≤◌}
use Rattle.rules.specs.Base.{got, bounded, any, keep, collect, is_yes}
use Rattle.rules.specs.Contents.{among, sort, namesIn}
use Rattle.rules.specs.Names.{table_of, numbersOf, is_held}
use Rattle.rules.specs.Replacing.{replaceTy}
use Rattle.rules.specs.Schemes.{scheme, concrete, schemeLimited, renamed, renamedBounds, generalise}
use Rattle.rules.specs.Trees as tree
use Rattle.rules.specs.Trees.{Names, Ty, opens}
use Rattle.rules.specs.Writing.{word_of, writeScheme}
use Rattle.laws.specs.Lists.{All, in_head}
use Rattle.laws.proofs.Lists.{bracket, is-no, is-yes}
use Rattle.laws.specs.NameTable.{Good}
use Rattle.products.proofs.Held.{law}
use Rattle.schemes_renaming.specs.Places.{first_equal, all_of}
use Rattle.schemes_renaming.proofs.InTurn.{quantify-once}
use Rattle.schemes_handed.specs.Bounds.{Rename, orAll, allBounds}
use Rattle.schemes_quantify.specs.Ready.{quantifiedBy}
use Rattle.schemes.specs.Generalising.{Ready, generalisedFrom}
use Rattle.schemes.proofs.Whole.{tells}

module _ (ν : Names ℕ) where
  -- is there a name, as the rules ask
  abbrev given : Option (tree.Open ℕ) → Bool
  given none = false
  given (some u) = true

  same-turned : (x y : ℕ) → is_yes (ν.same x y) ≡ is_yes (ν.same y x)
  same-turned x y = go (ν.same y x)
    where
      go : (d : Dec (y ≡ x)) → is_yes (ν.same x y) ≡ is_yes d
      go (yes e) = is-yes (ν.same x y) (sym e)
      go (no f) = is-no (ν.same x y) (λ e. f (sym e))

  -- a name is among those that were handed exactly if it is renamed
  among_first : (i : ℕ) (ns : List ℕ) (x : ℕ) → among ν x ns ≡ given (first_equal ν i ns x)
  unfolding among any first_equal
  among_first i [] x = refl
  among_first i (n ∷ ns) x = go (is_yes (ν.same n x)) refl (among_first (suc i) ns x)
    where
      go : (b : Bool) → is_yes (ν.same n x) ≡ b → among ν x ns ≡ given (first_equal ν (suc i) ns x) → among ν x (n ∷ ns) ≡ given (first_equal ν i (n ∷ ns) x)
      go true j r = rw (same-turned x n, j, first_equal)
      go false j r = rw (same-turned x n, j, first_equal) r

  keep-more : (p : ℕ → Bool) (x : ℕ) (xs : List ℕ) (b : Bool) → p x ≡ b → keep p (x ∷ xs) ≡ elim b [ true ↦ x ∷ keep p xs | false ↦ keep p xs ]
  unfolding keep
  keep-more p x xs b e = rw (e, keep)

  module _ (ns : List ℕ) where
    abbrev f : Rename
    f = all_of ν 0 ns

    abbrev kept : List ℕ → List (tree.Open ℕ)
    kept ws = renamedBounds f (map tree.var (keep (λ b. among ν b ns) ws))

    -- a bound that is renamed stays, another goes
    one_kept : (o : tree.Open ℕ) (x : ℕ) (ws : List ℕ) (rest : List (tree.Open ℕ)) → kept ws ≡ rest
        → kept (x ∷ ws) ≡ orAll (first_equal ν 0 ns x) false o ++ rest
    unfolding renamedBounds all_of
    one_kept o x ws rest r = go (first_equal ν 0 ns x) refl
      where
        go : (s : Option (tree.Open ℕ)) → first_equal ν 0 ns x ≡ s → kept (x ∷ ws) ≡ orAll s false o ++ rest
        go none i = ap (λ (l : List ℕ). renamedBounds f (map tree.var l)) (keep-more (λ b. among ν b ns) x ws false (among_first 0 ns x ∙ ap given i)) ∙ r
        go (some u) i = ap (λ (l : List ℕ). renamedBounds f (map tree.var l))
            (keep-more (λ b. among ν b ns) x ws true (among_first 0 ns x ∙ ap given i)) ∙ rw i (ap (u ∷◌) r)

    -- bounds of names that aren't handed go
    pub kept-bounds : (bs : List (tree.Open ℕ)) → All (λ o. (j : ℕ) → o ≡ tree.quant j → ⊥) bs → kept (map word_of bs) ≡ allBounds false f bs
    unfolding renamedBounds keep collect all_of
    kept-bounds [] h = refl
    kept-bounds (tree.quant j ∷ bs) h = absurd (h (tree.quant j) in_head j refl)
    kept-bounds (tree.var x ∷ bs) h = one_kept (tree.var x) x (map word_of bs) (allBounds false f bs) (kept-bounds bs (λ o m. h o (Memᴰ.tail m)))
    kept-bounds (tree.par x ∷ bs) h = one_kept (tree.par x) x (map word_of bs) (allBounds false f bs) (kept-bounds bs (λ o m. h o (Memᴰ.tail m)))

-- what generalising a concrete type makes, by its sorted names
module _ (pool table : List ℕ) (good : Good pool table) (t : Ty ℕ) (bs : List (tree.Open ℕ)) (r : Ready pool table t bs) where
  abbrev pub ordered : List ℕ
  ordered = sort (numbersOf (table_of pool table)) (namesIn (opens t))

  pub generalise-made : length ordered ≤ 2048 → quantifiedBy pool table ordered false t bs ≡ generalisedFrom pool table (concrete t) bs
  unfolding generalise
  generalise-made few =
      let ν : Names ℕ = numbersOf (table_of pool table) in
      let cs = map tree.var (keep (λ b. among ν b ordered) (map word_of bs)) in
      let q = quantify-once ν (law pool table) (is_held (table_of pool table)) 4_294_967_296 (tells pool table 4_294_967_296 good) ordered t cs
      (omega arith) r.good r.unmix in
      rw (q, sym (kept-bounds ν ordered bs r.named))
      (sym (bracket (replaceTy ν bounded (renamed (all_of ν 0 ordered)) t)
      (λ u. schemeLimited bounded 1 u (renamedBounds (all_of ν 0 ordered) cs)
      (scheme (length ordered) u (renamedBounds (all_of ν 0 ordered) cs))) (λ s. got (writeScheme s))))
