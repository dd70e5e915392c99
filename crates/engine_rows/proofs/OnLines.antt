-- What follows from the definitions of specs/Lines: the constraints of a set, one after another, as rows.
use Rattle.std.specs.Prelude.{◌≡◌, take, set}
use Rattle.std.proofs.Math.Path.{refl, ap, ap₂, sym}
use Rattle.std.proofs.Common.{◌∙◌, add-one, take-suc-set}
use mathlib.Core.List.{List, [], ◌∷◌, ◌++◌, append_assoc, append-nil, map-append}
use Prim.Native.Nat.{ℕ, suc, ◌+◌, ◌≤◌, ◌<◌}
use native.Mathlib.Omega.{arith}
use Rattle.std.proofs.Math.ListN.{length, length-append}
use Rattle.std.proofs.lemmas.Bool.{leb-true, le-leb, lt-leb}
use Rattle.std.proofs.Math.Dec.{leb}
use Rattle.rules.specs.Base.{Got, got, refused, ◌>>=◌, need, each}
use Rattle.rules.specs.Names.{Bytes, numbered}
use Rattle.rules.specs.Trees as tree
use Rattle.rules.specs.Trees.{Product, Con, equal, isDim, is_scalar, hasField}
use Rattle.laws.proofs.Checks.{need-passed}
use Rattle.laws.proofs.Refusing.{Refuses, given, refusing, next}
use Rattle.laws.proofs.Lists.{alone, got≢refused, one-step, each-parts, bound-step}
use Rattle.types.proofs.OnSets as sets
use Rattle.types.specs.Shapes.{asked}
use Rattle.types.specs.declared.Product as code
use Rattle.types.specs.declared.Demand.{Demand}
use Rattle.types.specs.declared.Demand.TheVariants as demand
use Rattle.rules.specs.Elimination as Rows
use Rattle.rules.specs.Elimination.{row_of, scalarOf}
use Rattle.engine_matrix.specs.Grids.{rowsIn}
use Rattle.engine_matrix.proofs.Grids.{grid-long}
use Rattle.engine_matrix.specs.declared.inner.parts.Grid.{Grid}
use Rattle.engine_rows.specs.Atoms.{padded}
use Rattle.engine_rows.specs.Lines.{paddedRows, laidOut}

scalar-eight : (c : Con ℕ) → Refuses (λ n. n ≡ 8) (scalarOf c)
unfolding scalarOf
scalar-eight (equal l r) = refusing refl
scalar-eight (isDim t) = refusing refl
scalar-eight (is_scalar p) = given
scalar-eight (hasField n l r) = refusing refl

pub scalars-eight : (cs : List (Con ℕ)) → Refuses (λ n. n ≡ 8) (each scalarOf cs)
unfolding each
scalars-eight [] = given
scalars-eight (c ∷ cs) = next (scalarOf c) _ (scalar-eight c) (λ p. next (each scalarOf cs) _ (scalars-eight cs) (λ ps. given))

module _ (names : List Bytes) (cols : List (tree.Atom ℕ)) (cs : List (Con ℕ)) where
  pub laid-some : (ps : List (Product ℕ)) → each scalarOf cs ≡ got ps → length ps ≤ 24 → laidOut names cols cs ≡ got (paddedRows names cols ps)
  unfolding laidOut
  laid-some ps e h = rw (e, le-leb (length ps) 24 h) refl

  -- and what was laid out is such
  pub record LaidSo (rows : List Rows.Row) : Type 0 where
    pub products : List (Product ℕ)
    pub all : each scalarOf cs ≡ got products
    pub few : length products ≤ 24
    pub is : rows ≡ paddedRows names cols products

  pub laid-so : (rows : List Rows.Row) → laidOut names cols cs ≡ got rows → LaidSo rows
  unfolding laidOut
  laid-so rows h =
      let a = bound-step (each scalarOf cs) _ rows h in
      let b = bound-step (need (leb (length a.0) 24) 8) _ rows a.2 in
      record { products = a.0; all = a.1; few = leb-true (length a.0) 24 (need-passed (leb (length a.0) 24) 8 b.1); is = cc b.2 }

  -- another kind of constraint, or too many
  pub laid-none : ((ps : List (Product ℕ)) → each scalarOf cs ≡ got ps → 24 < length ps) → laidOut names cols cs ≡ refused 8
  unfolding laidOut
  laid-none f = go (each scalarOf cs) refl
    where
      go : (m : Got (List (Product ℕ))) → each scalarOf cs ≡ m → laidOut names cols cs ≡ refused 8
      go (got ps) e = rw (e, lt-leb (length ps) 24 (f ps e)) refl
      go (refused n) e = rw (e, (scalars-eight cs).only n e) refl

-- ══ Row by row ══

-- what is no equal-scalar
pub not-asked : (d : Demand) → ((p : code.Product) → d ≡ demand.IsScalar p → ⊥) → scalarOf (asked d) ≡ refused 8
unfolding scalarOf
not-asked (demand.Equal l r) f = refl
not-asked (demand.IsDimension t) f = refl
not-asked (demand.IsScalar p) f = absurd (f p refl)
not-asked (demand.HasField x l r) f = refl

-- an equal-scalar, and the constraints behind it
pub scalar-next : (left rest : List (List ℕ × ℕ × Con ℕ)) (x : List ℕ × ℕ × Con ℕ) (p : Product ℕ) → left ≡ x ∷ rest → is_scalar p ≡ x.2
    → sets.alone left ≡ is_scalar p ∷ sets.alone rest
scalar-next left rest x p e q = ap sets.alone e ∙ ap (λ (c : Con ℕ). c ∷ sets.alone rest) (sym q)

module _ (names : List Bytes) (cols : List (tree.Atom ℕ)) (cs : List (Con ℕ)) where
  -- the rows so far
  pub record Going (more : List (Con ℕ)) (n : ℕ) (g : Grid) : Type 0 where
    pub done : List (Product ℕ)
    pub whole : each scalarOf cs ≡ (each scalarOf more >>= λ qs. got (done ++ qs))
    pub many : n ≡ length done
    pub rows : take n (rowsIn g) ≡ paddedRows names cols done

  pub going_start : (g : Grid) → Going cs 0 g
  going_start g = record { done = []; whole = sym (alone (each scalarOf cs)); many = refl; rows = refl }

  module _ (more : List (Con ℕ)) (n : ℕ) (g : Grid) (w : Going more n g) where
    module _ (c : Con ℕ) (others : List (Con ℕ)) (e : more ≡ c ∷ others) where
      -- another kind of constraint
      pub not_scalar : scalarOf c ≡ refused 8 → laidOut names cols cs ≡ refused 8
      unfolding each
      not_scalar f =
          let z : each scalarOf cs ≡ refused 8 = w.whole ∙ rw (e, f) refl in
          laid-none names cols cs (λ ps i. absurd (got≢refused (sym i ∙ z)))

      -- a 25th row
      pub too_many : 24 ≤ n → laidOut names cols cs ≡ refused 8
      unfolding each
      too_many k = laid-none names cols cs more-still
        where
          more-still : (ps : List (Product ℕ)) → each scalarOf cs ≡ got ps → 24 < length ps
          more-still ps i =
              let a = one-step (each scalarOf more) (λ qs. w.done ++ qs) ps (sym w.whole ∙ i) in
              let b = each-parts scalarOf c others a.value (sym (ap (each scalarOf) e) ∙ a.gave) in
              let l : length a.value ≡ suc (length b.second) = ap length (sym b.both) in
              let m : length ps ≡ length w.done + length a.value = ap length (sym a.is) ∙ length-append w.done a.value in
              omega (arith, l, m, w.many, k)

    pub going_on : (p : Product ℕ) (others : List (Con ℕ)) → more ≡ is_scalar p ∷ others → (g' : Grid) (r : Rows.Row) → n < 24
        → r ≡ padded (row_of (numbered names) cols p) → rowsIn g' ≡ set (rowsIn g) n r → Going others (n + 1) g'
    unfolding each scalarOf
    going_on p others e g' r k ri i = record {
      done = w.done ++ (p ∷ []);
      whole = w.whole ∙ ap (λ (m : List (Con ℕ)). each scalarOf m >>= λ qs. got (w.done ++ qs)) e ∙ again (each scalarOf others);
      many = omega (arith, w.many, length-append w.done (p ∷ []));
      rows = rw (add-one n, i) (take-suc-set (rowsIn g) n r (omega (arith, grid-long g)))
          ∙ ap₂ (λ (xs : List Rows.Row) (x : Rows.Row). xs ++ (x ∷ [])) w.rows ri
          ∙ sym (map-append (λ p. padded (row_of (numbered names) cols p)) w.done (p ∷ []));
    }
      where
        again : (m : Got (List (Product ℕ)))
            → ((m >>= λ qs. got (p ∷ qs)) >>= λ qs. got (w.done ++ qs)) ≡ (m >>= λ qs. got ((w.done ++ (p ∷ [])) ++ qs))
        again (got qs) = ap got (sym (append_assoc w.done (p ∷ []) qs))
        again (refused j) = refl

    -- all constraints are done
    pub going_end : more ≡ [] → n ≤ 24 → laidOut names cols cs ≡ got (take n (rowsIn g))
    unfolding each
    going_end e k = laid-some names cols cs w.done (w.whole ∙ rw e (ap got (append-nil w.done))) (omega (arith, w.many)) ∙ ap got (sym w.rows)
