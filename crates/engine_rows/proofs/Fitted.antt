-- A set that was read, laid out: what is known of its records, its columns, and whether it fits.
use Rattle.std.specs.Prelude.{◌≡◌, ◌&&◌, ℕ, ◌+◌, ◌≤◌, ◌<◌, get_or}
use Rattle.std.proofs.Math.Path.{ap, ap₂, sym}
use Rattle.std.proofs.Common.{◌∙◌}
use Rattle.std.proofs.Math.Bool.{true, not}
use mathlib.Core.List.{List, [], ◌∷◌, ◌++◌, map}
use native.Mathlib.Omega.{arith}
use borrow.Author.Tests.{leb-true, le-leb, ltb-true}
use Rattle.std.proofs.Math.Dec.{leb}
use Rattle.std.proofs.Math.ListN.{length}
use Rattle.rules.specs.Base.{keep, collect}
use Rattle.rules.specs.Exponents.{goodExp}
use Rattle.rules.specs.Trees.{Open, var, quant, par, Atom, free, base, Factor, ◌↑◌, Product, Names, Con, equal, isDim, is_scalar, hasField, opensCon}
use Rattle.rules.specs.Contents.{sort, variablesIn, parametersIn}
use Rattle.rules.specs.WellFormed.{atomOf, goodOpen, goodCon}
use Rattle.laws.specs.Lists.{Every, and_left, and_right}
use Rattle.laws.proofs.Lists.{every-as}
use Rattle.laws.specs.Order.{Lawful}
use Rattle.laws.proofs.NameTable.{count-is}
use Rattle.laws.proofs.ByteOrder.{atom-lawful, numbered-lawful}
use Rattle.laws.proofs.Ranges.{stored-good}
use Rattle.laws.specs.GoodProducts.{goodAtom}
use Rattle.laws.proofs.GoodProducts.{GoodFactor, good-product}
use Rattle.records.specs.Good.{Chain, GoodCon, numbers, holding}
use Rattle.queries.proofs.Runs.{set-opens, set_known}
use Rattle.queries.proofs.GoodOpens.{names-held}
use Rattle.queries.specs.Scans.{opensIn}
use Rattle.queries.specs.declared.Kind.TheVariants.{Variables, Parameters}
use Rattle.rules.specs.Names.{table_of}
use Rattle.engine_matrix.specs.declared.inner.parts.Columns.{Columns}
use Rattle.rules.specs.Elimination.{columns, fits, isVariable}
use Rattle.engine_matrix.specs.Machine.{atomsFrom, namesIn, colsIn}
use Rattle.engine_rows.specs.Atoms.{powerOf}
use Rattle.engine_rows.specs.Lines.{Plain}
use Rattle.engine_rows.specs.Columns.{vars, pars, bases, Known}
use Rattle.engine_rows.proofs.Columns.{Listed}
use Rattle.engine_rows.proofs.Sorting.{opensOf, basesOf, Named, in_turn, in-turn, from-names, variables-kept, others-kept, set-opened}
use Rattle.engine_rows.proofs.Bases.{set-bases}

module _ (pool table s : List ℕ) where
  abbrev ν : Names ℕ
  ν = numbers pool table

  abbrev law : Lawful ν.order
  law = numbered-lawful _

  -- ══ The records ══

  con-plain : (c : Con ℕ) → goodCon ν (holding pool table) 0 c ≡ true → Plain c
  unfolding goodCon
  con-plain (equal l r) h = tt
  con-plain (isDim t) h = tt
  con-plain (is_scalar p) h = let g = good-product ν (atom-lawful ν law) (holding pool table) 0 p h in every-as power-good p g.each
    where
      power-good : (f : Factor ℕ) → GoodFactor ν (holding pool table) 0 f → goodExp (powerOf f) ≡ true
      power-good (a ↑ e) g = stored-good e g.1
  con-plain (hasField n l r) h = tt

  pub all-plain : (cs : List (Con ℕ)) (at e : ℕ) → Chain (GoodCon pool table 0 s) e cs at → Every Plain cs
  all-plain [] at e c = tt
  all-plain (x ∷ cs) at e c = (con-plain x c.1.0.good, all-plain cs c.0 e c.1.1)

  -- ══ The columns ══

  module _ (ps : List (Product ℕ)) (e : ℕ) (chain : Chain (GoodCon pool table 0 s) e (map is_scalar ps) 0) where
    abbrev atoms : List (Atom ℕ)
    atoms = collect (λ p. map atomOf p) ps

    factors-named : (p : Product ℕ) (as' : List (Atom ℕ)) → Every (GoodFactor ν (holding pool table) 0) p → Every Named as' → Every Named (map atomOf p ++ as')
    unfolding goodOpen
    factors-named [] as' h k = k
    factors-named (free (var x) ↑ d ∷ p) as' h k = (tt, factors-named p as' h.1 k)
    factors-named (free (quant i) ↑ d ∷ p) as' h k = absurd (no_index i h.0.0)
      where
        no_index : (i : ℕ) → goodAtom ν (holding pool table) 0 (free (quant i)) ≡ true → ⊥
        no_index i g = let z = ltb-true i 0 g in omega arith
    factors-named (free (par x) ↑ d ∷ p) as' h k = (tt, factors-named p as' h.1 k)
    factors-named (base n ↑ d ∷ p) as' h k = (tt, factors-named p as' h.1 k)

    all_named : (qs : List (Product ℕ)) (at : ℕ) → Chain (GoodCon pool table 0 s) e (map is_scalar qs) at → Every Named (collect (λ p. map atomOf p) qs)
    unfolding collect goodCon
    all_named [] at c = tt
    all_named (p ∷ qs) at c = factors-named p (collect (λ p. map atomOf p) qs)
        (good-product ν (atom-lawful ν law) (holding pool table) 0 p c.1.0.good).each (all_named qs c.0 c.1.1)

    opens-are : opensIn s 0 e ≡ opensOf atoms
    opens-are = set-opens pool table 0 s (map is_scalar ps) 0 e chain ∙ set-opened ps

    vars-are : vars ν s e ≡ sort ν (variablesIn (opensOf atoms))
    vars-are = ap (λ (os : List (Open ℕ)). sort ν (variablesIn os)) opens-are

    pars-are : pars ν s e ≡ sort ν (parametersIn (opensOf atoms))
    pars-are = ap (λ (os : List (Open ℕ)). sort ν (parametersIn os)) opens-are

    bases-are : bases ν s e ≡ sort ν (basesOf atoms)
    bases-are = ap (sort ν) (set-bases s pool table ps 0 e chain).1

    -- in the order of factors
    columns-are : columns ν ps ≡ in_turn (vars ν s e) (pars ν s e) (bases ν s e)
    unfolding columns
    columns-are = rw (vars-are, pars-are, bases-are) (in-turn ν atoms (all_named ps 0 chain))

    pub listed-columns : (k : Columns) → Listed ν s e k → colsIn k ≡ columns ν ps
    unfolding colsIn
    listed-columns k l =
        ap₂ (λ (v p : ℕ). atomsFrom v p (namesIn k)) l.variables l.parameters
        ∙ ap (atomsFrom (length (vars ν s e)) (length (pars ν s e))) l.names
        ∙ from-names (vars ν s e) (pars ν s e) (bases ν s e)
        ∙ sym columns-are

    -- ══ Does it fit? ══

    many-variables : length (keep isVariable (columns ν ps)) ≡ length (vars ν s e)
    many-variables = ap (λ (as' : List (Atom ℕ)). length (keep isVariable as')) columns-are ∙ variables-kept (vars ν s e) (pars ν s e) (bases ν s e)

    many-others : length (keep (λ a. not (isVariable a)) (columns ν ps)) ≡ length (pars ν s e) + length (bases ν s e)
    many-others = ap (λ (as' : List (Atom ℕ)). length (keep (λ a. not (isVariable a)) as')) columns-are ∙ others-kept (vars ν s e) (pars ν s e) (bases ν s e)

    pub fits-so : length ps ≤ 24 → length (vars ν s e) ≤ 24 → length (pars ν s e) + length (bases ν s e) ≤ 24 → fits ν ps ≡ true
    unfolding fits
    fits-so n v o = simp (
      le-leb (length ps) 24 n,
      many-variables,
      le-leb (length (vars ν s e)) 24 v,
      many-others,
      le-leb (length (pars ν s e) + length (bases ν s e)) 24 o,
    )

    -- and where it does, all three counts are so
    pub fits-then : fits ν ps ≡ true → (length ps ≤ 24) × (length (vars ν s e) ≤ 24) × (length (pars ν s e) + length (bases ν s e) ≤ 24)
    unfolding fits
    fits-then f =
        let l = and_left (leb (length ps) 24 && leb (length (keep isVariable (columns ν ps))) 24) _ f in
        let r = leb-true (length (keep (λ a. not (isVariable a)) (columns ν ps))) 24
        (and_right (leb (length ps) 24 && leb (length (keep isVariable (columns ν ps))) 24) _ f) in
        let v = leb-true (length (keep isVariable (columns ν ps))) 24 (and_right (leb (length ps) 24) _ l) in
        (leb-true (length ps) 24 (and_left (leb (length ps) 24) _ l), omega (arith, v, many-variables), omega (arith, r, many-others))

    -- ══ All names are held ══

    factors-bases : (p : Product ℕ) (as' : List (Atom ℕ)) → Every (GoodFactor ν (holding pool table) 0) p
        → Every (λ x. x < get_or table 0 0) (basesOf as') → Every (λ x. x < get_or table 0 0) (basesOf (map atomOf p ++ as'))
    unfolding collect
    factors-bases [] as' h k = k
    factors-bases (free (var x) ↑ d ∷ p) as' h k = factors-bases p as' h.1 k
    factors-bases (free (quant i) ↑ d ∷ p) as' h k = factors-bases p as' h.1 k
    factors-bases (free (par x) ↑ d ∷ p) as' h k = factors-bases p as' h.1 k
    factors-bases (base n ↑ d ∷ p) as' h k = (rw (count-is pool table) at (ltb-true n (table_of pool table).count h.0.0), factors-bases p as' h.1 k)

    all-bases : (qs : List (Product ℕ)) (at : ℕ) → Chain (GoodCon pool table 0 s) e (map is_scalar qs) at
        → Every (λ x. x < get_or table 0 0) (basesOf (collect (λ p. map atomOf p) qs))
    unfolding collect goodCon
    all-bases [] at c = tt
    all-bases (p ∷ qs) at c = factors-bases p (collect (λ p. map atomOf p) qs)
        (good-product ν (atom-lawful ν law) (holding pool table) 0 p c.1.0.good).each (all-bases qs c.0 c.1.1)

    pub known : Known (get_or table 0 0) s e
    known =
        let o = set-opens pool table 0 s (map is_scalar ps) 0 e chain in
        let h = names-held pool table 0 (collect opensCon (map is_scalar ps)) (set_known pool table 0 s (map is_scalar ps) 0 e chain) in
        record {
          variables = rw o (h Variables);
          parameters = rw o (h Parameters);
          bases = rw (set-bases s pool table ps 0 e chain).1 (all-bases ps 0 chain);
        }
