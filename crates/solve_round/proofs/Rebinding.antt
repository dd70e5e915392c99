-- A new binding put into the constraints and the older bindings, and written behind them.
use Rattle.std.specs.Prelude.{◌≡◌, refl, Bool, true, List, [], ◌∷◌, ◌++◌, ℕ, ◌≤◌, min, length, Result, Err}
use Rattle.std.proofs.Common.{arith, ap, sym, subst, ◌∙◌}
use Rattle.std.proofs.Math.Option.{Option, some}
use Rattle.rules.specs.Base.{Got, got, refused, ◌>>=◌, bounded, all, each, collect, sum_of}
use Rattle.rules.specs.Refusals.{number_of}
use Rattle.rules.specs.Replacing.{Look, bindings, replaceCon, replaceBinding}
use Rattle.rules.specs.Rounds.{State, perform, sizeState}
use Rattle.rules.specs.Trees.{Open, Ty, Con, Binding, ◌≔◌, sizeCon, sizeBinding, depthCon, depthBinding}
use Rattle.rules.specs.Writing.{writeCon, writeBinding}
use Rattle.rules.specs.declared.Refusal.{Refusal}
use Rattle.laws.proofs.Contents.{collect-append}
use Rattle.laws.proofs.Lists.{and_both}
use Rattle.laws.specs.NameTable.{Good}
use Rattle.laws.proofs.Nesting.{max_both, cons-deep, bindings-deep}
use Rattle.laws.proofs.Size.{set-length, bindings-length}
use Rattle.records.specs.Cut.{cut}
use Rattle.records.proofs.Cut.{cut-length, short-con, short-binding, short-all}
use Rattle.records.specs.Good.{goodBinding, goodCon, goodTy, numbers, holding}
use Rattle.replace.proofs.Walks.{stops, behind as after-records}
use Rattle.replace.proofs.Came.{Came}
use Rattle.replace.proofs.Kept.{binds-weaker, cons-kept, binds-kept}
use Rattle.replace.specs.Leaves.{Leaves}
use Rattle.replace.proofs.Runs.{looked-good}
use Rattle.replace.specs.Substitutions.{ALook, one-look}
use Rattle.replace.specs.Well.{names, Listed, Lent}
use Rattle.replace_table.specs.Filling.{Fills}
use Rattle.types.specs.declared.Bindings.{Bindings}
use Rattle.types.specs.declared.writer.Writer.{Writer}
use Rattle.types.specs.Binds.{IsBinds}
use Rattle.types.specs.Written.{last, Writes}
use Rattle.types.proofs.Written.{writes-then}
use Rattle.solve_round.specs.declared.Others.{Others}
use Rattle.solve_round.specs.Parts.{keeps, Known, leaf, Made, others, rebinds, SoundOthers, BoundTo}
use Rattle.solve_round.proofs.Limits.{all_both, depth-is, leaf-flat, size-is, sum_both}
use Rattle.solve_round.proofs.Written.{cons-there, binds-there, long-same}

module _ {B : Type 0} where
  whole : (R : Got (List B)) → R ≡ (R >>= λ vs. got vs)
  whole (got v) = refl
  whole (refused k) = refl

  behind : (R : Got B) (S T : Got (List B))
      → (R >>= λ y. (S >>= λ us. T >>= λ vs. got (us ++ vs)) >>= λ zs. got (y ∷ zs))
      ≡ ((R >>= λ y. S >>= λ us. got (y ∷ us)) >>= λ us. T >>= λ vs. got (us ++ vs))
  behind (refused k) S T = refl
  behind (got y) (refused k) T = refl
  behind (got y) (got us) (refused k) = refl
  behind (got y) (got us) (got vs) = refl

  each-both : {A : Type 0} (f : A → Got B) (xs ys : List A) → each f (xs ++ ys) ≡ (each f xs >>= λ us. each f ys >>= λ vs. got (us ++ vs))
  unfolding each
  each-both f [] ys = whole (each f ys)
  each-both f (x ∷ xs) ys = rw (each-both f xs ys) (behind (f x) (each f xs) (each f ys))

-- ══ The other constraints ══

module _ (f : Con ℕ → Got (Con ℕ)) (o : Others) {w w₁ : Writer} where
  pub first-stops : {k : Refusal} → w₁.words.ghost_name ≡ w.words.ghost_name → each f o.before.trees.0 ≡ refused (number_of k)
      → Leaves (collect writeCon) w w₁ (Err k) (each f (others o))
  first-stops s e = stops (rw (each-both f o.before.trees.0 o.behind.trees.0, e)) s

  pub both-written : {w₂ : Writer} {r : Result (Unit {0}) Refusal} → Came (collect writeCon) w w₁ (each f o.before.trees.0)
      → Leaves (collect writeCon) w₁ w₂ r (each f o.behind.trees.0) → Leaves (collect writeCon) w w₂ r (each f (others o))
  both-written p q = rw (each-both f o.before.trees.0 o.behind.trees.0, p.is)
      (after-records (λ vs. p.value ++ vs) (collect writeCon p.value) (λ vs. collect-append writeCon p.value vs) p.wrote q)

-- ══ What is put in ══

module _ (pool table : List ℕ) {b : Bindings} {x : ℕ} {t : Ty ℕ} (h : BoundTo pool table b x t) where
  abbrev pub one : List (Binding ℕ)
  one = x ≔ t ∷ []

  good-one : all (goodBinding pool table 0) one ≡ true
  unfolding all
  good-one = and_both h.good refl

  pub there : IsBinds b.words.now b.at b.end one
  there = subst (IsBinds b.words.now b.at b.end) h.is b.trees.1

  pub listed : Listed pool table b.words.now b.at b.end one
  unfolding all
  listed = record {
    run = there;
    good = and_both (binds-weaker pool table one good-one).0 refl;
    short = h.short;
    near = b.near;
  }

  pub lent : {places : List ℕ} → Fills b.words.now b.at b.end places → Good pool table → Lent pool table places b.words.now (bindings (names pool table) one)
  lent f g = f pool table one g listed

  -- whichever way it is told what the names become
  pub same-look : {places : List ℕ} {look : Look ℕ} → Fills b.words.now b.at b.end places → Good pool table → Lent pool table places b.words.now look
      → look ≡ bindings (names pool table) one
  same-look {places} {look} f g l = ap (λ (p : ALook pool table places b.words.now). p.0)
      (one-look pool table places b.words.now (look, l) (bindings (names pool table) one, lent f g))

-- ══ What they make ══

module _ (pool table : List ℕ) {b : Bindings} {x : ℕ} {t : Ty ℕ} (h : BoundTo pool table b x t) (o : Others) (s : SoundOthers pool table o)
    (look : Look ℕ) (same : look ≡ bindings (names pool table) (x ≔ t ∷ [])) where
  abbrev conR : Con ℕ → Got (Con ℕ)
  conR c = replaceCon (names pool table) bounded look c

  abbrev bindR : Binding ℕ → Got (Binding ℕ)
  bindR c = replaceBinding (names pool table) bounded look c

  abbrev fst : Got (List (Con ℕ))
  fst = each conR (others o)

  abbrev snd : Got (List (Binding ℕ))
  snd = each bindR o.bindings.trees.0

  abbrev R : Got (Option (State ℕ))
  R = rebinds pool table (others o) x t o.bindings.trees.0

  pub others-stop : {k : ℕ} → fst ≡ refused k → R ≡ refused k
  unfolding perform
  others-stop e = rw (← same, e)

  pub bindings-stop : {k : ℕ} {us : List (Con ℕ)} → fst ≡ got us → snd ≡ refused k → R ≡ refused k
  unfolding perform
  bindings-stop d e = rw (← same, d, e)

  look-good : (n : Open ℕ) (u : Ty ℕ) → look n ≡ some u → goodTy pool table 0 u ≡ true
  look-good n u e = looked-good (numbers pool table) (holding pool table) 0 (one pool table h) n u (good-one pool table h)
      (ap (λ (l : Look ℕ). l n) (sym same) ∙ e)

  module _ {us : List (Con ℕ)} {zs : List (Binding ℕ)} (d : fst ≡ got us) (e : snd ≡ got zs) where
    abbrev pub rebound : State ℕ
    rebound = record { cons = us; binds = zs ++ (x ≔ t ∷ []) }

    pub rebinds-is : R ≡ keeps rebound
    unfolding perform
    rebinds-is = rw (← same, d, e)

    pub made-good : all (goodCon pool table 0) us ≡ true
    made-good = (cons-kept pool table look look-good (others o)
        (all_both (goodCon pool table 0) o.before.trees.0 o.behind.trees.0 s.before.good s.behind.good)).holds us d

    pub binds-good : all (goodBinding pool table 0) (zs ++ (x ≔ t ∷ [])) ≡ true
    binds-good = all_both (goodBinding pool table 0) zs (x ≔ t ∷ [])
        ((binds-kept pool table look look-good o.bindings.trees.0 s.bindings.good).holds zs e) (good-one pool table h)

    -- bound to a type without types inside
    pub known : {p : Bool} → p ≡ leaf t → Known p rebound
    unfolding depthBinding
    known i j =
        let low = leaf-flat t (sym i ∙ j) in
        let a = (cons-deep (names pool table) bounded x t 0 low (others o)).holds us (rw (← same) d) in
        let g = (bindings-deep (names pool table) bounded x t 0 low o.bindings.trees.0).holds zs (rw (← same) e) in
        omega (
          arith,
          depth-is rebound,
          max_both depthCon o.before.trees.0 o.behind.trees.0,
          max_both depthBinding zs (x ≔ t ∷ []),
          a,
          g,
          low,
          s.before.flat,
          s.behind.flat,
          s.bindings.flat,
        )

    -- ══ What was written ══

    module _ {w w₁ w₂ w₃ : Writer} (front : w.at ≡ 0) (room : 8192 ≤ length w.words.now) (near : length w.words.now ≤ 4_000_000_000)
        (p : Writes w w₁ (cut (collect writeCon us))) (r : Writes w₁ w₂ (cut (collect writeBinding zs)))
        (l : Writes w₂ w₃ (collect writeBinding b.trees.0)) where
      cut-many : min w₃.at last ≡ min (sizeState rebound) last
      cut-many =
          omega (
            arith,
            p.at,
            r.at,
            l.at,
            front,
            cut-length (collect writeCon us),
            cut-length (collect writeBinding zs),
            set-length us,
            bindings-length zs,
            bindings-length b.trees.0,
            ap (sum_of sizeBinding) h.is,
            size-is rebound,
            sum_both sizeBinding zs (x ≔ t ∷ []),
          )

      module _ (few : w₃.at ≤ 2048) where
        small : sizeState rebound ≤ 2048
        small = omega (arith, cut-many, few)

        cons-written : Writes w w₁ (collect writeCon us)
        cons-written = subst (Writes w w₁) (short-all sizeCon writeCon short-con us (omega (arith, small, size-is rebound))) p

        binds-written : Writes w₁ w₃ (collect writeBinding (zs ++ (x ≔ t ∷ [])))
        binds-written =
            let k : sum_of sizeBinding zs ≤ 65_535 = omega (arith, small, size-is rebound, sum_both sizeBinding zs (x ≔ t ∷ [])) in
            let i : cut (collect writeBinding zs) ≡ collect writeBinding zs = short-all sizeBinding writeBinding short-binding zs k in
            let j : collect writeBinding b.trees.0 ≡ collect writeBinding (x ≔ t ∷ []) = ap (collect writeBinding) h.is in
            let z : collect writeBinding zs ++ collect writeBinding (x ≔ t ∷ []) ≡ collect writeBinding (zs ++ (x ≔ t ∷ [])) =
            sym (collect-append writeBinding zs (x ≔ t ∷ [])) in
            subst (Writes w₁ w₃) z (writes-then (collect writeBinding zs) (collect writeBinding (x ≔ t ∷ [])) (subst (Writes w₁ w₂) i r)
            (subst (Writes w₂ w₃) j l))

      pub rebind-made : Made pool table w₃.words.now (record { constraints = w₁.at; bindings = w₃.at }) rebound
      rebind-made = record {
        many = cut-many;
        near = λ few. omega (arith, near, long-same pool table rebound front room (cons-written few) (binds-written few) made-good binds-good few);
        cons = λ few. cons-there pool table rebound front room (cons-written few) (binds-written few) made-good binds-good few;
        binds = λ few. binds-there pool table rebound front room (cons-written few) (binds-written few) made-good binds-good few;
        good_cons = made-good;
        good_binds = binds-good;
      }
