-- A line, step by step.
use Rattle.std.specs.Prelude as std
use Rattle.std.specs.Prelude.{◌≡◌, refl, List, [], ◌∷◌, ◌++◌, map, ℕ, zero, suc, ◌+◌, ◌-◌, ◌≤◌, ◌<◌, length, get_or, set, take, drop}
use Rattle.std.proofs.Common.{sym, ap, subst, ◌∙◌, arith, drop-drop, length-drop, length-take}
use Rattle.std.proofs.Math.Option.{none, some}
use Rattle.rules.specs.Base.{collect}
use Rattle.rules.specs.Trees.{Names}
use Rattle.rules.specs.Writing.{writeCon}
use Rattle.laws.proofs.Contents.{collect-append}
use Rattle.types.specs.Written.{Writes}
use Rattle.types.proofs.Written.{writes-then, writes-none}
use Rattle.types.specs.declared.writer.Writer.{Writer}
use Rattle.rules.specs.Steps.{LineStep, Deed, operands, takes}
use Rattle.rules.specs.Lines.{issued, constraints}
use Rattle.lines_entry.specs.Told.{stepOf}
use Rattle.lines_entry.specs.declared.inner.steps.Step.{Step}
use Rattle.std.proofs.lemmas.List.{drop_all, drop_more, drop-set, take_all}
use Rattle.lines_set.specs.Deeds.{deedOf, takenBy}
use Rattle.lines_set.proofs.OnDeeds.{took}
use Rattle.lines_set.specs.declared.deeds.Deed as code

-- ══ The stack ══

whole-stack : (stack : List ℕ) (p m : ℕ) → length stack ≤ p + m → take m (drop p stack) ≡ drop p stack
whole-stack stack p m h = take_all m (drop p stack) (omega (arith, length-drop p stack))

-- a step that finds its operands leaves the stack in its place
pub in-place : (stack : List ℕ) (p m : ℕ) (s : LineStep ℕ) (deed : code.Deed)
    → takenBy s (take m (drop p stack)) (std.Some deed) ≡ takes s (take m (drop p stack)) → p ≤ length stack → p + operands s ≤ length stack
in-place stack p m s deed n h = omega (
  arith,
  took s (take m (drop p stack)) (deedOf deed, drop (operands s) (take m (drop p stack))) n,
  length-take m (drop p stack),
  length-drop p stack,
  h,
)

-- ══ The constraints of one step, and of those behind it ══

module _ (ν : Names ℕ) where
  none-left : (vs st : List ℕ) → constraints ν vs st [] ≡ []
  unfolding constraints
  none-left [] st = refl
  none-left (v ∷ vs) st = refl

  no-name : (st : List ℕ) (ss : List (LineStep ℕ)) → constraints ν [] st ss ≡ []
  unfolding constraints
  no-name st [] = refl
  no-name st (s ∷ ss) = refl

  one_more : (v : ℕ) (vs st rest : List ℕ) (s : LineStep ℕ) (ss : List (LineStep ℕ)) (d : Deed ℕ ℕ) → some (d, rest) ≡ takes s st
      → constraints ν (v ∷ vs) st (s ∷ ss) ≡ issued ν v d ++ constraints ν vs (v ∷ rest) ss
  unfolding constraints
  one_more v vs st rest s ss d h = rw (← h, constraints)

  stuck : (v : ℕ) (vs st : List ℕ) (s : LineStep ℕ) (ss : List (LineStep ℕ)) → none ≡ takes s st → constraints ν (v ∷ vs) st (s ∷ ss) ≡ []
  unfolding constraints
  stuck v vs st s ss h = rw (← h, constraints)

  module _ (list : List Step) (lent : List ℕ) where
    abbrev steps : ℕ → List (LineStep ℕ)
    steps i = map stepOf (drop i list)

    -- ══ What is still to be written ══

    -- what is still to be written behind w makes the whole line from w₀ on
    abbrev pub Still : Writer → Writer → List ℕ → ℕ → ℕ → Type 0
    Still w₀ w stack i p = (w' : Writer) → Writes w w' (collect writeCon (constraints ν (drop i lent) (drop p stack) (steps i)))
        → Writes w₀ w' (collect writeCon (constraints ν lent [] (map stepOf list)))

    pub still-first : (w : Writer) (stack : List ℕ) (p : ℕ) → length stack ≤ p → Still w w stack 0 p
    still-first w stack p h w' q = rw (drop_all p stack h) at q

    module _ (w₀ w : Writer) (stack : List ℕ) (i p : ℕ) (g : Still w₀ w stack i p) where
      still-over : constraints ν (drop i lent) (drop p stack) (steps i) ≡ [] → Writes w₀ w (collect writeCon (constraints ν lent [] (map stepOf list)))
      unfolding collect
      still-over h = g w (rw h (writes-none w))

      pub still_end : length list ≤ i → Writes w₀ w (collect writeCon (constraints ν lent [] (map stepOf list)))
      still_end h = still-over (ap (λ (xs : List Step). constraints ν (drop i lent) (drop p stack) (map stepOf xs)) (drop_all i list h)
          ∙ none-left (drop i lent) (drop p stack))

      pub still-nameless : length lent ≤ i → Writes w₀ w (collect writeCon (constraints ν lent [] (map stepOf list)))
      still-nameless h = still-over (ap (λ (vs : List ℕ). constraints ν vs (drop p stack) (steps i)) (drop_all i lent h) ∙ no-name (drop p stack) (steps i))

      -- m: how many are on the stack
      module _ (l : i < length lent) (x : Step) (there : x ≡ get_or list i x) (h : i < length list) (m : ℕ) (all-of : length stack ≤ p + m) where
        abbrev v : ℕ
        v = get_or lent i 0

        abbrev s : LineStep ℕ
        s = stepOf x

        begins : constraints ν (drop i lent) (drop p stack) (steps i) ≡ constraints ν (v ∷ drop (i + 1) lent) (drop p stack) (s ∷ steps (i + 1))
        begins =
            let first : drop i list ≡ x ∷ drop (i + 1) list = drop_more list i x h ∙ ap (λ (y : Step). y ∷ drop (i + 1) list) (sym there) in
            rw (drop_more lent i 0 l, first)

        pub still-stuck : none ≡ takes s (take m (drop p stack)) → Writes w₀ w (collect writeCon (constraints ν lent [] (map stepOf list)))
        still-stuck n = still-over (begins ∙ stuck v (drop (i + 1) lent) (drop p stack) s (steps (i + 1)) (rw (whole-stack stack p m all-of) at n))

        pub still_on : (w₁ : Writer) (deed : code.Deed) → takenBy s (take m (drop p stack)) (std.Some deed) ≡ takes s (take m (drop p stack))
            → Writes w w₁ (collect writeCon (issued ν v (deedOf deed))) → (p' : ℕ) → p' + 1 ≡ p + operands s → p' < length stack
            → Still w₀ w₁ (set stack p' v) (i + 1) p'
        still_on w₁ deed n' q p' e k w' r =
            let n : some (deedOf deed, drop (operands s) (drop p stack)) ≡ takes s (drop p stack) = rw (whole-stack stack p m all-of) at n' in
            let x : List ℕ = drop (operands s) (drop p stack) in
            let top : drop p' (set stack p' v) ≡ v ∷ x = drop-set stack p' v k
            ∙ ap (v ∷◌) (ap (λ (j : ℕ). drop j stack) e ∙ sym (drop-drop (operands s) p stack)) in
            let rest : Writes w₁ w' (collect writeCon (constraints ν (drop (i + 1) lent) (v ∷ x) (steps (i + 1)))) =
            subst (λ (st : List ℕ). Writes w₁ w' (collect writeCon (constraints ν (drop (i + 1) lent) st (steps (i + 1))))) top r in
            let all : constraints ν (drop i lent) (drop p stack) (steps i) ≡ issued ν v (deedOf deed) ++ constraints ν (drop (i + 1) lent) (v ∷ x) (steps
            (i + 1)) =
            begins ∙ one_more v (drop (i + 1) lent) (drop p stack) x s (steps (i + 1)) (deedOf deed) n in
            g w' (subst (Writes w w') (sym (ap (collect writeCon) all ∙ collect-append writeCon (issued ν v (deedOf deed)) (constraints ν (drop
            (i + 1) lent) (v ∷ x) (steps (i + 1)))))
            (writes-then (collect writeCon (issued ν v (deedOf deed))) (collect writeCon (constraints ν (drop (i + 1) lent) (v ∷ x) (steps (i + 1)))) q rest))

    -- none of the stack is below it
    pub record On (w₀ w : Writer) (stack : List ℕ) (i p : ℕ) : Type 0 where
      pub as_long : length stack ≡ 128
      pub low : p ≤ 128
      pub high : 128 ≤ p + i
      pub still : Still w₀ w stack i p
