-- What a line that passed the checks at entry is: its steps are formed, one for each four words, and its lent names are held and differ.
use Rattle.std.specs.Prelude.{◌≡◌, refl, true, not, List, [], ◌∷◌, ℕ, ◌*◌, eqb, length, drop}
use Rattle.std.proofs.Common.{ap, ◌∙◌, sym, arith, eq-eqb}
use Rattle.std.proofs.Math.Path.{subst}
use Rattle.std.proofs.Math.Option.{Option, none, some}
use Rattle.rules.specs.Base.{got, need, orRefuse, and_then, any, all, each}
use Rattle.rules.specs.Exponents.{frac, goodExp}
use Rattle.rules.specs.Trees.{Ty}
use Rattle.rules.specs.Contents.{closed}
use Rattle.rules.specs.Names.{Table, numbersOf, is_held}
use Rattle.rules.specs.Writing.{Rec, signed}
use Rattle.rules.specs.Reading.{readTy, records}
use Rattle.rules.specs.WellFormed.{goodTy}
use Rattle.rules.specs.Calls.{type_at, differ}
use Rattle.laws.proofs.Checks.{need-passed}
use Rattle.laws.proofs.Given.{or-some}
use Rattle.std.proofs.lemmas.Bool.{not-true}
use Rattle.laws.specs.Lists.{and_left, and_right, Every, all-every, all-is}
use Rattle.laws.proofs.Lists.{true≢false, some≢none, is_any, bound-step, each-came, each-length}
use Rattle.theorems_soundness.specs.Claims.{Ordered, Once}
use Rattle.rules.specs.Steps.{
  LineStep,
  constant,
  reference,
  raises,
  joins,
  chooses,
  whole,
  StepWords,
  four,
  stepWords,
  StepKind,
  isConstant,
  isReference,
  isRaise,
  isChoose,
  isTwo,
  stepNumbers,
  stepKind,
  zeros,
  number_at,
  constantAt,
  referenceTo,
  raiseBy,
  step_of,
  stepGiven,
  lineGiven,
}
use Rattle.theorems_lines.specs.FormedSteps.{FormedStep}
use Rattle.theorems_lines.proofs.Formed.{Apart}

-- ══ Steps ══

module _ (t : Table) (order : Ordered (numbersOf t) (is_held t)) (rs : List Rec) (lines : List ℕ) where
  abbrev Formed : LineStep ℕ → Type 0
  Formed = FormedStep (numbersOf t) (is_held t)

  type-formed : (place : ℕ) (ty : Ty ℕ) → type_at t rs place ≡ got ty → goodTy (numbersOf t) (is_held t) 0 ty ≡ true
  unfolding type_at
  type-formed place ty e =
      let a = bound-step (orRefuse 1 (and_then (readTy 64 (drop place rs)) (λ r. some r.0))) _ ty e in
      let b = bound-step (need (goodTy (numbersOf t) (is_held t) 0 a.0) 1) _ ty a.2 in
      let z : a.0 ≡ ty = cc b.2 in
      subst (λ (u : Ty ℕ). goodTy (numbersOf t) (is_held t) 0 u ≡ true) z (need-passed _ 1 b.1)

  constant-formed : (place : ℕ) (s : LineStep ℕ) → constantAt t rs lines place ≡ got s → Formed s
  unfolding constantAt
  constant-formed place s e =
      let a = bound-step (type_at t rs place) _ s e in
      let b = bound-step (need (closed a.0) 1) _ s a.2 in
      let z : constant a.0 ≡ s = cc b.2 in
      subst Formed z (type-formed place a.0 a.1, need-passed (closed a.0) 1 b.1)

  reference-formed : (i : ℕ) (s : LineStep ℕ) → referenceTo t rs lines i ≡ got s → Formed s
  unfolding referenceTo
  reference-formed i s e =
      let a = bound-step (orRefuse 1 (number_at lines i)) _ s e in
      let b = bound-step (type_at t rs a.0) _ s a.2 in
      let z : reference b.0 ≡ s = cc b.2 in
      subst Formed z (type-formed a.0 b.0 b.1)

  kind-formed : (k : StepKind) (a b c : ℕ) (s : LineStep ℕ) → step_of t rs lines k a b c ≡ got s → Formed s
  unfolding step_of raiseBy
  kind-formed isConstant a b c s e = constant-formed a s (bound-step (zeros (b ∷ c ∷ [])) _ s e).2
  kind-formed isReference a b c s e = reference-formed a s (bound-step (zeros (b ∷ c ∷ [])) _ s e).2
  kind-formed isRaise a b c s e =
      let f = bound-step (zeros (a ∷ [])) _ s e in
      let g = bound-step (need (goodExp (frac (signed b) c)) 1) _ s f.2 in
      let z : raises (frac (signed b) c) ≡ s = cc g.2 in
      subst Formed z (need-passed (goodExp (frac (signed b) c)) 1 g.1)
  kind-formed isChoose a b c s e = let z : chooses ≡ s = cc (bound-step (zeros (a ∷ b ∷ c ∷ [])) _ s e).2 in subst Formed z tt
  kind-formed (isTwo o) a b c s e = let z : joins o ≡ s = cc (bound-step (zeros (a ∷ b ∷ c ∷ [])) _ s e).2 in subst Formed z tt

  step-formed : (w : StepWords) (s : LineStep ℕ) → stepGiven t rs lines w ≡ got s → Formed s
  unfolding stepGiven
  step-formed (four k a b c) s e = let f = bound-step (orRefuse 1 (stepKind k stepNumbers)) _ s e in kind-formed f.0 a b c s f.2

-- ══ The line ══

words_of : (ws : List ℕ) (ss : List StepWords) → stepWords ws ≡ some ss → length ws ≡ length ss * 4
unfolding stepWords
words_of [] ss e = let z : [] ≡ ss = cc in rw (← z)
words_of (k ∷ []) ss e = absurd (some≢none (sym e))
words_of (k ∷ a ∷ []) ss e = absurd (some≢none (sym e))
words_of (k ∷ a ∷ b ∷ []) ss e = absurd (some≢none (sym e))
words_of (k ∷ a ∷ b ∷ c ∷ ws) ss e = go (stepWords ws) refl (words_of ws)
  where
    go : (o : Option (List StepWords)) → stepWords ws ≡ o → ((ss : List StepWords) → stepWords ws ≡ some ss → length ws ≡ length ss * 4)
        → length (k ∷ a ∷ b ∷ c ∷ ws) ≡ length ss * 4
    go none i more = let z : none ≡ some ss = rw (i, stepWords) at e in absurd (some≢none (sym z))
    go (some us) i more =
        let z : some (four k a b c ∷ us) ≡ some ss = rw (i, stepWords) at e in
        let y : four k a b c ∷ us ≡ ss = cc in
        let h = more us i in
        rw (← y) (omega arith)

pub record ReadLine (t : Table) (order : Ordered (numbersOf t) (is_held t)) (steps : List ℕ) (ss : List (LineStep ℕ)) : Type 0 where
  pub formed : Every (FormedStep (numbersOf t) (is_held t)) ss
  pub complete : whole 0 ss ≡ true
  pub long : length steps ≡ length ss * 4

pub line_read : (t : Table) (order : Ordered (numbersOf t) (is_held t)) (steps types lines : List ℕ) (ss : List (LineStep ℕ))
    → lineGiven t steps types lines ≡ got ss → ReadLine t order steps ss
unfolding lineGiven
line_read t order steps types lines ss e =
    let a = bound-step (orRefuse 1 (stepWords steps)) _ ss e in
    let b = bound-step (orRefuse 1 (records types)) _ ss a.2 in
    let c = bound-step (each (stepGiven t b.0 lines) a.0) _ ss b.2 in
    let d = bound-step (need (whole 0 c.0) 1) _ ss c.2 in
    let z : c.0 ≡ ss = cc d.2 in
    subst (ReadLine t order steps) z (record {
      formed = all-every _ c.0 (λ s m. let w = each-came (stepGiven t b.0 lines) a.0 c.0 c.1 s m in step-formed t order b.0 lines w.of s w.by);
      complete = need-passed (whole 0 c.0) 1 d.1;
      long = words_of steps a.0 (or-some 1 (stepWords steps) a.0 a.1) ∙ ap (λ (n : ℕ). n * 4) (sym (each-length (stepGiven t b.0 lines) a.0 c.0 c.1));
    })

-- ══ Lent names ══

pub once : (ns : List ℕ) → differ ns ≡ true → Once ns
unfolding differ
once [] e = tt
once (n ∷ ns) e = (
  λ m. true≢false (sym (is_any (eqb n) ns n m (eq-eqb n n refl)) ∙ not-true (any (eqb n) ns) (and_left (not (any (eqb n) ns)) _ e)),
  once ns (and_right (not (any (eqb n) ns)) _ e),
)

pub names_apart : (t : Table) (order : Ordered (numbersOf t) (is_held t)) (names : List ℕ) → differ names ≡ true → all (is_held t) names ≡ true
    → Apart (numbersOf t) (is_held t) order [] names
names_apart t order names d h = record {
  stack = tt;
  coming = once names d;
  disjoint = tt;
  stack-held = tt;
  coming-held = all-every (λ n. is_held t n ≡ true) names (all-is (is_held t) names h);
}
