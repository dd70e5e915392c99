-- What follows from the definitions of specs/Nested: the constraints of a line are nested at most 64 deep, as the types are that its steps point to.
use Rattle.std.specs.Prelude.{◌≡◌, List, [], ◌∷◌, ◌++◌, ℕ, ◌≤◌, drop}
use Rattle.std.proofs.Common.{arith}
use Rattle.std.proofs.Math.Path.{subst}
use Rattle.std.proofs.Math.Option.{Option, none, some}
use Rattle.rules.specs.Base.{got, need, orRefuse, and_then, each}
use Rattle.rules.specs.Exponents.{frac, goodExp}
use Rattle.rules.specs.Trees.{Names, Ty, depth, depthCon}
use Rattle.rules.specs.Contents.{closed}
use Rattle.rules.specs.Names.{Table, numbersOf, is_held}
use Rattle.rules.specs.Writing.{Rec, signed}
use Rattle.rules.specs.Reading.{readTy, records}
use Rattle.rules.specs.WellFormed.{goodTy}
use Rattle.rules.specs.Calls.{type_at}
use Rattle.rules.specs.Lines.{issuedByTwo, issued, constraints}
use Rattle.rules.specs.Steps.{
  Two,
  adds,
  subtracts,
  multiplies,
  divides,
  compares,
  LineStep,
  constant,
  reference,
  raises,
  joins,
  chooses,
  Deed,
  gives,
  raised,
  joined,
  chosen,
  takes,
  whole,
  StepWords,
  four,
  stepWords,
  StepKind,
  isConstant,
  isReference,
  isRaise,
  isChoose,
  isTwo,
  stepNumbers,
  stepKind,
  zeros,
  number_at,
  constantAt,
  referenceTo,
  raiseBy,
  step_of,
  stepGiven,
  lineGiven,
}
use Rattle.laws.proofs.Given.{or-some}
use Rattle.laws.proofs.Depth.{depth-read}
use Rattle.laws.specs.Lists.{Every, all-every}
use Rattle.laws.proofs.Lists.{every_append, bound-step, each-came}
use Rattle.laws.specs.Nesting.{Within}
use Rattle.laws.proofs.RuleCases.{and-then}
use Rattle.lines.specs.Nested.{Flat}

-- ══ What steps issue ══

module _ {N : Type 0} where
  abbrev FlatDeed : {A : Type 0} → Deed N A → Type 0
  FlatDeed (gives t) = depth t ≤ 64
  FlatDeed (raised e a) = Unit {0}
  FlatDeed (joined o a b) = Unit {0}
  FlatDeed (chosen a b c) = Unit {0}

  abbrev FlatTaken : {A : Type 0} → Option (Deed N A × List A) → Type 0
  FlatTaken none = Unit {0}
  FlatTaken (some d) = FlatDeed d.0

  taken-flat : {A : Type 0} (s : LineStep N) (st : List A) → Flat s → FlatTaken (takes s st)
  unfolding takes
  taken-flat (constant t) st f = f
  taken-flat (reference t) st f = f
  taken-flat (raises e) [] f = tt
  taken-flat (raises e) (a ∷ st) f = tt
  taken-flat (joins o) [] f = tt
  taken-flat (joins o) (r ∷ []) f = tt
  taken-flat (joins o) (r ∷ l ∷ st) f = tt
  taken-flat chooses [] f = tt
  taken-flat chooses (r ∷ []) f = tt
  taken-flat chooses (r ∷ l ∷ []) f = tt
  taken-flat chooses (r ∷ l ∷ c ∷ st) f = tt

module _ {N : Type 0} (ν : Names N) where
  two-flat : (v : N) (o : Two) (l r : N) → Within 64 (issuedByTwo ν v o l r)
  unfolding issuedByTwo depth depthCon
  two-flat v adds l r = (omega arith, (omega arith, (omega arith, (omega arith, tt))))
  two-flat v subtracts l r = (omega arith, (omega arith, (omega arith, (omega arith, tt))))
  two-flat v multiplies l r = (omega arith, (omega arith, (omega arith, tt)))
  two-flat v divides l r = (omega arith, (omega arith, (omega arith, tt)))
  two-flat v compares l r = (omega arith, (omega arith, (omega arith, (omega arith, tt))))

  issued-flat : (v : N) (d : Deed N N) → FlatDeed d → Within 64 (issued ν v d)
  unfolding issued depth depthCon
  issued-flat v (gives t) f = (omega (arith, f), tt)
  issued-flat v (raised e x) f = (omega arith, (omega arith, tt))
  issued-flat v (joined o l r) f = two-flat v o l r
  issued-flat v (chosen c l r) f = (omega arith, (omega arith, (omega arith, tt)))

  pub constraints-flat : (ss : List (LineStep N)) (vs st : List N) → Every Flat ss → Within 64 (constraints ν vs st ss)
  unfolding constraints
  constraints-flat [] vs st f = tt
  constraints-flat (s ∷ ss) [] st f = tt
  constraints-flat (s ∷ ss) (v ∷ vs) st f = go (takes s st) (taken-flat s st f.0) (λ st'. constraints-flat ss vs st' f.1)
    where
      go : (o : Option (Deed N N × List N)) → FlatTaken o → ((st' : List N) → Within 64 (constraints ν vs st' ss))
          → Within 64 (elim o [ none ↦ [] | some d ↦ issued ν v d.0 ++ constraints ν vs (v ∷ d.1) ss ])
      go none g h = tt
      go (some d) g h = every_append (λ c. depthCon c ≤ 64) (issued ν v d.0) (constraints ν vs (v ∷ d.1) ss) (issued-flat v d.0 g) (h (v ∷ d.1))

-- ══ Steps that were read ══

module _ (t : Table) (rs : List Rec) (lines : List ℕ) where
  type-flat : (place : ℕ) (ty : Ty ℕ) → type_at t rs place ≡ got ty → depth ty ≤ 64
  unfolding type_at
  type-flat place ty e =
      let a = bound-step (orRefuse 1 (and_then (readTy 64 (drop place rs)) (λ r. some r.0))) _ ty e in
      let b = bound-step (need (goodTy (numbersOf t) (is_held t) 0 a.0) 1) _ ty a.2 in
      let z : a.0 ≡ ty = cc b.2 in
      let r = and-then (readTy 64 (drop place rs)) (λ r. some r.0) a.0 (or-some 1 _ a.0 a.1) in
      let y : r.0.0 ≡ a.0 = cc r.2 in
      subst (λ (u : Ty ℕ). depth u ≤ 64) z (subst (λ (u : Ty ℕ). depth u ≤ 64) y ((depth-read 64 (drop place rs)).holds r.0.0 r.0.1 r.1))

  constant-flat : (place : ℕ) (s : LineStep ℕ) → constantAt t rs lines place ≡ got s → Flat s
  unfolding constantAt
  constant-flat place s e =
      let a = bound-step (type_at t rs place) _ s e in
      let b = bound-step (need (closed a.0) 1) _ s a.2 in
      let z : constant a.0 ≡ s = cc b.2 in
      subst Flat z (type-flat place a.0 a.1)

  reference-flat : (i : ℕ) (s : LineStep ℕ) → referenceTo t rs lines i ≡ got s → Flat s
  unfolding referenceTo
  reference-flat i s e =
      let a = bound-step (orRefuse 1 (number_at lines i)) _ s e in
      let b = bound-step (type_at t rs a.0) _ s a.2 in
      let z : reference b.0 ≡ s = cc b.2 in
      subst Flat z (type-flat a.0 b.0 b.1)

  kind-flat : (k : StepKind) (a b c : ℕ) (s : LineStep ℕ) → step_of t rs lines k a b c ≡ got s → Flat s
  unfolding step_of raiseBy
  kind-flat isConstant a b c s e = constant-flat a s (bound-step (zeros (b ∷ c ∷ [])) _ s e).2
  kind-flat isReference a b c s e = reference-flat a s (bound-step (zeros (b ∷ c ∷ [])) _ s e).2
  kind-flat isRaise a b c s e =
      let f = bound-step (zeros (a ∷ [])) _ s e in
      let g = bound-step (need (goodExp (frac (signed b) c)) 1) _ s f.2 in
      let z : raises (frac (signed b) c) ≡ s = cc g.2 in
      subst Flat z tt
  kind-flat isChoose a b c s e = let z : chooses ≡ s = cc (bound-step (zeros (a ∷ b ∷ c ∷ [])) _ s e).2 in subst Flat z tt
  kind-flat (isTwo o) a b c s e = let z : joins o ≡ s = cc (bound-step (zeros (a ∷ b ∷ c ∷ [])) _ s e).2 in subst Flat z tt

  step-flat : (w : StepWords) (s : LineStep ℕ) → stepGiven t rs lines w ≡ got s → Flat s
  unfolding stepGiven
  step-flat (four k a b c) s e = let f = bound-step (orRefuse 1 (stepKind k stepNumbers)) _ s e in kind-flat f.0 a b c s f.2

pub line-flat : (t : Table) (steps types lines : List ℕ) (ss : List (LineStep ℕ)) → lineGiven t steps types lines ≡ got ss → Every Flat ss
unfolding lineGiven
line-flat t steps types lines ss e =
    let a = bound-step (orRefuse 1 (stepWords steps)) _ ss e in
    let b = bound-step (orRefuse 1 (records types)) _ ss a.2 in
    let c = bound-step (each (stepGiven t b.0 lines) a.0) _ ss b.2 in
    let d = bound-step (need (whole 0 c.0) 1) _ ss c.2 in
    let z : c.0 ≡ ss = cc d.2 in
    subst (Every Flat) z (all-every Flat c.0 (λ s m. let w = each-came (stepGiven t b.0 lines) a.0 c.0 c.1 s m in step-flat t b.0 lines w.of s w.by))
