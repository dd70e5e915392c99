-- 11 needs an open reference: where the solver accepts a closed line, the judge says yes, 7 or 8.
use Rattle.std.specs.Prelude.{◌≡◌, Bool, ◌⊎◌, length}
use Rattle.std.proofs.Math.Path.{refl}
use Rattle.std.proofs.Common.{◌∙◌, sym, subst}
use Rattle.std.proofs.Math.Bool.{true, false}
use Rattle.std.proofs.Math.Option.{Option, none, some, get_or}
use Rattle.std.proofs.Math.Logic.{inl, inr}
use mathlib.Core.List.Memᴰ
use mathlib.Core.List.{List, [], ◌∷◌, ◌++◌, Memᴰ}
use Prim.Native.Nat.{ℕ, ◌≤◌, Ordering}
use Rattle.rules.specs.Base.{Got, got, refused, bounded, exact, collect, all}
use Rattle.rules.specs.Exponents.{Exp, one, neg, isZero}
use Rattle.rules.specs.Trees.{Open, var, free, Names, Ty, opened, dim, Con, equal, isDim, Binding, opens, opensCon}
use Rattle.rules.specs.Contents.{unmixed}
use Rattle.rules.specs.Products.{put}
use Rattle.rules.specs.Replacing.{replaceTy, find, bindings}
use Rattle.rules.specs.Solving.{accepted, solve}
use Rattle.rules.specs.Judging.{judge}
use Rattle.rules.specs.Meaning.{inProducts, productsOf, Premise}
use Rattle.rules.specs.WellFormed.{goodCon}
use Rattle.laws.proofs.ByteOrder.{atom-lawful}
use Rattle.laws.proofs.Contents.{collect-append}
use Rattle.laws.specs.Lists.{All, in_head, Every}
use Rattle.laws.proofs.Lists.{is_all}
use Rattle.laws.proofs.Occurs.{products-occur}
use Rattle.theorems_soundness.specs.Claims.{Ordered, Once, Given, YesOrLimits}
use Rattle.theorems_soundness.proofs.Soundness.{solved-form, own-answer}
use Rattle.rules.specs.Steps.{
  Two,
  adds,
  subtracts,
  multiplies,
  divides,
  compares,
  LineStep,
  constant,
  reference,
  raises,
  joins,
  chooses,
  Deed,
  gives,
  raised,
  joined,
  chosen,
  takes,
  whole,
}
use Rattle.rules.specs.Lines.{its, twoFactors, issuedByTwo, issued, constraints, last_of, agreed, settledSet, agreedSet, lineType}
use Rattle.theorems_lines.proofs.Stacks.{Ready}
use Rattle.theorems_lines.proofs.Beginning.{firsts, seconds, Lent}
use Rattle.theorems_lines.specs.FormedSteps.{FormedStep}
use Rattle.theorems_lines.proofs.Lent.{flow, good-cs, last-there, answered-alike, refused-alike}
use Rattle.theorems_lines.proofs.Words.{set-settled}
use Rattle.theorems_lines.proofs.Asked.{asked-dimensions}

-- ══ A variable that stands in a product of the set was asked to be a dimension ══

module _ {N : Type 0} (ν : Names N) where
  -- for each of these constraints
  abbrev AskedIn : List (Con N) → List (Con N) → Type 0
  AskedIn cs all = (x : N) → Memᴰ (var x) (collect productsOf cs) → Memᴰ (isDim (its x)) all

  nothing-asked : (cs : List (Con N)) → AskedIn [] cs
  unfolding collect
  nothing-asked cs x m = absurd (Memᴰ.not-nil m)

  -- a constraint without products
  no-products : (c : Con N) (cs all : List (Con N)) → productsOf c ≡ [] → AskedIn cs all → AskedIn (c ∷ cs) all
  unfolding collect
  no-products c cs all e h x m = h x (subst (λ (os : List (Open N)). Memᴰ (var x) (os ++ collect productsOf cs)) e m)

  -- a constraint whose products are of variables that were asked
  with-products : (c : Con N) (cs all : List (Con N)) → ((x : N) → Memᴰ (var x) (productsOf c) → Memᴰ (isDim (its x)) all) → AskedIn cs all
      → AskedIn (c ∷ cs) all
  unfolding collect
  with-products c cs all f h x m = go (Memᴰ.append_cases (productsOf c) m)
    where
      go : Memᴰ (var x) (productsOf c) ⊎ Memᴰ (var x) (collect productsOf cs) → Memᴰ (isDim (its x)) all
      go (inl i) = f x i
      go (inr i) = h x i

  one-var : (x y : N) (all : List (Con N)) → Memᴰ (isDim (its y)) all → var x ≡ var y → Memᴰ (isDim (its x)) all
  one-var x y all m e = let z : isDim (its y) ≡ isDim (its x) = cc in subst (λ (c : Con N). Memᴰ c all) z m

  both-asked : (xs ys : List (Con N)) → AskedIn xs xs → AskedIn ys ys → AskedIn (xs ++ ys) (xs ++ ys)
  both-asked xs ys f g x m = go (Memᴰ.append_cases (collect productsOf xs)
      (subst (λ (os : List (Open N)). Memᴰ (var x) os) (collect-append productsOf xs ys) m))
    where
      go : Memᴰ (var x) (collect productsOf xs) ⊎ Memᴰ (var x) (collect productsOf ys) → Memᴰ (isDim (its x)) (xs ++ ys)
      go (inl i) = Memᴰ.append_left ys (f x i)
      go (inr i) = Memᴰ.append_right xs (g x i)

  closed-asked : (v : N) (t : Ty N) → opens t ≡ [] → AskedIn (issued ν v (gives t)) (issued ν v (gives t))
  unfolding issued productsOf inProducts
  closed-asked v t e = with-products (equal (its v) t) [] _
      (λ x m. absurd (Memᴰ.not-nil (subst (λ (os : List (Open N)). Memᴰ (var x) os) e (products-occur t (var x) m)))) (nothing-asked _)

  power-var : (x y : N) (e : Exp) (all : List (Con N)) → Memᴰ (isDim (its y)) all → Memᴰ (var x) (inProducts (dim (put (free (var y)) e [])))
      → Memᴰ (isDim (its x)) all
  unfolding inProducts collect
  power-var x y e all a m = go (isZero e) refl
    where
      go : (z : Bool) → isZero e ≡ z → Memᴰ (isDim (its x)) all
      go true i = let k : Memᴰ (var x) [] = rw (i, put) at m in absurd (Memᴰ.not-nil k)
      go false i = let k : Memᴰ (var x) (var y ∷ []) = rw (i, put) at m in one-var x y all a (Memᴰ.eq_of_singleton k)

  power-asked : (v y : N) (e : Exp) → AskedIn (issued ν v (raised e y)) (issued ν v (raised e y))
  unfolding issued productsOf inProducts
  power-asked v y e = no-products (isDim (its y)) _ _ refl
      (with-products (equal (its v) (dim (put (free (var y)) e []))) [] _ (λ x m. power-var x y e _ in_head m) (nothing-asked _))

  two-var : (x l r : N) (e : Exp) (all : List (Con N)) → Memᴰ (isDim (its l)) all → Memᴰ (isDim (its r)) all
      → Memᴰ (var x) (inProducts (dim (twoFactors ν l r e))) → Memᴰ (isDim (its x)) all
  unfolding inProducts collect twoFactors
  two-var x l r e all a b m = go (ν.order l r) refl
    where
      either : (p q : N) → Memᴰ (isDim (its p)) all → Memᴰ (isDim (its q)) all → Memᴰ (var x) (var p ∷ var q ∷ []) → Memᴰ (isDim (its x)) all
      either p q i j k = at (Memᴰ.cases_cons k)
        where
          at : (var x ≡ var p) ⊎ Memᴰ (var x) (var q ∷ []) → Memᴰ (isDim (its x)) all
          at (inl e) = one-var x p all i e
          at (inr n) = one-var x q all j (Memᴰ.eq_of_singleton n)

      go : (o : Ordering) → ν.order l r ≡ o → Memᴰ (isDim (its x)) all
      go Ordering.lt i = let k : Memᴰ (var x) (var l ∷ var r ∷ []) = rw (i, twoFactors) at m in either l r a b k
      go Ordering.eq i = let k : Memᴰ (var x) (var l ∷ var r ∷ []) = rw (i, twoFactors) at m in either l r a b k
      go Ordering.gt i = let k : Memᴰ (var x) (var r ∷ var l ∷ []) = rw (i, twoFactors) at m in either r l b a k

  two-asked : (v l r : N) (o : Two) → AskedIn (issuedByTwo ν v o l r) (issuedByTwo ν v o l r)
  unfolding issuedByTwo productsOf inProducts
  two-asked v l r adds = no-products _ _ _ refl (no-products _ _ _ refl (no-products _ _ _ refl (no-products _ _ _ refl (nothing-asked _))))
  two-asked v l r subtracts = no-products _ _ _ refl (no-products _ _ _ refl (no-products _ _ _ refl (no-products _ _ _ refl (nothing-asked _))))
  two-asked v l r multiplies = no-products _ _ _ refl
      (no-products _ _ _ refl (with-products _ _ _ (λ x m. two-var x l r one _ in_head (Memᴰ.tail in_head) m) (nothing-asked _)))
  two-asked v l r divides = no-products _ _ _ refl
      (no-products _ _ _ refl (with-products _ _ _ (λ x m. two-var x l r (neg one) _ in_head (Memᴰ.tail in_head) m) (nothing-asked _)))
  two-asked v l r compares = no-products _ _ _ refl (no-products _ _ _ refl (no-products _ _ _ refl (no-products _ _ _ refl (nothing-asked _))))

  choice-asked : (v c l r : N) → AskedIn (issued ν v (chosen c l r)) (issued ν v (chosen c l r))
  unfolding issued productsOf inProducts
  choice-asked v c l r = no-products _ _ _ refl (no-products _ _ _ refl (no-products _ _ _ refl (nothing-asked _)))

  joined-asked : (v l r : N) (o : Two) → AskedIn (issued ν v (joined o l r)) (issued ν v (joined o l r))
  unfolding issued
  joined-asked v l r o = two-asked v l r o

  -- ══ Every step, and so the whole line ══

  -- what a step issues, if it finds its operands
  abbrev StepAsked : N → Option (Deed N N × List N) → Type 0
  StepAsked v none = Unit {0}
  StepAsked v (some d) = AskedIn (issued ν v d.0) (issued ν v d.0)

  step-asked : (s : LineStep N) (v : N) (st : List N) → Ready s → StepAsked v (takes s st)
  unfolding takes
  step-asked (constant t) v st r = closed-asked v t r
  step-asked (reference t) v st r = closed-asked v t r
  step-asked (raises e) v [] r = tt
  step-asked (raises e) v (x ∷ st) r = power-asked v x e
  step-asked (joins o) v [] r = tt
  step-asked (joins o) v (y ∷ []) r = tt
  step-asked (joins o) v (y ∷ x ∷ st) r = joined-asked v x y o
  step-asked chooses v [] r = tt
  step-asked chooses v (y ∷ []) r = tt
  step-asked chooses v (y ∷ x ∷ []) r = tt
  step-asked chooses v (y ∷ x ∷ z ∷ st) r = choice-asked v z x y

  asked : (ss : List (LineStep N)) (vs st : List N) → Every Ready ss → AskedIn (constraints ν vs st ss) (constraints ν vs st ss)
  unfolding constraints
  asked [] vs st r = nothing-asked []
  asked (s ∷ ss) [] st r = nothing-asked []
  asked (s ∷ ss) (v ∷ vs) st r = go (takes s st) refl (step-asked s v st r.0) (λ rest. asked ss vs (v ∷ rest) r.1)
    where
      go : (d : Option (Deed N N × List N)) → takes s st ≡ d → StepAsked v d
          → ((rest : List N) → AskedIn (constraints ν vs (v ∷ rest) ss) (constraints ν vs (v ∷ rest) ss))
          → AskedIn (constraints ν (v ∷ vs) st (s ∷ ss)) (constraints ν (v ∷ vs) st (s ∷ ss))
      go none e a more = rw (e, constraints) (nothing-asked [])
      go (some d) e a more = rw (e, constraints) (both-asked (issued ν v d.0) (constraints ν vs (v ∷ d.1) ss) a (more d.1))

-- ══ The judge on the solver's answer ══

module _ {N : Type 0} (ν : Names N) (held : N → Bool) (ord : Ordered ν held) (ps : List (N × N)) (once : Once (firsts ps))
    (once' : Once (seconds ps)) (lent : All (Lent ν held ord ps) ps)
    (ss : List (LineStep N)) (formed : Every (FormedStep ν held) ss) (ready : Every Ready ss) where
  abbrev cs : List (Con N)
  cs = constraints ν (firsts ps) [] ss

  module _ (bs : List (Binding N)) (ns : List N) (k : ℕ) (unmixed-set : unmixed ν (collect opensCon cs) ≡ true)
      (accepts : solve ν bounded cs ≡ accepted bs ns k) where
    given : Given ν held cs
    given = record { well-formed = is_all (goodCon ν held 0) cs (good-cs ν held ord ps once once' lent ss formed ready); apart = unmixed-set }

    put-bound : (x : N) (t : Ty N) → find ν bs x ≡ some t → replaceTy ν exact (bindings ν bs) (its x) ≡ got t
    unfolding replaceTy bindings
    put-bound x t e = rw e

    premise : Premise ν cs bs
    premise =
        let form = solved-form ν held ord cs given bs ns k accepts in
        let dims = asked-dimensions ν (atom-lawful ν ord.lawful) (Lent ν held ord ps) bs ns k form.once cs _
        (flow ν held ord ps once once' lent ss formed ready) accepts in
        record { dimensions = λ x m t e. dims (isDim (its x)) (asked ν ss (firsts ps) [] ready x m) t (put-bound x t e) }

    pub never-no : YesOrLimits (judge ν bounded bs ns cs)
    never-no = own-answer ν held ord cs given bs ns k accepts premise

  -- ══ Two lists of lent names, whatever comes of them ══

  abbrev this : Got (Ty N)
  this = lineType ν ss (firsts ps)

  abbrev that : Got (Ty N)
  that = lineType ν ss (seconds ps)

  -- the same, or one of the two is 7 or 8
  abbrev Limit : Got (Ty N) → Type 0
  Limit m = (m ≡ refused 7) ⊎ (m ≡ refused 8)

  pub limit-met : (f : List (Binding N) × List N) → settledSet ν cs ≡ got f
      → (judge ν bounded f.0 f.1 cs ≡ refused 7) ⊎ (judge ν bounded f.0 f.1 cs ≡ refused 8) → Limit this
  unfolding lineType agreedSet agreed
  limit-met f e (inl j) = inl (rw (e, j))
  limit-met f e (inr j) = inr (rw (e, j))

  pub answers : (f : List (Binding N) × List N) (v : N) → settledSet ν cs ≡ got f → judge ν bounded f.0 f.1 cs ≡ got true
      → last_of (firsts ps) ss ≡ some v → this ≡ got (get_or (bindings ν f.0 (var v)) (opened (var v)))
  unfolding lineType agreedSet agreed replaceTy
  answers f v e j l = rw (e, j, l)

  pub same-but-limits : whole 0 ss ≡ true → length ss ≤ length (firsts ps) → (this ≡ that) ⊎ (Limit this ⊎ Limit that)
  same-but-limits complete long = go (settledSet ν cs) refl
    where
      turned : (m : Got (Ty N)) (ty : Ty N) → this ≡ got ty → (m ≡ got ty) ⊎ ((m ≡ refused 7) ⊎ (m ≡ refused 8)) → (this ≡ m) ⊎ (Limit this ⊎ Limit m)
      turned m ty e (inl i) = inl (e ∙ sym i)
      turned m ty e (inr i) = inr (inr i)

      judged : (f : List (Binding N) × List N) → settledSet ν cs ≡ got f → YesOrLimits (judge ν bounded f.0 f.1 cs) → (this ≡ that) ⊎ (Limit this ⊎ Limit that)
      judged f e (inl j) =
          let l = last-there ν held ord ps once once' lent ss formed ready f e j complete long in
          let a = answers f l.0 e j l.1 in
          turned that _ a (answered-alike ν held ord ps once once' lent ss formed ready complete long _ a)
      judged f e (inr j) = inr (inl (limit-met f e j))

      go : (m : Got (List (Binding N) × List N)) → settledSet ν cs ≡ m → (this ≡ that) ⊎ (Limit this ⊎ Limit that)
      go (refused n) e = let r = refused-alike ν held ord ps once once' lent ss formed ready n e in inl (r.0 ∙ sym r.1)
      go (got f) e = let s = set-settled ν cs f e in judged f e (never-no f.0 f.1 s.0 s.1 s.2)
