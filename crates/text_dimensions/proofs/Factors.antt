-- What follows from the definitions of specs/Factors: factors, multiplied from left to right while they are read.
use Rattle.std.specs.Prelude.{◌≡◌, refl, Bool, true, false, List, [], ◌∷◌, Err, Ok}
use Rattle.std.proofs.Common.{sym, ◌∙◌, arith}
use Rattle.std.proofs.Math.Path.{ap}
use Prim.Native.Nat.{ℕ, zero, suc, ◌<◌}
use Rattle.rules.specs.Base.{bounded}
use Rattle.rules.specs.Exponents.{Exp}
use Rattle.rules.specs.Names.{Bytes}
use Rattle.rules.specs.Products.{put, multiply}
use Rattle.rules.specs.Trees.{Atom}
use Rattle.rules.specs.Grammar.{Rule, give, sign, column, left, NameAt, PowerAt, FactorAt, factor, moreFactors, factors, ◌>>=◌, ◌>>◌}
use Rattle.rules.specs.Writing.{Rec}
use Rattle.rules.specs.TextReading.{Step, placed, namesSofar, atomNamed, multiplied, factorsOf}
use Rattle.rules.specs.TextReading as TextReading
use Rattle.exponents.specs.Answers.{expOf}
use Rattle.exponents.specs.declared.Exponent.{Exponent}
use Rattle.products.specs.Told.{Tree, productOf}
use Rattle.products.specs.Held.{Well}
use Rattle.products.specs.declared.Product.{Product}
use Rattle.text_grammar.specs.declared.inner.Point.TheVariants as point
use Rattle.text_grammar.specs.declared.inner.Point.{Point}
use Rattle.text_grammar.specs.Points.{Reads, PointIn, MarkRead, left_at, columnAt, beginsAt}
use Rattle.text_grammar.proofs.Points.{in-turn, given, if-sign, if-no-sign}
use Rattle.text_grammar.specs.Factors.{atom, powerThere, factorsThere}
use Rattle.text_grammar.proofs.Factors.{begun, left_there}
use Rattle.text_names.specs.Stands.{place_of, Stand}
use Rattle.text_names.specs.Effects.{Lent, lent, Ready, Kept, kept_then, Effect, Halted, NotBad}
use Rattle.text_names.proofs.Effects.{ready-next, kept_same, kept-last, then, gives, halted-on}
use Rattle.text_names.specs.Effects.{Done}
use Rattle.text_names.proofs.Effects.{not-bad, at_sign}
use Rattle.text_names.proofs.Inside.{inside-column}
use Rattle.text_names.specs.Stands as stand
use Rattle.text_dimensions.specs.Atoms.{AtomTold}
use Rattle.text_dimensions.specs.Powers.{powered, ExpTold}
use Rattle.text_dimensions.specs.Times.{timesBy, ProductIs, HeldIf}
use Rattle.text_dimensions.specs.Factors.{is_at, MoreDone, fromNone, Followed}

-- at a point that is no place in the line nothing is multiplied
pub idle : {B : Type 0} {m : Step B} {T : B → List Rec → Type 0} {x : Lent} (q : Point) → false ≡ is_at q → Halted q x.stand → NotBad q → Effect m T x x
idle (point.At i) e h n = absurd (cc)
idle point.Deep e h n = record { does = λ i j i' j' p q. absurd (h i j refl p); refuses = λ i j c r p q. absurd (h i j refl p) }
idle (point.Bad q) e h n = absurd n

pub at-fine : (q : Point) → true ≡ is_at q → NotBad q
at-fine (point.At i) e = tt
at-fine point.Deep e = tt
at-fine (point.Bad q) e = cc

pub at-halted : {s : Stand} (q : Point) → true ≡ is_at q → Halted q s
at-halted q e k n h p = let z : ◌≡◌ {A = Bool} true false = e ∙ ap is_at h in cc

-- where the sheet goes on now, it went on before
pub record WentOn (s : Stand) : Type 0 where
  pub fresh : ℕ
  pub records : ℕ
  pub is : s ≡ stand.Going fresh records

pub went_on : {x y : Lent} {k n : ℕ} → Kept x y → y.stand ≡ stand.Going k n → WentOn x.stand
went_on {x} {y} k e = go x.stand refl
  where
    go : (s : Stand) → x.stand ≡ s → WentOn s
    go (Ok tally) p = record { fresh = tally.names; records = tally.records; is = refl }
    go (Err stop) p = let h = k.refused stop.why stop.at p in absurd (cc)

-- ══ One factor ══

-- where the sheet goes on behind a power, the factor's name is held
module _ {line : Bytes} {c a q : Point} {pool table pool' table' dst : List ℕ} {s s₁ s₂ : Stand} {kind number : ℕ} {exp : Exponent} where
  pub held-if : Done line atom atomNamed (AtomTold table' kind number) c (lent pool table dst s) a (lent pool' table' dst s₁)
      → Done line powerThere powered (ExpTold exp) a (lent pool' table' dst s₁) q (lent pool' table' dst s₂) → NotBad q → HeldIf table' kind number s₂
  held-if d e n k l h =
      let w = went_on e.kept h in
      let v = went_on d.kept w.is in
      ((d.reads.holds (not-bad e.reads n)).does v.fresh v.records w.fresh w.records v.is w.is).tells.held

abbrev timesThen : Tree → ℕ → Atom ℕ → Exp → Step Tree
timesThen t k b e = λ u. placed k (multiply (namesSofar u) bounded t (put b e [])) u

module _ (t o : Product) (at : ℕ) {pool table pool' table' dst : List ℕ} {s s₁ s₂ s₃ : Stand} {kind number : ℕ} {exp : Exponent} where
  factor-effect : (k : ℕ) (b : Atom NameAt) (w : PowerAt) → k ≡ suc at → Kept (lent pool' table' dst s₁) (lent pool' table' dst s₂)
      → Kept (lent pool' table' dst s₂) (lent pool' table' dst s₃)
      → Effect (atomNamed b) (AtomTold table' kind number) (lent pool table dst s) (lent pool' table' dst s₁)
      → Effect (powered w) (ExpTold exp) (lent pool' table' dst s₁) (lent pool' table' dst s₂)
      → Effect (timesBy at (productOf t) kind number (expOf exp)) (ProductIs o) (lent pool' table' dst s₂) (lent pool' table' dst s₃)
      → Effect (multiplied (productOf t) (record { column = k; atom = b; power = w })) (ProductIs o) (lent pool table dst s) (lent pool' table' dst s₃)
  unfolding multiplied
  factor-effect k b w g ke km ea ee em =
      then (atomNamed b) (λ a. TextReading.◌>>=◌ (powered w) (λ e. timesThen (productOf t) k a e)) ea (kept_then ke km) (λ v rs h.
      then (powered w) (λ e. timesThen (productOf t) k v e) ee km (λ e qs i.
      rw (g, h.is, i.is, h.none, i.none) em))

module _ {line : Bytes} {p a q : Point} (t o : Product) (c : Point) {at : ℕ}
    (place : at ≡ place_of c) {pool table pool' table' dst : List ℕ} {s s₁ s₂ s₃ : Stand} {kind number : ℕ} {exp : Exponent} where
  pub factor-done : Ready line p pool table s → Reads line p column (λ (k : ℕ). k ≡ columnAt c) c
      → Done line atom atomNamed (AtomTold table' kind number) c (lent pool table dst s) a (lent pool' table' dst s₁)
      → Done line powerThere powered (ExpTold exp) a (lent pool' table' dst s₁) q (lent pool' table' dst s₂)
      → (NotBad q → Effect (timesBy at (productOf t) kind number (expOf exp)) (ProductIs o) (lent pool' table' dst s₂) (lent pool' table' dst s₃))
      → Kept (lent pool' table' dst s₂) (lent pool' table' dst s₃) → Halted q s₃
      → Done line factor (multiplied (productOf t)) (ProductIs o) p (lent pool table dst s) q (lent pool' table' dst s₃)
  unfolding factor
  factor-done ready x d e m km h = record {
    reads =
        in-turn column (λ k. atom >>= λ a. powerThere >>= λ w. give (record { column = k; atom = a; power = w })) x
        (λ k hk. in-turn atom (λ a. powerThere >>= λ w. give (record { column = k; atom = a; power = w })) d.reads
        (λ b hb. in-turn powerThere (λ w. give (record { column = k; atom = b; power = w })) e.reads
        (λ w hw. given (record { column = k; atom = b; power = w }) e.reads.within (λ nb.
        let na = not-bad e.reads nb in
        at_sign c hk (not-bad d.reads na) (halted-on inside-column x ready.halted) (λ g.
        factor-effect t o at k b w (g ∙ ap suc (sym place)) e.kept km (hb na) (hw nb) (m nb))))));
    kept = kept_then d.kept (kept_then e.kept km);
    halted = h;
  }

-- ══ More factors, whatever follows ══

-- whatever follows at q follows from p
pub record Further (line : Bytes) (p : Point) (t : Tree) (x : Lent) (q : Point) (u : Tree) (y : Lent) : Type 0 where
  pub follows : (r : Point) (o : Product) (z : Lent) → Kept y z → MoreDone line q u y r o z → MoreDone line p t x r o z

pub further-here : {line : Bytes} {p : Point} {t : Tree} {x : Lent} → Further line p t x p t x
further-here = record { follows = λ r o z k m. m }

abbrev starred : ℕ → Rule (List FactorAt)
starred n = sign "*" >> (factor >>= λ f. moreFactors n >>= λ fs. give (f ∷ fs))

factors-then : {x y z : Lent} (u : Product) (t : Tree) {o : Product} (f : FactorAt) (fs : List FactorAt) → Kept y z
    → Effect (multiplied t f) (ProductIs u) x y → Effect (factorsOf fs (productOf u)) (ProductIs o) y z
    → Effect (factorsOf (f ∷ fs) t) (ProductIs o) x z
unfolding factorsOf
factors-then u t f fs k e g = then (multiplied t f) (λ q. factorsOf fs q) e k (λ q rs h. rw (h.is, h.none) g)

module _ {line : Bytes} {q a b : Point} (t u : Product) {y w : Lent} (within : PointIn line q) (e : true ≡ beginsAt line q 42) (x : MarkRead line q 42 a)
    (d : Done line factor (multiplied (productOf t)) (ProductIs u) a y b w) where
  one_more : (r : Point) (o : Product) (z : Lent) → Kept w z → MoreDone line b (productOf u) w r o z → MoreDone line q (productOf t) y r o z
  unfolding moreFactors
  one_more r o z kept k zero h = absurd (omega (arith, begun line 42 q within e))
  one_more r o z kept k (suc n) h =
      let m = k n (omega (arith, d.reads.onward, x.less, begun line 42 q within e)) in
      if-sign "*" (starred n) (give []) e
      (in-turn (sign "*") (λ u. factor >>= λ f. moreFactors n >>= λ fs. give (f ∷ fs)) x.reads
      (λ v hv. in-turn factor (λ f. moreFactors n >>= λ fs. give (f ∷ fs)) d.reads
      (λ f hf. in-turn (moreFactors n) (λ fs. give (f ∷ fs)) m (λ fs hs. given (f ∷ fs) m.within (λ nb.
      factors-then u (productOf t) f fs kept (hf (not-bad m nb)) (hs nb))))))

  pub further-on : {p : Point} {s : Tree} {v : Lent} → Further line p s v q (productOf t) y → Further line p s v b (productOf u) w
  further-on f = record { follows = λ r o z kept m. f.follows r o z (kept_then d.kept kept) (one_more r o z kept m) }

  pub further-less : left_at line b < left_at line q
  further-less = omega (arith, d.reads.onward, x.less, begun line 42 q within e)

no_more : {line : Bytes} {q : Point} {t : Product} {y : Lent} → PointIn line q → false ≡ beginsAt line q 42 → MoreDone line q (productOf t) y q t y
unfolding moreFactors factorsOf
no_more {line} {q} {t} {y} i e zero h = given [] i (λ nb. gives (productOf t) (record { is = refl; none = refl }))
no_more {line} {q} {t} {y} i e (suc n) h = if-no-sign "*" (starred n) (give []) e (given [] i (λ nb. gives (productOf t) (record { is = refl; none = refl })))

pub further-ends : {line : Bytes} {p q : Point} {s : Tree} {t : Product} {v y : Lent} → Kept y y → PointIn line q → false ≡ beginsAt line q 42
    → Further line p s v q (productOf t) y → MoreDone line p s v q t y
further-ends {line} {p} {q} {s} {t} {v} {y} k i e f = f.follows q t y k (no_more i e)

module _ {line : Bytes} {p f r : Point} {x y z : Lent} {u o : Product} where
  pub factors-done : false ≡ beginsAt line p 93 → Done line factor (multiplied []) (ProductIs u) p x f y → Kept y z → Halted r z.stand
      → MoreDone line f (productOf u) y r o z
      → Done line factorsThere fromNone (ProductIs o) p x r z
  factors-done e d k h m = record {
    reads =
        if-no-sign "]" (give []) factors e
        (in-turn factor (λ a. left >>= λ n. moreFactors n >>= λ fs. give (a ∷ fs)) d.reads
        (λ a ha. in-turn left (λ n. moreFactors n >>= λ fs. give (a ∷ fs)) (left_there line f d.reads.within)
        (λ n hn. let v = m n hn in in-turn (moreFactors n) (λ fs. give (a ∷ fs)) v (λ fs hs. given (a ∷ fs) v.within (λ nb.
        factors-then u [] a fs k (ha (not-bad v nb)) (hs nb))))));
    kept = kept_then d.kept k;
    halted = h;
  }

pub no-factors : {line : Bytes} {p : Point} {x : Lent} (o : Product) → productOf o ≡ [] → PointIn line p → Kept x x → Halted p x.stand
    → true ≡ beginsAt line p 93
    → Done line factorsThere fromNone (ProductIs o) p x p x
unfolding factorsOf
no-factors o f i k h e = record {
  reads = if-sign "]" (give []) factors e (given [] i (λ nb. gives [] (record { is = sym f; none = refl })));
  kept = k;
  halted = h;
}

-- ══ The loop ══

-- what the loop has done so far
pub record Following (line : Bytes) (p : Point) (q : Product) (pool table : List ℕ) (s : Stand) (r : Point) (o : Product) (pool' table' : List ℕ)
    (s' : Stand) : Type 0 where
  pub ready : Ready line r pool' table' s'
  pub well : Well pool' table' o
  pub kept : (dst : List ℕ) → Kept (lent pool table dst s) (lent pool' table' dst s')
  pub further : (dst : List ℕ) → Further line p (productOf q) (lent pool table dst s) r (productOf o) (lent pool' table' dst s')

pub following-here : {line : Bytes} {p : Point} {q : Product} {pool table : List ℕ} {s : Stand} → Ready line p pool table s → Well pool table q
    → Following line p q pool table s p q pool table s
following-here h w = record { ready = h; well = w; kept = λ dst. kept_same h.good h.room; further = λ dst. further-here }

module _ {line : Bytes} {p r : Point} {q o : Product} {pool table pool' table' : List ℕ} {s s' : Stand}
    (f : Following line p q pool table s r o pool' table' s') where
  pub following-on : {a b : Point} {u : Product} {pool'' table'' : List ℕ} {s'' : Stand} → true ≡ beginsAt line r 42 → MarkRead line r 42 a
      → Well pool'' table'' u
      → ((dst : List ℕ) → Done line factor (multiplied (productOf o)) (ProductIs u) a (lent pool' table' dst s') b (lent pool'' table'' dst s''))
      → Following line p q pool table s b u pool'' table'' s''
  following-on {a} {b} {u} e x w d = record {
    ready = ready-next (d []);
    well = w;
    kept = λ dst. kept_then (f.kept dst) (d dst).kept;
    further = λ dst. further-on o u f.ready.within e x (d dst) (f.further dst);
  }

  pub following-ends : false ≡ beginsAt line r 42 → Followed line p q pool table s r o pool' table' s'
  following-ends e = record {
    ready = f.ready;
    well = f.well;
    kept = f.kept;
    more = λ dst. further-ends (kept-last (f.kept dst)) f.ready.within e (f.further dst);
  }
