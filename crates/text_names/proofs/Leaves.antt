-- What follows from the definitions of specs/Leaves: types without a type inside, read and written.
use Rattle.std.specs.Prelude.{◌≡◌, Bool, true, false, List, [], ◌∷◌, ℕ, suc}
use Rattle.std.proofs.Math.Path.{refl}
use Rattle.std.proofs.Common.{ap, ◌∙◌}
use Rattle.std.proofs.Math.ListN.{length}
use Rattle.rules.specs.Names.{Bytes}
use Rattle.rules.specs.Trees.{Open, var, par, Ty, opened, basic}
use Rattle.rules.specs.Grammar.{give, column, name, NameAt, TyAt, open_at, basicAt, ◌>>=◌, ◌>>◌}
use Rattle.rules.specs.Writing.{Rec, writeTy}
use Rattle.rules.specs.TextReading.{onward, counted, named, openNamed, ty_of}
use Rattle.rules.specs.TextReading as TextReading
use Rattle.records.specs.Holds.{basicOf}
use Rattle.records.specs.Views.{recOf}
use Rattle.records.specs.declared.Basic.{Basic}
use Rattle.records.specs.declared.Basic.TheVariants.{Boolean, Text, Datetime}
use Rattle.records.specs.declared.View.{View}
use Rattle.records.specs.declared.View.TheVariants as view
use Rattle.text_grammar.specs.declared.inner.Point.{Point}
use Rattle.text_grammar.specs.Points.{Reads, Any, marked, columnAt}
use Rattle.text_grammar.proofs.Points.{in-turn, given}
use Rattle.text_grammar.specs.Signs.{spelled}
use Rattle.text_grammar.proofs.Signs.{keywordBy, openedBy}
use Rattle.text_names.specs.Stands.{place_of, countOf, headPut, Stand}
use Rattle.text_names.specs.Effects.{lent, Ready, Kept, kept_then, Effect, Writes}
use Rattle.text_names.proofs.Effects.{kept-last, kept-counted, kept-written, gives, maps, headed, head-long}
use Rattle.text_names.specs.Effects.{Done}
use Rattle.text_names.proofs.Effects.{halted-on, halted-counted, not-bad, at_sign}
use Rattle.text_names.proofs.Inside.{inside-column, inside-spelled}
use Rattle.text_names.specs.Naming.{NumberTold}
use Rattle.text_names.specs.Leaves.{mark_of, openView, openRule, word_of, basicRule}

abbrev pub openAs : {N : Type 0} → Bool → N → Open N
openAs true x = par x
openAs false x = var x

open_by : (b : Bool) → openRule b ≡ openedBy (mark_of b) (openAs b)
open_by true = refl
open_by false = refl

-- ══ An open name ══

-- the name that was told, and nothing else
record OpenTold (b : Bool) (i : ℕ) (o : Open ℕ) (rs : List Rec) : Type 0 where
  is : o ≡ openAs b i
  none : rs ≡ []

module _ {pool table pool' table' dst : List ℕ} {s₁ s' : Stand} {i : ℕ} where
  open-named : (b : Bool) (n : NameAt) → Kept (lent pool table dst s₁) (lent pool' table' dst s')
      → Effect (named n) (NumberTold table' i) (lent pool table dst s₁) (lent pool' table' dst s')
      → Effect (openNamed (openAs b n)) (OpenTold b i) (lent pool table dst s₁) (lent pool' table' dst s')
  open-named true n k e = maps (named n) par (kept-last k) e (λ x rs t. record { is = ap par t.is; none = t.none })
  open-named false n k e = maps (named n) var (kept-last k) e (λ x rs t. record { is = ap var t.is; none = t.none })

open-record : (b : Bool) (i : ℕ) → recOf (openView b i) 1 ∷ [] ≡ writeTy (opened (openAs b i))
unfolding writeTy
open-record true i = refl
open-record false i = refl

open-written : (b : Bool) (i : ℕ) (o : Open ℕ) (rs : List Rec) → OpenTold b i o rs → recOf (openView b i) (suc (length rs)) ∷ rs ≡ writeTy (opened o)
open-written b i o rs t = rw (t.is, t.none) (open-record b i)

abbrev bare : Bool → ℕ → NameAt → TyAt
bare b k n = open_at k (openAs b n)

module _ (b : Bool) (c : Point) {pool table pool' table' dst dst' : List ℕ} {s s' : Stand} {i : ℕ} where
  open-effect : (k : ℕ) (n : NameAt) → k ≡ suc (place_of c) → Kept (lent pool table dst (countOf 1 (place_of c) s)) (lent pool' table' dst s')
      → Effect (named n) (NumberTold table' i) (lent pool table dst (countOf 1 (place_of c) s)) (lent pool' table' dst s')
      → dst' ≡ headPut (openView b i) s s' dst
      → Effect (ty_of (bare b k n)) (Writes writeTy) (lent pool table dst s) (lent pool' table' dst' s')
  unfolding ty_of
  open-effect k n e kept f g =
      rw e
      (maps (λ s. onward (counted 1 (suc (place_of c)) s) (λ u. openNamed (openAs b n))) opened
      (kept-last (kept-written kept (ap length g ∙ head-long (openView b i) s s' dst)))
      (headed (openView b i) (place_of c) (openNamed (openAs b n)) {T = OpenTold b i} {W = λ o rs. rs ≡ writeTy (opened o)} {x = lent pool table dst s} kept
      (open-named b n kept f) (open-written b i) dst' g)
      (λ o rs t. t))

module _ {line : Bytes} {p a q : Point} {pool table pool' table' dst dst' : List ℕ} {s s' : Stand} {i : ℕ} (b : Bool) (c : Point)
    (ready : Ready line p pool table s) where
  read-open : Reads line p column (λ (k : ℕ). k ≡ columnAt c) c → Reads line c (marked (mark_of b)) Any a
      → Done line name named (NumberTold table' i) a (lent pool table dst (countOf 1 (place_of c) s)) q (lent pool' table' dst s')
      → dst' ≡ headPut (openView b i) s s' dst
      → Done line (openRule b) ty_of (Writes writeTy) p (lent pool table dst s) q (lent pool' table' dst' s')
  read-open x y d g = record {
    reads = rw (open_by b)
        (in-turn column (λ k. marked (mark_of b) >> (name >>= λ n. give (bare b k n))) x
        (λ k hk. in-turn (marked (mark_of b)) (λ u. name >>= λ n. give (bare b k n)) y
        (λ u hu. in-turn name (λ n. give (bare b k n)) d.reads
        (λ n hn. given (bare b k n) d.reads.within (λ nb.
        at_sign c hk (not-bad y (not-bad d.reads nb)) (halted-on inside-column x ready.halted) (λ e. open-effect b c k n e d.kept (hn nb) g))))));
    kept = kept-written (kept_then (kept-counted 1 (place_of c) ready.good ready.room) d.kept) (ap length g ∙ head-long (openView b i) s s' dst);
    halted = d.halted;
  }

  -- the same, by what the code has computed
  pub open_done : {at m : ℕ} {s₁ : Stand} {v : View} → Reads line p column (λ (k : ℕ). k ≡ columnAt c) c → at ≡ place_of c → s₁ ≡ countOf 1 at s
      → m ≡ mark_of b → Reads line c (marked m) Any a
      → Done line name named (NumberTold table' i) a (lent pool table dst s₁) q (lent pool' table' dst s') → v ≡ openView b i → dst' ≡ headPut v s s' dst
      → Done line (openRule b) ty_of (Writes writeTy) p (lent pool table dst s) q (lent pool' table' dst' s')
  open_done {at} {m} {s₁} {v} x e f h y d j g =
      read-open x (rw h at y) (rw (f ∙ ap (λ (n : ℕ). countOf 1 n s) e) at d) (g ∙ ap (λ (w : View). headPut w s s' dst) j)

-- ══ A basic type ══

basic-by : (b : Basic) → basicRule b ≡ keywordBy (word_of b) (basicOf b)
basic-by Boolean = refl
basic-by Text = refl
basic-by Datetime = refl

basic-record : (b : Basic) → recOf (view.Basic b) 1 ∷ [] ≡ writeTy (basic (basicOf b))
unfolding writeTy
basic-record Boolean = refl
basic-record Text = refl
basic-record Datetime = refl

-- this value, and no record
record Only {B : Type 0} (v b : B) (rs : List Rec) : Type 0 where
  is : b ≡ v
  none : rs ≡ []

basic-written : (b : Basic) (t : Ty ℕ) (rs : List Rec) → Only (basic (basicOf b)) t rs → recOf (view.Basic b) (suc (length rs)) ∷ rs ≡ writeTy t
basic-written b t rs h = rw (h.is, h.none) (basic-record b)

module _ (b : Basic) (c : Point) {pool table dst dst' : List ℕ} {s : Stand} where
  basic-effect : (k : ℕ) → k ≡ suc (place_of c) → Kept (lent pool table dst (countOf 1 (place_of c) s)) (lent pool table dst (countOf 1 (place_of c) s))
      → dst' ≡ headPut (view.Basic b) s (countOf 1 (place_of c) s) dst → Effect (ty_of (basicAt k (basicOf b))) (Writes writeTy) (lent pool table dst s)
      (lent pool table dst' (countOf 1 (place_of c) s))
  unfolding ty_of
  basic-effect k e kept g =
      rw e
      (headed (view.Basic b) (place_of c) (TextReading.give (basic (basicOf b))) {T = Only
      (basic (basicOf b))} {W = Writes writeTy} {x = lent pool table dst s} kept
      (gives (basic (basicOf b)) (record { is = refl; none = refl })) (basic-written b) dst' g)

module _ {line : Bytes} {p q : Point} {pool table dst dst' : List ℕ} {s : Stand} (b : Basic) (c : Point) (ready : Ready line p pool table s) where
  read-basic : Reads line p column (λ (k : ℕ). k ≡ columnAt c) c → Reads line c (spelled (word_of b)) Any q
      → dst' ≡ headPut (view.Basic b) s (countOf 1 (place_of c) s) dst
      → Done line (basicRule b) ty_of (Writes writeTy) p (lent pool table dst s) q (lent pool table dst' (countOf 1 (place_of c) s))
  read-basic x y g =
      let kept = kept-counted {x = lent pool table dst s} 1 (place_of c) ready.good ready.room in
      let on = halted-on inside-column x ready.halted in
      record {
        reads = rw (basic-by b)
            (in-turn column (λ k. spelled (word_of b) >> give (basicAt k (basicOf b))) x
            (λ k hk. in-turn (spelled (word_of b)) (λ u. give (basicAt k (basicOf b))) y
            (λ u hu. given (basicAt k (basicOf b)) y.within (λ nb. at_sign c hk (not-bad y nb) on (λ e. basic-effect b c k e (kept-last kept) g)))));
        kept = kept-written kept (ap length g ∙ head-long (view.Basic b) s (countOf 1 (place_of c) s) dst);
        halted = halted-on (inside-spelled (word_of b)) y (halted-counted 1 (place_of c) on);
      }

  pub basic-done : {at : ℕ} {s₁ : Stand} → Reads line p column (λ (k : ℕ). k ≡ columnAt c) c → at ≡ place_of c → s₁ ≡ countOf 1 at s
      → Reads line c (spelled (word_of b)) Any q
      → dst' ≡ headPut (view.Basic b) s s₁ dst → Done line (basicRule b) ty_of (Writes writeTy) p (lent pool table dst s) q (lent pool table dst' s₁)
  basic-done {at} {s₁} x e f y g = let h : s₁ ≡ countOf 1 (place_of c) s = f
      ∙ ap (λ (n : ℕ). countOf 1 n s) e in rw h (read-basic x y (g ∙ ap (λ (t : Stand). headPut (view.Basic b) s t dst) h))
