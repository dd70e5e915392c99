-- What follows from the definitions of specs/Whole: a dimension: its record and those of the factors that are left, counted and written.
use Rattle.std.specs.Prelude.{◌≡◌, refl, List, [], Err, Ok}
use Rattle.std.proofs.Common.{sym, ◌∙◌, arith}
use Rattle.std.proofs.Math.Path.{ap}
use Prim.Native.Nat.{ℕ, suc, ◌*◌}
use Rattle.std.proofs.Math.ListN.{length}
use Rattle.std.proofs.lemmas.List.{length-map}
use Rattle.std.proofs.Math.Seq.{sets, length-sets}
use Rattle.rules.specs.Names.{Bytes}
use Rattle.rules.specs.Trees.{dim}
use Rattle.rules.specs.Grammar.{give, sign, column, FactorAt, TyAt, dimAt, dimension, ◌>>=◌, ◌>>◌}
use Rattle.rules.specs.Refusals.{number_of}
use Rattle.rules.specs.Writing.{words, writeFactor, writeProduct, writeTy}
use Rattle.rules.specs.TextReading.{Step, Told, told, refusedAt, onward, counted, factorsOf, ty_of}
use Rattle.rules.specs.TextReading as TextReading
use Rattle.rules.specs.declared.Refusal.{Refusal}
use Rattle.products.specs.Told.{Tree, productOf}
use Rattle.products.specs.declared.Product.{Product}
use Rattle.text_grammar.specs.declared.inner.Point.TheVariants as point
use Rattle.text_grammar.specs.declared.inner.Point.{Point}
use Rattle.text_grammar.specs.Points.{Reads, Any, marked, columnAt}
use Rattle.text_grammar.proofs.Points.{in-turn, given}
use Rattle.text_grammar.specs.Factors.{factorsThere}
use Rattle.text_names.specs.Stands.{place_of, countOf, Stand}
use Rattle.text_names.proofs.Stands.{same-refused}
use Rattle.text_names.specs.Effects.{Lent, lent, sofar, Ready, Kept, kept_then}
use Rattle.text_names.proofs.Effects.{counted-going, counted-refused, kept-last, kept-written, kept-count}
use Rattle.text_names.specs.Effects.{Effect, Did, Writes, Halted, NotBad, Done}
use Rattle.text_names.proofs.Effects.{ready-kept, maps, halted-on, halted-counted, not-bad}
use Rattle.text_names.proofs.Inside.{inside-column, inside-spelled}
use Rattle.text_names.specs.Stands as stand
use Rattle.text_dimensions.specs.Times.{ProductIs}
use Rattle.text_dimensions.specs.Factors.{fromNone}
use Rattle.text_dimensions.specs.Whole.{productPut, end, DimMeant, DimDone}

product-long : (q : Product) (s r : Stand) (d : List ℕ) → length (productPut q s r d) ≡ length d
product-long q (Ok tally) (Ok tally') d = length-sets d (tally.records * 4) (words (writeProduct (productOf q)))
product-long q (Ok tally) (Err stop) d = refl
product-long q (Err stop) s d = refl

-- ══ A dimension as a step ══

no-stand : {s : Stand} {k n c : ℕ} {r : Refusal} → s ≡ stand.Refused r c → s ≡ stand.Going k n → ⊥
no-stand e f = cc

told_same : {s : Stand} {r r' : Refusal} {d d' : ℕ} → s ≡ stand.Refused r' d' → s ≡ stand.Refused r d
    → ◌≡◌ {A = Told Tree} (refusedAt (number_of r') (suc d')) (refusedAt (number_of r) (suc d))
told_same {s} {r} {r'} {d} {d'} e f = let w = same-refused e f in rw (w.0, w.1)

-- the column of a sign where the sheet goes on
sign-place : {k : ℕ} {s : Stand} (c : Point) → k ≡ columnAt c → NotBad c → Halted c s → (i n : ℕ) → s ≡ stand.Going i n → k ≡ suc (place_of c)
sign-place (point.At j) e b h i n f = e
sign-place point.Deep e b h i n f = absurd (h i n refl f)
sign-place (point.Bad j) e b h i n f = absurd b

pub written-length : (t : Tree) → length (writeProduct t) ≡ suc (length t)
unfolding writeProduct
written-length t = ap suc (length-map t writeFactor)

-- ══ Its steps: counted, its factors, counted again ══

abbrev closing : ℕ → Tree → Step Tree
closing e t = TextReading.◌>>◌ (counted (length t) e) (TextReading.give t)

abbrev inside : List FactorAt → ℕ → Step Tree
inside fs e = TextReading.◌>>=◌ (factorsOf fs []) (closing e)

module _ (q : Product) {pool table pool' table' dst dst' : List ℕ} (s s₁ s₂ s₃ : Stand) (at at₂ c e : ℕ) (fs : List FactorAt)
    (first : s₁ ≡ countOf 1 at s) (last : s₃ ≡ countOf (length (productOf q)) at₂ s₂)
    (begins : (i n : ℕ) → s ≡ stand.Going i n → c ≡ suc at) (ends : (i n : ℕ) → s₂ ≡ stand.Going i n → e ≡ suc at₂)
    (kept : Kept (lent pool table dst s₁) (lent pool' table' dst s₂))
    (f : Effect (fromNone fs) (ProductIs q) (lent pool table dst s₁) (lent pool' table' dst s₂))
    (put : dst' ≡ productPut q s s₃ dst) where
  stays-refused : (r : Refusal) (d : ℕ) → s₁ ≡ stand.Refused r d → s₃ ≡ stand.Refused r d
  stays-refused r d h = last ∙ ap (countOf (length (productOf q)) at₂) (kept.refused r d h)

  abbrev old : Lent
  old = lent pool table dst s

  abbrev new : Lent
  new = lent pool' table' dst s₂

  done_all : (i n j l g h i' n' : ℕ) → s ≡ stand.Going i n → s₁ ≡ stand.Going j l → s₂ ≡ stand.Going g h → s₃ ≡ stand.Going i' n'
      → Did (TextReading.productOf c fs e) (Writes writeProduct) old (end q s s₁ s₂ s₃ at at₂ c e fs first last begins ends kept f put) i n i' n'
  unfolding TextReading.productOf
  done_all i n j l g h i' n' p p₁ p₂ p₃ =
      let a = counted-going 1 at i n old p j l (sym first ∙ p₁) in
      let b = f.does j l g h p₁ p₂ in
      let t = b.tells.is in
      let z = counted-going (length (productOf q)) at₂ g h new p₂ i' n' (sym last ∙ p₃) in
      let y : counted (length b.value) e (sofar new g h) ≡ told tt (sofar new i' n') = rw (t, ends g h p₂) z.is in
      let zero : length b.records ≡ 0 = ap length b.tells.none in
      let size : length b.value ≡ length (productOf q) = ap length t in
      record {
        value = b.value;
        records = writeProduct b.value;
        is = ap (λ (k : ℕ). onward (counted 1 k (sofar old i n)) (λ u. inside fs e)) (begins i n p)
            ∙ ap (λ (m : Told (Unit {0})). onward m (λ u. inside fs e)) a.is
            ∙ ap (λ (m : Told Tree). onward m (closing e)) b.is ∙ ap (λ (m : Told (Unit {0})). onward m (λ u. TextReading.give b.value)) y;
        tells = refl;
        written = put ∙ rw (p, p₃) (ap (λ (v : Tree). sets dst (n * 4) (words (writeProduct v))) (sym t));
        grown = omega (arith, a.records, b.grown, zero, z.records, size, written-length b.value);
      }

  stop-first : (i n d : ℕ) (r : Refusal) → s ≡ stand.Going i n → s₁ ≡ stand.Refused r d
      → TextReading.productOf c fs e (sofar old i n) ≡ refusedAt (number_of r) (suc d)
  unfolding TextReading.productOf
  stop-first i n d r p p₁ =
      ap (λ (k : ℕ). onward (counted 1 k (sofar old i n)) (λ u. inside fs e)) (begins i n p)
      ∙ ap (λ (m : Told (Unit {0})). onward m (λ u. inside fs e)) (counted-refused 1 at i n old p d r (sym first ∙ p₁))

  module _ (i n j l : ℕ) (p : s ≡ stand.Going i n) (p₁ : s₁ ≡ stand.Going j l) where
    begun : TextReading.productOf c fs e (sofar old i n) ≡ inside fs e (sofar (lent pool table dst s₁) j l)
    unfolding TextReading.productOf
    begun =
        ap (λ (k : ℕ). onward (counted 1 k (sofar old i n)) (λ u. inside fs e)) (begins i n p)
        ∙ ap (λ (m : Told (Unit {0})). onward m (λ u. inside fs e)) (counted-going 1 at i n old p j l (sym first ∙ p₁)).is

    stop-inside : (d : ℕ) (r : Refusal) → s₂ ≡ stand.Refused r d → TextReading.productOf c fs e (sofar old i n) ≡ refusedAt (number_of r) (suc d)
    stop-inside d r p₂ = begun ∙ ap (λ (m : Told Tree). onward m (closing e)) (f.refuses j l d r p₁ p₂)

    stop-last : (g h d : ℕ) (r : Refusal) → s₂ ≡ stand.Going g h → s₃ ≡ stand.Refused r d
        → TextReading.productOf c fs e (sofar old i n) ≡ refusedAt (number_of r) (suc d)
    stop-last g h d r p₂ p₃ =
        let b = f.does j l g h p₁ p₂ in
        let t = b.tells.is in
        let y : counted (length b.value) e (sofar new g h) ≡ refusedAt (number_of r) (suc d) = rw (t, ends g h p₂)
        (counted-refused (length (productOf q)) at₂ g h new p₂ d r (sym last ∙ p₃)) in
        begun ∙ ap (λ (m : Told Tree). onward m (closing e)) b.is ∙ ap (λ (m : Told (Unit {0})). onward m (λ u. TextReading.give b.value)) y

  product-effect : Effect (TextReading.productOf c fs e) (Writes writeProduct) old (end q s s₁ s₂ s₃ at at₂ c e fs first last begins ends kept f put)
  product-effect = record {
    does = λ i n i' n' p p₃. does i n i' n' p p₃ s₁ refl s₂ refl;
    refuses = λ i n d r p p₃. refuses i n d r p p₃ s₁ refl s₂ refl;
  }
    where
      does : (i n i' n' : ℕ) → s ≡ stand.Going i n → s₃ ≡ stand.Going i' n' → (u : Stand) → s₁ ≡ u → (v : Stand) → s₂ ≡ v
          → Did (TextReading.productOf c fs e) (Writes writeProduct) old (end q s s₁ s₂ s₃ at at₂ c e fs first last begins ends kept f put) i n i' n'
      does i n i' n' p p₃ (Err stop) p₁ v p₂ = absurd (no-stand (stays-refused stop.why stop.at p₁) p₃)
      does i n i' n' p p₃ (Ok tally) p₁ (Err stop) p₂ = absurd (no-stand (last ∙ ap (countOf (length (productOf q)) at₂) p₂) p₃)
      does i n i' n' p p₃ (Ok tally) p₁ (Ok tally') p₂ = done_all i n tally.names tally.records tally'.names tally'.records i' n' p p₁ p₂ p₃

      refuses : (i n d : ℕ) (r : Refusal) → s ≡ stand.Going i n → s₃ ≡ stand.Refused r d → (u : Stand) → s₁ ≡ u → (v : Stand) → s₂ ≡ v
          → TextReading.productOf c fs e (sofar old i n) ≡ refusedAt (number_of r) (suc d)
      refuses i n d r p p₃ (Err stop) p₁ v p₂ = stop-first i n stop.at stop.why p p₁ ∙ told_same (stays-refused stop.why stop.at p₁) p₃
      refuses i n d r p p₃ (Ok tally) p₁ (Err stop) p₂ = stop-inside i n tally.names tally.records p p₁ stop.at stop.why p₂
          ∙ told_same (last ∙ ap (countOf (length (productOf q)) at₂) p₂) p₃
      refuses i n d r p p₃ (Ok tally) p₁ (Ok tally') p₂ = stop-last i n tally.names tally.records p p₁ tally'.names tally'.records d r p₂ p₃

-- ══ A dimension as a type ══

-- as a type
dim-effect : {x y : Lent} (t : TyAt) → Kept y y → DimMeant t x y → Effect (ty_of t) (Writes writeTy) x y
unfolding ty_of writeTy
dim-effect t k m = rw m.is (maps (TextReading.productOf m.start m.factors m.end) dim k m.effect (λ p rs e. e))

pub dim-done : {line : Bytes} {p r : Point} {x y : Lent} → DimDone line p x r y → Done line dimension ty_of (Writes writeTy) p x r y
dim-done d = record {
  reads = record {
    within = d.reads.within;
    onward = d.reads.onward;
    value = d.reads.value;
    is = d.reads.is;
    holds = λ nb. dim-effect d.reads.value (kept-last d.kept) (d.reads.holds nb);
  };
  kept = d.kept;
  halted = d.halted;
}

-- ══ A dimension, as it is read ══

module _ {line : Bytes} {p a b r : Point} {pool table pool' table' dst dst' : List ℕ} {s s₁ s₂ s₃ : Stand} {at at₂ long : ℕ} (q : Product) (c e : Point) where
  pub dimension-done : Ready line p pool table s → Reads line p column (λ (k : ℕ). k ≡ columnAt c) c → at ≡ place_of c → s₁ ≡ countOf 1 at s
      → Reads line c (marked 91) Any a
      → Done line factorsThere fromNone (ProductIs q) a (lent pool table dst s₁) b (lent pool' table' dst s₂)
      → Reads line b column (λ (k : ℕ). k ≡ columnAt e) e → at₂ ≡ place_of e → length (productOf q) ≡ long → s₃ ≡ countOf long at₂ s₂
      → dst' ≡ productPut q s s₃ dst → Reads line e (marked 93) Any r
      → DimDone line p (lent pool table dst s) r (lent pool' table' dst' s₃)
  unfolding dimension
  dimension-done ready x₁ h₁ f₁ x₂ d x₃ h₂ n f₂ g x₄ =
      let begin = halted-on inside-column x₁ ready.halted in
      let close = halted-on inside-column x₃ d.halted in
      let counts : s₃ ≡ countOf (length (productOf q)) at₂ s₂ = f₂ ∙ ap (λ (l : ℕ). countOf l at₂ s₂) (sym n) in
      let before = kept_then (kept-count 1 at ready f₁ dst) d.kept in
      record {
        reads =
            in-turn column (λ k. sign "[" >> (factorsThere >>= λ fs. column >>= λ l. sign "]" >> give (dimAt k fs l))) x₁
            (λ k hk. in-turn (sign "[") (λ u. factorsThere >>= λ fs. column >>= λ l. sign "]" >> give (dimAt k fs l)) x₂
            (λ u hu. in-turn factorsThere (λ fs. column >>= λ l. sign "]" >> give (dimAt k fs l)) d.reads
            (λ fs hf. in-turn column (λ l. sign "]" >> give (dimAt k fs l)) x₃
            (λ l hl. in-turn (sign "]") (λ u. give (dimAt k fs l)) x₄
            (λ u hv. given (dimAt k fs l) x₄.within (λ nb.
            let ne = not-bad x₄ nb in
            let nf = not-bad x₃ ne in
            let nc = not-bad x₂ (not-bad d.reads nf) in
            record {
              start = k;
              factors = fs;
              end = l;
              is = refl;
              effect = product-effect q s s₁ s₂ s₃ at at₂ k l fs f₁ counts (λ i m y. sign-place c hk nc begin i m y ∙ ap suc (sym h₁))
                  (λ i m y. sign-place e hl ne close i m y ∙ ap suc (sym h₂)) d.kept (hf nf) g;
            }))))));
        kept = kept-written (kept_then before (kept-count _ at₂ (ready-kept before d.reads.within d.halted) counts dst))
            (ap length g ∙ product-long q s s₃ dst);
        halted = halted-on (inside-spelled _) x₄ (λ k m y z. halted-counted (length (productOf q)) at₂ close k m y (sym counts ∙ z));
      }
