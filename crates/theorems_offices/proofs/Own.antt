-- What an office writes with its numbers, of lists and products, reads alike where its numbers do.
use Rattle.std.specs.Prelude.{◌≡◌, Bool, not, eqb, leb, ltb, length, get_or, take}
use Rattle.std.proofs.Math.Path.{refl, ap₂, sym}
use Rattle.std.proofs.Common.{ap, ◌∙◌, arith, ltb-true, eqb-true}
use Rattle.std.proofs.Math.Bool.{true, false}
use Rattle.std.proofs.Math.Option.{Option, some}
use mathlib.Core.List.{List, [], ◌∷◌, map}
use Prim.Native.Nat.{ℕ, zero, suc, ◌*◌, ◌<◌}
use Rattle.std.proofs.lemmas.List.{length-map}
use Rattle.rules.specs.Base.{all, any, and_then, only_if, ◌or_else◌}
use Rattle.rules.specs.Trees.{Atom, free, base, var, quant, par, Factor, ◌↑◌, Product}
use Rattle.rules.specs.Names.{Table}
use Rattle.rules.specs.Writing.{Rec, rec, kindIn, words}
use Rattle.rules.specs.Values.{FactorValue, ProductValue, atomIn, factorIn, factorsIn, productIn}
use Rattle.rules.specs.Offices.{
  Name,
  nameNo,
  namesOne,
  mapAtom,
  mapFactor,
  mapOption,
  ReadAlike,
  ValuesAlike,
  fill,
  written,
  ownRec,
  own,
  fillFactor,
  fillValue,
  ownFactor,
  ownValue,
}
use Rattle.laws.specs.Lists.{and_left, and_right}
use Rattle.laws.proofs.Size.{words-length}
use Rattle.theorems_offices.proofs.Options.{then_map, or_map, only-map}
use Rattle.theorems_offices.proofs.Reading.{seen}
use Rattle.theorems_offices.proofs.Writing.{words-alike}
use Rattle.theorems_offices.proofs.Results.{joined-alike, rest-alike}

-- ══ Lists ══

module _ (f f' : ℕ → Name) where
  at-alike : (ns ns' : List ℕ) (a : ℕ) → map f ns ≡ map f' ns' → a < length ns → f (get_or ns a 0) ≡ f' (get_or ns' a 0)
  at-alike [] ns' a e h = absurd (omega arith)
  at-alike (n ∷ ns) [] a e h = absurd (cc)
  at-alike (n ∷ ns) (n' ∷ ns') zero e h = cc
  at-alike (n ∷ ns) (n' ∷ ns') (suc a) e h = at-alike ns ns' a (cc) (omega arith)

  pub handed-alike : (ns ns' is : List ℕ) → map f ns ≡ map f' ns' → all (λ i. ltb i (length ns)) is ≡ true
      → map f (map (λ i. get_or ns i 0) is) ≡ map f' (map (λ i. get_or ns' i 0) is)
  unfolding all
  handed-alike ns ns' [] e h = refl
  handed-alike ns ns' (i ∷ is) e h = rw (
    at-alike ns ns' i e (ltb-true i (length ns) (and_left (ltb i (length ns)) _ h)),
    handed-alike ns ns' is e (and_right (ltb i (length ns)) _ h),
  )

module _ (t t' : Table) (ns ns' : List ℕ) (e : map (nameNo t) ns ≡ map (nameNo t') ns') where
  record-alike : (r : Rec) → ownRec (length ns) r ≡ true → seen t (fill ns r) ≡ seen t' (fill ns' r)
  unfolding ownRec fill
  record-alike (rec w a b c) h = go (namesOne (kindIn w) b) refl
    where
      go : (x : Bool) → namesOne (kindIn w) b ≡ x → seen t (fill ns (rec w a b c)) ≡ seen t' (fill ns' (rec w a b c))
      go true q = rw (fill, q, q, at-alike (nameNo t) (nameNo t') ns ns' a e (ltb-true a (length ns) (rw (ownRec, q) at h)))
      go false q = rw (fill, q, q)

  draft-alike : (rs : List Rec) → own (length ns) rs ≡ true → map (seen t) (map (fill ns) rs) ≡ map (seen t') (map (fill ns') rs)
  unfolding own all
  draft-alike [] h = refl
  draft-alike (r ∷ rs) h = rw (record-alike r (and_left (ownRec (length ns) r) _ h), draft-alike rs (and_right (ownRec (length ns) r) _ h))

  written-length : (ms : List ℕ) (rs : List Rec) → length (words (map (fill ms) rs)) ≡ length rs * 4
  written-length ms rs = words-length (map (fill ms) rs) ∙ ap (λ (n : ℕ). n * 4) (length-map rs (fill ms))

  pub written-alike : (rs : List Rec) (rest : List ℕ) → own (length ns) rs ≡ true → length rest < 4 → ReadAlike t t' (written ns rs rest) (written ns' rs rest)
  unfolding written
  written-alike rs rest h l = joined-alike t t' (length rs) _ _ rest rest (written-length ns rs) (written-length ns' rs)
      (words-alike t t' _ _ (draft-alike rs h)) (rest-alike t t' rest l)

-- ══ Products by value ══

-- the atom of a kind, a name and an index
atomNamed : ℕ → Name → ℕ → Option (Atom Name)
atomNamed k n i = only_if (eqb k 11) (free (var n)) or_else only_if (eqb k 12) (free (par n)) or_else only_if (eqb k 13) (base n) or_else only_if
    (eqb k 15) (free (quant i))

four : {A B : Type 0} (g : A → B) (a b c d : Option A)
    → (mapOption g a or_else mapOption g b or_else mapOption g c or_else mapOption g d) ≡ mapOption g (a or_else b or_else c or_else d)
four g a b c d = rw (or_map g c d, or_map g b (c or_else d), or_map g a (b or_else c or_else d))

atom-named : (f : ℕ → Name) (k x : ℕ) → mapOption (mapAtom f) (atomIn k x) ≡ atomNamed k (f x) x
unfolding atomIn atomNamed
atom-named f k x =
    sym (four (mapAtom f) (only_if (eqb k 11) (free (var x))) (only_if (eqb k 12) (free (par x))) (only_if (eqb k 13) (base x))
    (only_if (eqb k 15) (free (quant x))))
    ∙ rw (
      ← only-map (mapAtom f) (eqb k 11) (free (var x)),
      ← only-map (mapAtom f) (eqb k 12) (free (par x)),
      ← only-map (mapAtom f) (eqb k 13) (base x),
      ← only-map (mapAtom f) (eqb k 15) (free (quant x)),
    )

factor-named : (f : ℕ → Name) (v : FactorValue) → mapOption (mapFactor f) (factorIn v) ≡ and_then (atomNamed v.kind (f v.name) v.name) (λ a. some (a ↑ v.exp))
unfolding factorIn
factor-named f v =
    sym (then_map (mapAtom f) (mapFactor f) (atomIn v.kind v.name) (λ a. some (a ↑ v.exp)) (λ a. some (a ↑ v.exp)) (λ a. refl))
    ∙ ap (λ (o : Option (Atom Name)). and_then o (λ a. some (a ↑ v.exp))) (atom-named f v.kind v.name)

other-kind : (k j : ℕ) (b : Bool) → namesOne k 0 ≡ b → namesOne j 0 ≡ not b → eqb k j ≡ false
other-kind k j b h g = go (eqb k j) refl
  where
    unlike : (b : Bool) → b ≡ not b → ⊥
    unlike true e = cc
    unlike false e = cc

    go : (x : Bool) → eqb k j ≡ x → eqb k j ≡ false
    go false e = e
    go true e = absurd (unlike b (sym h ∙ ap (λ (i : ℕ). namesOne i 0) (eqb-true k j e) ∙ g))

-- at the kinds of names the index doesn't count, at the others the name doesn't
name-counts : (k : ℕ) (n : Name) (i j : ℕ) → namesOne k 0 ≡ true → atomNamed k n i ≡ atomNamed k n j
unfolding atomNamed namesOne any
name-counts k n i j h = rw (other-kind k 15 true h refl)

index-counts : (k : ℕ) (n m : Name) (i : ℕ) → namesOne k 0 ≡ false → atomNamed k n i ≡ atomNamed k m i
unfolding atomNamed namesOne any
index-counts k n m i h = rw (other-kind k 11 false h refl, other-kind k 12 false h refl, other-kind k 13 false h refl)

module _ (t t' : Table) (ns ns' : List ℕ) (e : map (nameNo t) ns ≡ map (nameNo t') ns') where
  factor-alike : (v : FactorValue) → ownFactor (length ns) v ≡ true
      → mapOption (mapFactor (nameNo t)) (factorIn (fillFactor ns v)) ≡ mapOption (mapFactor (nameNo t')) (factorIn (fillFactor ns' v))
  unfolding ownFactor fillFactor
  factor-alike v h = go (namesOne v.kind 0) refl
    where
      with-name : (f : ℕ → Name) (x : ℕ)
          → mapOption (mapFactor f) (factorIn (record { kind = v.kind; name = x; exp = v.exp }))
          ≡ and_then (atomNamed v.kind (f x) x) (λ a. some (a ↑ v.exp))
      with-name f x = factor-named f (record { kind = v.kind; name = x; exp = v.exp })

      go : (b : Bool) → namesOne v.kind 0 ≡ b
          → mapOption (mapFactor (nameNo t)) (factorIn (fillFactor ns v)) ≡ mapOption (mapFactor (nameNo t')) (factorIn (fillFactor ns' v))
      go true q = rw (fillFactor, q)
          (with-name (nameNo t) (get_or ns v.name 0)
          ∙ ap (λ (o : Option (Atom Name)). and_then o (λ a. some (a ↑ v.exp)))
          (name-counts v.kind (nameNo t (get_or ns v.name 0)) (get_or ns v.name 0) (get_or ns' v.name 0) q
          ∙ ap (λ (n : Name). atomNamed v.kind n (get_or ns' v.name 0))
          (at-alike (nameNo t) (nameNo t') ns ns' v.name e (ltb-true v.name (length ns) (rw (ownFactor, q) at h))))
          ∙ sym (with-name (nameNo t') (get_or ns' v.name 0)))
      go false q = rw (fillFactor, q)
          (factor-named (nameNo t) v ∙ ap (λ (o : Option (Atom Name)). and_then o (λ a. some (a ↑ v.exp)))
          (index-counts v.kind (nameNo t v.name) (nameNo t' v.name) v.name q) ∙ sym (factor-named (nameNo t') v))

  abbrev before : Factor Name → Option (Product Name) → Option (Product Name)
  before x o = and_then o (λ xs. some (x ∷ xs))

  step-named : (f : ℕ → Name) (v : FactorValue) (vs : List FactorValue)
      → mapOption (map (mapFactor f)) (factorsIn (v ∷ vs))
      ≡ and_then (mapOption (mapFactor f) (factorIn v)) (λ x. before x (mapOption (map (mapFactor f)) (factorsIn vs)))
  unfolding factorsIn
  step-named f v vs = sym (then_map (mapFactor f) (map (mapFactor f)) (factorIn v) (λ x. and_then (factorsIn vs) (λ xs. some (x ∷ xs)))
      (λ x. before x (mapOption (map (mapFactor f)) (factorsIn vs)))
      (λ x. then_map (map (mapFactor f)) (map (mapFactor f)) (factorsIn vs) (λ xs. some (x ∷ xs)) (λ xs. some (mapFactor f x ∷ xs)) (λ xs. refl)))

  factors-alike : (vs : List FactorValue) → all (ownFactor (length ns)) vs ≡ true
      → mapOption (map (mapFactor (nameNo t))) (factorsIn (map (fillFactor ns) vs))
      ≡ mapOption (map (mapFactor (nameNo t'))) (factorsIn (map (fillFactor ns') vs))
  unfolding factorsIn all
  factors-alike [] h = refl
  factors-alike (v ∷ vs) h =
      step-named (nameNo t) (fillFactor ns v) (map (fillFactor ns) vs)
      ∙ ap₂ (λ (o : Option (Factor Name)) (p : Option (Product Name)). and_then o (λ x. before x p))
      (factor-alike v (and_left (ownFactor (length ns) v) _ h)) (factors-alike vs (and_right (ownFactor (length ns) v) _ h))
      ∙ sym (step-named (nameNo t') (fillFactor ns' v) (map (fillFactor ns') vs))

  take-map : {A B : Type 0} (g : A → B) (n : ℕ) (xs : List A) → take n (map g xs) ≡ map g (take n xs)
  take-map g zero xs = refl
  take-map g (suc n) [] = refl
  take-map g (suc n) (x ∷ xs) = ap (λ l. g x ∷ l) (take-map g n xs)

  pub value-alike : (v : ProductValue) → ownValue (length ns) v ≡ true → ValuesAlike t t' (fillValue ns v) (fillValue ns' v)
  unfolding ownValue fillValue productIn
  value-alike v h = record { product = rw (take-map (fillFactor ns) v.len v.factors, take-map (fillFactor ns') v.len v.factors) (go (leb v.len 64)) }
    where
      go : (b : Bool) → mapOption (map (mapFactor (nameNo t))) (and_then (only_if b (map (fillFactor ns) (take v.len v.factors))) factorsIn)
          ≡ mapOption (map (mapFactor (nameNo t'))) (and_then (only_if b (map (fillFactor ns') (take v.len v.factors))) factorsIn)
      go true = factors-alike (take v.len v.factors) h
      go false = refl
