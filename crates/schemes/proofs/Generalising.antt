-- Generalising: a concrete type by its sorted names, another scheme as it stands.
use Rattle.rules.specs.declared.Refusal.{Refusal}
use Rattle.std.specs.Prelude.{Result, Ok, ◌≡◌, true, false, get_or, take, drop}
use Rattle.std.proofs.Math.Path.{refl, sym, ap, subst}
use Rattle.std.proofs.Common.{◌∙◌, zero-add, length-take-le}
use mathlib.Core.List.{List, [], ◌∷◌, ◌++◌, map, append_assoc}
use Prim.Native.Nat.{ℕ, suc, ◌+◌, ◌*◌, ◌/◌, ◌≤◌, ◌<◌}
use native.Mathlib.Omega.{arith}
use borrow.Author.Tests.{ltb-true}
use Rattle.std.proofs.Math.ListN.{length, length-append, length-map}
use Rattle.std.proofs.lemmas.List.Edits.{sets}
use Rattle.std.proofs.Math.Seq.{slice, take_at}
use Rattle.rules.specs.Base.{Got, got, refused, ◌>>=◌, ◌>>◌, bounded}
use Rattle.rules.specs.Calls.{
  over,
  shortLists,
  shortNumbers,
  tableKept,
  schemeGiven,
  boundsGiven,
  apart,
  opensScheme,
  generalised,
}
use Rattle.rules.specs.Contents.{sort, namesIn}
use Rattle.rules.specs.Names.{Table, table_of, numbersOf}
use Rattle.rules.specs.Reading.{readBound}
use Rattle.rules.specs.Schemes.{Scheme, concrete, scheme, generalise}
use Rattle.rules.specs.Trees as tree
use Rattle.rules.specs.Trees.{Ty, opens, size}
use Rattle.rules.specs.WellFormed as rules
use Rattle.rules.specs.Writing.{Rec, rec, head, words, word_of, writeTy, writeBound, writeScheme}
use Rattle.laws.proofs.KnownNames.{ty-known}
use Rattle.laws.specs.Lists.{All}
use Rattle.laws.proofs.Lists.{every-all}
use Rattle.laws.specs.NameTable.{Good}
use Rattle.laws.specs.Lists.{Every}
use Rattle.laws.proofs.Size.{size-ty}
use Rattle.laws.proofs.SortedNames.{sort-every}
use Rattle.records.specs.ByView.{open-back}
use Rattle.records.specs.Found.{Words32}
use Rattle.records.proofs.Given.{list-is}
use Rattle.records.specs.Good.{Chain, numbers, holding, goodOpen, GoodBound, GoodScheme}
use Rattle.records.proofs.Held.{written}
use Rattle.records.specs.Holds.{Holds, viewOpen}
use Rattle.records.specs.Places.{seen}
use Rattle.records.proofs.Places.{words-from}
use Rattle.records.specs.Schemes.{bound-reader}
use Rattle.records.proofs.Schemes.{scheme-is}
use Rattle.records.specs.Views.{from}
use Rattle.queries.proofs.GoodOpens.{names-held}
use Rattle.queries.specs.Marks.{Filled}
use Rattle.queries.proofs.ScanLaws.{type-opens}
use Rattle.queries.specs.Scans.{choose, opensIn}
use Rattle.queries.specs.declared.Kind.TheVariants.{Both}
use Rattle.records_buffers.proofs.Handed.{made-records}
use Rattle.records_buffers.specs.Told.{Made}
use Rattle.schemes_handed.proofs.OnBounds.{bound-rec}
use Rattle.schemes_quantify.specs.Ready.{quantifiedBy}
use Rattle.schemes.specs.Generalising.{Ready, generalisedFrom}
use Rattle.schemes.proofs.Generalised.{ordered, generalise-made}
use Rattle.schemes.proofs.Rows.{IsRow}
use Rattle.schemes.proofs.Schemes.{are-apart}

-- ══ A scheme's records are those it is written by ══

module _ (pool table s : List ℕ) where
  bounds-written : (q n at : ℕ) (bs : List (tree.Open ℕ)) → Chain (GoodBound pool table q s) n bs at → (from s at ≡ map writeBound bs ++ from s n)
      × (n ≡ at + length bs)
  bounds-written q n at [] c = (ap (from s) c, omega arith)
  bounds-written q n at (o ∷ bs) (e, (g, c)) =
      let (a, b) = bounds-written q n e bs c in
      let p = g.past in
      let r : from s at ≡ writeBound o ∷ from s (at + 1) = seen s at g.held.0 g.held.1 tt
      ∙ ap (λ (x : Rec). x ∷ from s (at + 1)) (bound-rec (viewOpen o) ∙ ap writeBound (open-back o)) in
      (r ∙ ap (λ (k : ℕ). writeBound o ∷ from s k) (sym p) ∙ ap (writeBound o ∷◌) a, omega arith)

  -- the words of all records, and how many these are
  pub scheme-words : (n : ℕ) (t : Ty ℕ) (bs : List (tree.Open ℕ)) → GoodScheme pool table s (scheme n t bs)
      → (length s / 4 ≡ length (writeScheme (scheme n t bs))) × (slice 0 (length s / 4 * 4) s ≡ words (writeScheme (scheme n t bs)))
  unfolding writeScheme
  scheme-words n t bs (v, (e, (g, c)), m) =
      let (a, b) = bounds-written n (length s / 4) e bs c in
      let p = g.past in
      let rs : List Rec = writeTy t ++ map writeBound bs in
      let h : from s 1 ≡ rs ++ from s (length s / 4) = written s t 1 g.held ∙ ap (λ (k : ℕ). writeTy t ++ from s k) (sym p) ∙ ap (writeTy t ++◌) a
      ∙ sym (append_assoc (writeTy t) (map writeBound bs) (from s (length s / 4))) in
      let j : length s / 4 ≡ suc (size t + length bs) = omega arith in
      let f : Rec = rec (head 26 (suc (size t + length bs))) n 0 0 in
      let z : from s 0 ≡ (f ∷ rs) ++ from s (length s / 4) = seen s 0 v (m ∙ j) tt ∙ ap (f ∷◌) h in
      let l : length s / 4 ≡ length (f ∷ rs) = omega (arith, length-append (writeTy t) (map writeBound bs), size-ty t, length-map bs writeBound) in
      (l, ap (λ (k : ℕ). slice 0 (k * 4) s) (l ∙ sym (zero-add (length (f ∷ rs)))) ∙ words-from s (f ∷ rs) (from s (length s / 4)) 0 (omega arith) z)

-- ══ Bounds that were given hold no index ══

module _ (pool table : List ℕ) where
  open-named : (o : tree.Open ℕ) → goodOpen pool table 0 o ≡ true → (j : ℕ) → o ≡ tree.quant j → ⊥
  unfolding rules.goodOpen
  open-named o g j e = let z = ltb-true j 0 (sym (ap (goodOpen pool table 0) e) ∙ g) in omega arith

  chain-named : (s : List ℕ) (n at : ℕ) (bs : List (tree.Open ℕ)) → Chain (GoodBound pool table 0 s) n bs at → Every (λ o. (j : ℕ) → o ≡ tree.quant j → ⊥) bs
  chain-named s n at [] c = tt
  chain-named s n at (o ∷ bs) (e, (g, c)) = (open-named o g.good, chain-named s n e bs c)

  pub bounds-named : (bounds : List ℕ) (bs : List (tree.Open ℕ)) → boundsGiven (table_of pool table) bounds ≡ got bs
      → All (λ o. (j : ℕ) → o ≡ tree.quant j → ⊥) bs
  unfolding boundsGiven
  bounds-named bounds bs e =
      every-all (λ o. (j : ℕ) → o ≡ tree.quant j → ⊥) bs
      (chain-named bounds (length bounds / 4) 0 bs
      (list-is bounds readBound (goodOpen pool table 0) (GoodBound pool table 0 bounds) (bound-reader bounds pool table 0) bs e))

-- ══ The checks, one after another ══

then-nothing : (x : Got (Unit {0})) → x ≡ (x >> got (tt {0}))
then-nothing (got u) = refl
then-nothing (refused n) = refl

pub generalise-row : (t : Table) (s bounds : List ℕ)
    → IsRow (λ x. apart t (opensScheme x)) (λ x bs. generalise (numbersOf t) bounded (map word_of bs) x >>= λ r. got (writeScheme r)) s bounds []
    (tableKept t) (schemeGiven t s) (boundsGiven t bounds) (got (tt {0})) (generalised t s bounds)
unfolding generalised shortNumbers
generalise-row t s bounds = record {
  is = ap (λ (x : Got (Unit {0})). x >> (tableKept t >> (schemeGiven t s >>= λ x. boundsGiven t bounds >>= λ bs. got (tt {0}) >> (apart t (opensScheme x)
      >> (generalise (numbersOf t) bounded (map word_of bs) x >>= λ r. got (writeScheme r)))))) (then-nothing (shortLists (s ∷ bounds ∷ [])));
}

module _ (pool table s : List ℕ) where
  -- another scheme is unchanged
  same-scheme : (n : ℕ) (t : Ty ℕ) (os bs : List (tree.Open ℕ)) → GoodScheme pool table s (scheme n t os) → length s ≤ 8192
      → (work w : List ℕ) → 16384 ≤ length work → w ≡ sets work 0 (slice 0 (length s / 4 * 4) s)
      → Made (generalisedFrom pool table (scheme n t os) bs) w (Ok (length s / 4))
  unfolding generalise
  same-scheme n t os bs g h work w room e =
      let (l, z) = scheme-words pool table s n t os g in
      made-records (generalisedFrom pool table (scheme n t os) bs) (writeScheme (scheme n t os)) work w (length s / 4) refl room
      (e ∙ ap (sets work 0) z) l (omega (arith, h))

  pub the-scheme : (sc : Scheme ℕ) (bs : List (tree.Open ℕ)) {n : ℕ} {t : Ty ℕ} {os : List (tree.Open ℕ)} → sc ≡ scheme n t os
      → schemeGiven (table_of pool table) s ≡ got sc → Words32 s → length s ≤ 8192 → (work w : List ℕ) → 16384 ≤ length work
      → w ≡ sets work 0 (slice 0 (length s / 4 * 4) s) → Made (generalisedFrom pool table sc bs) w (Ok (length s / 4))
  the-scheme sc bs {n} {t} {os} i g words h work w room e =
      let m = same-scheme n t os bs (subst (GoodScheme pool table s) i (scheme-is pool table s words sc g)) h work w room e in
      subst (λ (x : Scheme ℕ). Made (generalisedFrom pool table x bs) w (Ok (length s / 4))) (sym i) m

-- ══ A concrete type ══

-- what was given passed its tests
module _ (pool table s bounds : List ℕ) (w : Words32 s) (sc : Scheme ℕ) (e : schemeGiven (table_of pool table) s ≡ got sc) {t : Ty ℕ}
    (is : sc ≡ concrete t) where
  concrete-good : GoodScheme pool table s (concrete t)
  concrete-good = subst (GoodScheme pool table s) is (scheme-is pool table s w sc e)

  pub type-ready : (bs : List (tree.Open ℕ)) → boundsGiven (table_of pool table) bounds ≡ got bs
      → apart (table_of pool table) (opensScheme sc) ≡ got tt → Ready pool table t bs
  unfolding opensScheme
  type-ready bs b u =
      let g = concrete-good.1 in
      let k : apart (table_of pool table) (opensScheme (concrete t)) ≡ got tt = rw is at u in
      record { good = g.good; flat = g.deep; unmix = are-apart (table_of pool table) (opens t) k; named = bounds-named pool table bounds bs b }

module _ (pool table : List ℕ) (good : Good pool table) (t : Ty ℕ) (bs : List (tree.Open ℕ)) (y : Ready pool table t bs) (s : List ℕ) (at : ℕ)
    (h : Holds s t at) (end : ℕ) (e : end ≡ at + size t) where
  abbrev named : List ℕ
  named = ordered pool table good t bs y

  opened : opensIn s at end ≡ opens t
  opened = rw e (type-opens s t at h)

  type-held : Every (λ x. x < get_or table 0 0) (namesIn (opens t))
  type-held = names-held pool table 0 (opens t) (ty-known (numbers pool table) (holding pool table) 0 t y.good) Both

  -- what `list_names` asks
  pub names-known : Every (λ x. x < get_or table 0 0) (choose Both (opensIn s at end))
  names-known = rw opened type-held

  -- the sorted names stand at the front of a buffer of 256
  module _ {b b' : List ℕ} {k : ℕ} (f : Filled (sort (numbers pool table) (choose Both (opensIn s at end))) k b b') (l : length b' ≡ 256) where
    listed : Filled named k b b'
    listed = subst (λ (os : List (tree.Open ℕ)). Filled (sort (numbers pool table) (choose Both os)) k b b') opened f

    pub listed-few : k ≤ length b'
    unfolding over
    listed-few = omega (arith, listed.many, ap length listed.buffer ∙ length-append named (drop (length named) b))

    listed-front : take k b' ≡ named
    unfolding over
    listed-front = ap (take k) listed.buffer ∙ take_at named (drop (length named) b) k (sym listed.many)

    pub sorted-few : length (take k b') ≤ 2048
    sorted-few = omega (arith, length-take-le k b' listed-few, listed-few, l)

    pub sorted-held : All (λ x. x < get_or table 0 0) (take k b')
    sorted-held = rw listed-front
        (every-all (λ x. x < get_or table 0 0) named (sort-every (numbers pool table) (λ x. x < get_or table 0 0) (namesIn (opens t)) type-held))

    pub type-made : {w : List ℕ} {r : Result ℕ Refusal} → Made (quantifiedBy pool table (take k b') false t bs) w r
        → Made (generalisedFrom pool table (concrete t) bs) w r
    type-made {w} {r} m =
        let few : length named ≤ 2048 = omega (arith, ap length listed-front, sorted-few) in
        subst (λ (x : Got (List Rec)). Made x w r)
        (ap (λ (ns : List ℕ). quantifiedBy pool table ns false t bs) listed-front ∙ generalise-made pool table good t bs y few) m
