-- The bounds that the judge is handed are the names of a certificate's lines.
use Rattle.std.specs.Prelude.{◌≡◌, refl, List, [], ◌∷◌, map, ℕ, length}
use Rattle.std.proofs.Common.{sym, ap, ◌∙◌, arith}
use Rattle.std.proofs.Math.Option.{some}
use Rattle.rules.specs.Base.{got, ◌>>=◌, ◌>>◌, need, all, collect}
use Rattle.rules.specs.Calls.{listGiven, boundsGiven, risingBounds}
use Rattle.rules.specs.Names.{Table, numbersOf, is_held}
use Rattle.rules.specs.Reading.{readBound, read_all}
use Rattle.rules.specs.Trees.{Open, var}
use Rattle.rules.specs.WellFormed.{goodOpen, rising}
use Rattle.rules.specs.Writing.{Rec, words, writeBound, word_of}
use Rattle.laws.proofs.Checks.{next-passed}
use Rattle.laws.specs.Lists.{Every}
use Rattle.laws.proofs.Lists.{bound-step}
use Rattle.laws.specs.ReadLists.{IsBound}
use Rattle.laws.proofs.ReadLists.{read-bound, read-all, words_back}

abbrev opens : List ℕ → List (Open ℕ)
opens xs = map (λ n. var n) xs

abbrev recs : List ℕ → List Rec
recs xs = map (λ n. writeBound (var n)) xs

each-written : (xs : List ℕ) → collect (λ o. writeBound o ∷ []) (opens xs) ≡ recs xs
unfolding collect
each-written [] = refl
each-written (x ∷ xs) = ap (writeBound (var x) ∷◌) (each-written xs)

are-bounds : (xs : List ℕ) → Every IsBound (opens xs)
are-bounds [] = tt
are-bounds (x ∷ xs) = (tt, are-bounds xs)

names-back : (xs : List ℕ) → map word_of (opens xs) ≡ xs
names-back [] = refl
names-back (x ∷ xs) = ap (x ∷◌) (names-back xs)

read-back : (xs : List ℕ) → read_all readBound (length (recs xs)) (recs xs) ≡ some (opens xs)
read-back xs =
    rw (each-written xs) at
    (read-all readBound (λ o. writeBound o ∷ []) IsBound (λ o. omega arith) (λ o rest h. read-bound o rest h) (opens xs) (length (recs xs))
    (omega (arith, ap length (each-written xs))) (are-bounds xs))

-- whatever names the judge reads there, they are those
pub names-are : (t : Table) (xs ns : List ℕ) → risingBounds t (words (recs xs)) ≡ got ns → ns ≡ xs
unfolding risingBounds boundsGiven listGiven
names-are t xs ns e =
    let f : ((need (all (goodOpen (numbersOf t) (is_held t) 0) (opens xs)) 1 >> got (opens xs))
    >>= λ os. need (rising (numbersOf t).order (map word_of os)) 1 >> got (map word_of os)) ≡ got ns = rw (words_back (recs xs), read-back xs) at e in
    let p = bound-step (need (all (goodOpen (numbersOf t) (is_held t) 0) (opens xs)) 1 >> got (opens xs)) _ ns f in
    let g : got (opens xs) ≡ got p.0 = next-passed _ p.0 _ p.1 in
    let h : got (map word_of p.0) ≡ got ns = next-passed _ ns _ p.2 in
    let os : opens xs ≡ p.0 = cc in
    let is : map word_of p.0 ≡ ns = cc in
    sym is ∙ ap (map word_of) (sym os) ∙ names-back xs
