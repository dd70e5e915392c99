-- Instantiating is two replacings, and never 8: quantified variables put back, then each held variable renamed by itself.
use Rattle.std.proofs.Math.Path.{◌≡◌, refl, sym}
use Rattle.std.proofs.Common.{ap, ◌∙◌, arith, ltb-true}
use Rattle.std.specs.Prelude.{Bool, List, [], ◌∷◌, ℕ, zero, suc, ◌+◌, ◌≤◌, ◌<◌}
use Rattle.std.proofs.Math.Bool.{true}
use Rattle.std.proofs.Math.Option.{Option, none, some}
use Rattle.std.proofs.Math.ListN.{length, get_elem?}
use Rattle.rules.specs.Base.{Got, got, refused, ◌>>=◌, bounded, and_then}
use Rattle.rules.specs.Trees.{Open, var, quant, par, Names, Ty, opened, orderAtom, opens, size, depth}
use Rattle.rules.specs.Plain.{plain}
use Rattle.rules.specs.Replacing.{replaceTy}
use Rattle.rules.specs.Schemes.{renamed, renamedBounds, back, put_back, schemeLimited}
use Rattle.rules.specs.WellFormed.{goodOpen, goodTy}
use Rattle.laws.specs.Order.{Lawful, Tells}
use Rattle.laws.specs.Lists.{All, all_nil, all_cons, all-every}
use Rattle.laws.proofs.Lists.{every-all, some≢none}
use Rattle.laws.proofs.Sized.{sized-kept}
use Rattle.laws.specs.GoodProducts.{goodAtom}
use Rattle.laws.proofs.KeepsGood.{GoodTy, ty_kept}
use Rattle.laws.proofs.KnownNames.{ty-known}
use Rattle.laws.proofs.Untouched.{ty_same}
use Rattle.laws.proofs.Weaker.{ty-weaker}
use Rattle.schemes_renaming.proofs.Products.{Renames}
use Rattle.schemes_renaming.proofs.Occurring.{ty-occurs}
use Rattle.schemes_renaming.specs.Places.{own}
use Rattle.schemes_renaming.proofs.Own.{Named, plain-once}
use Rattle.schemes_renaming.proofs.Sizes.{renamed-deep, plain_size}
use Rattle.schemes_renaming.proofs.Again.{there-in, back_is}
use Rattle.schemes_renaming.proofs.Shorter.{ty-short, back-away}

module _ {N : Type 0} (ν : Names N) (law : Lawful (orderAtom ν)) (held : N → Bool) (q : ℕ) (tells : Tells (λ a. goodAtom ν held q a ≡ true) (orderAtom ν))
    (vs : List N) (known : All (λ v. held v ≡ true) vs) (le : length vs ≤ q) where
  -- there is a name for each index below the count
  found : (xs : List N) (i : ℕ) → i < length xs → (x : N) × (get_elem? xs i ≡ some x)
  found [] i h = absurd (omega arith)
  found (x ∷ xs) zero h = (x, refl)
  found (x ∷ xs) (suc i) h = found xs i (omega arith)

  -- well formed with the count, and well formed without quantified variables
  abbrev P : Open N → Type 0
  P o = goodOpen ν held (length vs) o ≡ true

  abbrev Q : Open N → Type 0
  Q o = (goodOpen ν held q o ≡ true) × ((j : ℕ) → o ≡ quant j → ⊥)

  put : (o : Open N) (t : Ty N) → renamed (back vs) o ≡ some t → (x : N) × ((t ≡ opened (var x)) × (held x ≡ true))
  put o t e = go (back vs o) refl e
    where
      go : (s : Option (Open N)) → back vs o ≡ s → and_then s (λ u. some (opened u)) ≡ some t → (x : N) × ((t ≡ opened (var x)) × (held x ≡ true))
      go none i k = absurd (some≢none (sym k))
      go (some u) i k =
          let (j, (x, (a, (b, c)))) = back_is vs o u i in
          let z : opened u ≡ t = cc in
          (x, (sym z ∙ ap opened b, known x (there-in vs j x c)))

  good-put : (o : Open N) (t : Ty N) → renamed (back vs) o ≡ some t → GoodTy ν law held q t
  unfolding goodTy goodOpen
  good-put o t e = let (x, (i, h)) = put o t e in rw i h

  no-quant : {x : N} (j : ℕ) → var x ≡ quant j → ⊥
  no-quant j e = cc

  stays : (o : Open N) → P o → renamed (back vs) o ≡ none → Q o
  unfolding goodOpen back
  stays (var x) p e = (p, λ j i. cc)
  stays (par x) p e = (p, λ j i. cc)
  stays (quant i) p e = absurd (let (x, k) = found vs i (ltb-true i (length vs) p) in some≢none (rw k at e))

  goes : (o : Open N) (t : Ty N) → P o → renamed (back vs) o ≡ some t → All Q (opens t)
  unfolding goodOpen opens
  goes o t p e = let (x, (i, h)) = put o t e in rw i (all_cons Q (h, λ j k. no-quant j k) (all_nil Q))

  named : Named ν law held q tells Q
  named = record { known = λ o p. p.0; none-quantified = λ j p. p.1 j refl }

  none-renamed : Renames ν held q Q (λ o. none)
  none-renamed = record {
    dimension = λ o u p e. absurd (some≢none (sym e));
    good = λ o u p e. absurd (some≢none (sym e));
    new = λ o u p e. absurd (some≢none (sym e));
    apart = λ o w u p k e d. absurd (some≢none (sym e));
  }

  module _ (t : Ty N) (bs : List (Open N)) (good : goodTy ν held (length vs) t ≡ true) (short : size t + length bs ≤ 2048) (flat : depth t ≤ 64) where
    -- what comes of the type
    pub record Back (u : Ty N) : Type 0 where
      pub well : goodTy ν held q u ≡ true
      pub reads : replaceTy ν bounded (renamed (own held)) u ≡ got (plain u true)
      pub fits : size (plain u true) + length bs ≤ 2048
      pub first_fits : size u ≤ size t
      pub shallow : depth (plain u true) ≤ 64

    pub put-back : (u : Ty N) → replaceTy ν bounded (renamed (back vs)) t ≡ got u → Back u
    put-back u e =
        let g : goodTy ν held q t ≡ true = ty-weaker ν held (length vs) q le t good in
        let w : goodTy ν held q u ≡ true = (ty_kept ν law held q (renamed (back vs)) good-put t g).holds u e in
        let names = ty-occurs ν law held q tells (renamed (back vs)) good-put P Q stays goes t u g e
        (every-all P (opens t) (ty-known ν held (length vs) t good)) in
        let r = plain-once ν law held q tells Q named u w names in
        let a = ty-short ν law (back vs) (back-away ν law vs) held q t u g e in
        let b = plain_size ν law held q tells Q (λ o. none) none-renamed u u w names
        (ty_same ν bounded (renamed (λ o. none)) u (all-every (λ o. renamed (λ o. none) o ≡ none) (opens u) (λ o m. refl))) in
        let c = renamed-deep ν bounded (back vs) t u e in
        let d = renamed-deep ν bounded (own held) u (plain u true) r in
        record { well = w; reads = r; fits = omega arith; first_fits = a; shallow = omega arith }

    -- the second replacing, and the bounds
    abbrev pub readBack : Got (Ty N) → Got (Ty N × List (Open N))
    readBack R = R >>= λ u. replaceTy ν bounded (renamed (own held)) u >>= λ w. got (w, renamedBounds (back vs) bs)

    abbrev limits : Got (Ty N) → Got (Ty N × List (Open N))
    limits R = R >>= λ u. schemeLimited bounded 0 (plain u true) bs (plain u true, renamedBounds (back vs) bs)

    -- instantiating: put back, then read, and the bounds
    pub put-back-twice : put_back ν bounded vs t bs ≡ readBack (replaceTy ν bounded (renamed (back vs)) t)
    unfolding put_back schemeLimited
    put-back-twice = go (replaceTy ν bounded (renamed (back vs)) t) refl
      where
        go : (R : Got (Ty N)) → replaceTy ν bounded (renamed (back vs)) t ≡ R → limits R ≡ readBack R
        go (refused n) e = refl
        go (got u) e =
            let b = put-back u e in
            let f = b.fits in
            sized-kept (0 + (size (plain u true) + length bs)) (depth (plain u true)) (plain u true, renamedBounds (back vs) bs) (omega arith)
            b.shallow ∙ sym (rw b.reads)
