-- Instantiating what quantifying gave, with the same names, gives the type back, with single variables read as variables.
use Rattle.std.proofs.Math.Path.{◌≡◌, refl, sym, ap}
use Rattle.std.proofs.Common.{◌∙◌}
use Rattle.std.specs.Prelude.{Bool, ◌⊎◌}
use Rattle.std.proofs.Math.Bool.{true, false}
use Rattle.std.proofs.Math.Option.{Option, none, some}
use Rattle.std.proofs.Math.Logic.{inl, inr}
use mathlib.Core.List.{List, [], ◌∷◌, Memᴰ}
use Prim.Native.Nat.{ℕ, zero, suc, ◌+◌, ◌≤◌}
use native.Mathlib.Omega.{arith}
use Rattle.std.proofs.Math.Decide.{dec_le}
use borrow.Author.Tests.{eq-eqb}
use Rattle.std.proofs.Math.ListN.{length, get_elem?}
use Rattle.rules.specs.Base.{got, bounded, is_yes, and_then, sized}
use Rattle.rules.specs.Trees.{Open, var, quant, par, Names, Ty, opened, orderAtom, opens, size, depth}
use Rattle.rules.specs.Contents.{unmixed}
use Rattle.rules.specs.Products.{just}
use Rattle.rules.specs.Plain.{plain}
use Rattle.rules.specs.Replacing.{asProduct, replaceTy}
use Rattle.rules.specs.Schemes.{Scheme, scheme, renamed, renamedBounds, back, quantify, put_back, instantiate, schemeLimited}
use Rattle.rules.specs.WellFormed.{goodOpen, goodTy}
use Rattle.laws.specs.Order.{Lawful, Tells}
use Rattle.laws.specs.Lists.{All, all_nil, all_cons, in_head}
use Rattle.laws.proofs.Lists.{some≢none, got≢refused, is-yes}
use Rattle.laws.proofs.Sized.{sized-kept, sized-deep, sized_same, sized-small}
use Rattle.laws.specs.GoodProducts.{goodAtom}
use Rattle.laws.proofs.KeepsGood.{GoodTy, ty_kept}
use Rattle.laws.proofs.Weaker.{ty-weaker}
use Rattle.schemes_renaming.proofs.Products.{moved, moved_none, moved-some, Renames}
use Rattle.schemes_renaming.proofs.Types.{andLater, Becomes, Twice, ty-twice}
use Rattle.schemes_renaming.proofs.Occurring.{ty-occurs}
use Rattle.schemes_renaming.specs.Places.{first_equal, all_of, own}
use Rattle.schemes_renaming.specs.Theorems.{Apart}
use Rattle.schemes_renaming.proofs.InTurn.{At, first-at, all-at, Fair, all-renames, given-fair, quantify-once}
use Rattle.schemes_renaming.proofs.Own.{own_held, own_same, Named, own-renames, plain-once}
use Rattle.schemes_renaming.proofs.Sizes.{renamed-deep, plain_size}

module _ {N : Type 0} where
  pub there-in : (vs : List N) (i : ℕ) (x : N) → get_elem? vs i ≡ some x → Memᴰ x vs
  there-in [] i x e = absurd (some≢none (sym e))
  there-in (v ∷ vs) zero x e = let z : v ≡ x = cc in rw z in_head
  there-in (v ∷ vs) (suc i) x e = Memᴰ.tail (there-in vs i x e)

  -- what comes back is a variable that was handed
  pub back_is : (vs : List N) (o u : Open N) → back vs o ≡ some u → (i : ℕ) × ((x : N) × ((o ≡ quant i) × ((u ≡ var x) × (get_elem? vs i ≡ some x))))
  unfolding back
  back_is vs (var x) u e = absurd (some≢none (sym e))
  back_is vs (par x) u e = absurd (some≢none (sym e))
  back_is vs (quant i) u e = go (get_elem? vs i) refl e
    where
      go : (t : Option N) → get_elem? vs i ≡ t → and_then t (λ x. some (var x)) ≡ some u → (j : ℕ)
          × ((x : N) × ((◌≡◌ {A = Open N} (quant i) (quant j)) × ((u ≡ var x) × (get_elem? vs j ≡ some x))))
      go none j k = absurd (some≢none (sym k))
      go (some x) j k = (i, (x, (refl, (cc, j))))

  back_at : (vs : List N) (i : ℕ) (x : N) → get_elem? vs i ≡ some x → moved (back vs) (quant i) ≡ var x
  unfolding back
  back_at vs i x e = rw e

module _ {N : Type 0} (ν : Names N) (law : Lawful (orderAtom ν)) (held : N → Bool) (q : ℕ) (tells : Tells (λ a. goodAtom ν held q a ≡ true) (orderAtom ν))
    (vs : List N) (t : Ty N) (le : length vs ≤ q) (good : goodTy ν held 0 t ≡ true) (unmix : unmixed ν (opens t) ≡ true) (a : Apart held vs t) where
  abbrev P : Open N → Type 0
  P o = Memᴰ o (opens t)

  abbrev f : Open N → Option (Open N)
  f = all_of ν 0 vs

  -- quantified and put back
  unfoldable h : Open N → Option (Open N)
  h o = andLater (f o) (back vs) o

  fair : Fair ν held q 0 P
  fair = given-fair ν law held q tells t good unmix

  found : (k i : ℕ) (ws : List N) (x : N) → get_elem? ws i ≡ some x → first_equal ν k ws x ≡ none → ⊥
  unfolding first_equal
  found k i [] x e j = some≢none (sym e)
  found k i (w ∷ ws) x e j = go (is_yes (ν.same w x)) refl i e (λ n. found (suc k) n ws x)
    where
      go : (b : Bool) → is_yes (ν.same w x) ≡ b → (n : ℕ) → get_elem? (w ∷ ws) n ≡ some x
          → ((n : ℕ) → get_elem? ws n ≡ some x → first_equal ν (suc k) ws x ≡ none → ⊥) → ⊥
      go true l n m r = some≢none (rw (l, first_equal) at j)
      go false l zero m r = let z : w ≡ x = cc in let y : true ≡ false = sym (is-yes (ν.same w x) z) ∙ l in cc
      go false l (suc n) m r = r n m (rw (l, first_equal) at j)

  -- a variable that was handed is none of the names afterwards
  none_left : (i : ℕ) (x : N) → get_elem? vs i ≡ some x → (w : Open N) → Becomes P f w → w ≡ var x → ⊥
  unfolding all_of
  none_left i x e w (o, (p, j)) k = go (f o) refl
    where
      go : (s : Option (Open N)) → f o ≡ s → ⊥
      go none l = let z : o ≡ var x = sym (moved_none f o l) ∙ sym j ∙ k in found 0 i vs x e (sym (ap f z) ∙ l)
      go (some u) l =
          let (y, (m, n)) = all-at ν 0 vs o u l in
          let z : quant (0 + n.place) ≡ var x = sym n.is ∙ sym (moved-some f o u l) ∙ sym j ∙ k in
          cc

  -- a quantified variable that occurs is the place where its name was handed first
  first-place : (i : ℕ) (x : N) → Becomes P f (quant i) → get_elem? vs i ≡ some x → first_equal ν 0 vs x ≡ some (quant i)
  unfolding all_of
  first-place i x (o, (p, j)) e = go o p j (f o) refl
    where
      placed : (y : N) (u : Open N) → first_equal ν 0 vs y ≡ some u → quant i ≡ u → first_equal ν 0 vs x ≡ some (quant i)
      placed y u l m =
          let b = first-at ν 0 vs y u l in
          let n : quant i ≡ quant (0 + b.place) = m ∙ b.is in
          let c : i ≡ b.place = let d : i ≡ 0 + b.place = cc in omega arith in
          let d : some y ≡ some x = sym b.there ∙ ap (get_elem? vs) (sym c) ∙ e in
          let g : y ≡ x = cc in
          ap (first_equal ν 0 vs) (sym g) ∙ l ∙ ap some (sym m)

      go : (o : Open N) → P o → quant i ≡ moved f o → (s : Option (Open N)) → f o ≡ s → first_equal ν 0 vs x ≡ some (quant i)
      go o p j none l = absurd (let z : quant i ≡ o = j ∙ moved_none f o l in let y = fair.below i (rw (sym z) at p) in omega arith)
      go (var y) p j (some u) l = placed y u l (j ∙ moved-some f (var y) u l)
      go (quant k) p j (some u) l = absurd (some≢none (sym l))
      go (par y) p j (some u) l = placed y u l (j ∙ moved-some f (par y) u l)

  back-renames : Renames ν held q (Becomes P f) (back vs)
  unfolding asProduct goodOpen
  back-renames = record {
    dimension = λ o u p e. let (i, (x, (j, (k, l)))) = back_is vs o u e in rw k;
    good = λ o u p e. let (i, (x, (j, (k, l)))) = back_is vs o u e in rw k (a.names-held x (there-in vs i x l));
    new = λ o u p e. let (i, (x, (j, (k, l)))) = back_is vs o u e in inr (λ w b c. none_left i x l w b (c ∙ k));
    apart = λ o w u p b e c. let (i, (x, (j, (k, l)))) = back_is vs o u e in let (i', (x', (j', (k', l')))) = back_is vs w u c
        in same o w u i i' x x' p b j j' k k' l l';
  }
    where
      same : (o w u : Open N) (i j : ℕ) (x y : N) → Becomes P f o → Becomes P f w → o ≡ quant i → w ≡ quant j → u ≡ var x → u ≡ var y
          → get_elem? vs i ≡ some x → get_elem? vs j ≡ some y → o ≡ w
      same o w u i j x y p r b c d e k l =
          let z : x ≡ y = let n : var x ≡ var y = sym d ∙ e in cc in
          let m : some (quant i) ≡ some (quant j) = sym (first-place i x (rw b at p) k) ∙ ap (first_equal ν 0 vs) z ∙ first-place j y (rw c at r) l in
          let n : ◌≡◌ {A = Open N} (quant i) (quant j) = cc in
          b ∙ n ∙ sym c

  -- only variables come back, each as itself
  again-is : (o u : Open N) → P o → h o ≡ some u → (x : N) × ((o ≡ var x) × (u ≡ o))
  unfolding h all_of andLater back
  again-is (quant j) u p e = absurd (let z = fair.below j p in omega arith)
  again-is (par x) u p e = go (f (par x)) refl e
    where
      go : (s : Option (Open N)) → f (par x) ≡ s → andLater s (back vs) (par x) ≡ some u → (y : N) × ((par x ≡ var y) × (u ≡ par x))
      go none i k = absurd (some≢none (sym k))
      go (some w) i k = let (y, (m, n)) = all-at ν 0 vs (par x) w i in absurd (not-handed y m n)
        where
          not-handed : (y : N) → (par x ≡ var y) ⊎ (par x ≡ par y) → At ν 0 vs y w → ⊥
          not-handed y (inl m) n = cc
          not-handed y (inr m) n = a.no-parameter y (there-in vs n.place y n.there) (rw m at p)
  again-is (var x) u p e = go (f (var x)) refl e
    where
      go : (s : Option (Open N)) → f (var x) ≡ s → andLater s (back vs) (var x) ≡ some u → (y : N) × ((var x ≡ var y) × (u ≡ var x))
      go none i k = absurd (some≢none (sym k))
      go (some w) i k = let (y, (m, n)) = all-at ν 0 vs (var x) w i in (x, (refl, itself y m n))
        where
          itself : (y : N) → (var x ≡ var y) ⊎ (var x ≡ par y) → At ν 0 vs y w → u ≡ var x
          itself y (inr m) n = absurd (cc)
          itself y (inl m) n =
              let z : some (moved (back vs) w) ≡ some u = k in
              let b : moved (back vs) w ≡ u = cc in
              let d : w ≡ quant n.place = n.is ∙ ap quant (omega arith) in
              sym b ∙ ap (moved (back vs)) d ∙ back_at vs n.place y n.there ∙ sym m

  again-renames : Renames ν held q P h
  unfolding asProduct
  again-renames = record {
    dimension = λ o u p e. let (x, (i, j)) = again-is o u p e in rw (j, i);
    good = λ o u p e. let (x, (i, j)) = again-is o u p e in rw j (fair.known o p);
    new = λ o u p e. let (x, (i, j)) = again-is o u p e in inl j;
    apart = λ o w u p k e c. let (x, (i, j)) = again-is o u p e in let (y, (l, m)) = again-is w u k c in sym j ∙ m;
  }

  there_and_back : Twice ν law held q tells P f (back vs) h
  unfolding h asProduct
  there_and_back = record {
    first = all-renames ν held q 0 vs P (omega arith) fair;
    second = back-renames;
    whole = again-renames;
    same = λ o p. refl;
    still = λ o u p e. let (x, (j, n)) = all-at ν 0 vs o u e in handed o u x p j n;
  }
    where
      handed : (o u : Open N) (x : N) → P o → (o ≡ var x) ⊎ (o ≡ par x) → At ν 0 vs x u → (asProduct (opened o) ≡ got (just o)) ⊎ (back vs u ≡ none)
      handed o u x p (inl j) n = inl (rw j)
      handed o u x p (inr j) n = absurd (a.no-parameter x (there-in vs n.place x n.there) (rw j at p))

  named : Named ν law held q tells P
  named = record { known = fair.known; none-quantified = λ j p. let z = fair.below j p in omega arith }

  -- the names stay what they are
  as_before : (w : Open N) → Becomes P h w → P w
  as_before w (o, (p, e)) = rw (e ∙ go (h o) refl) p
    where
      go : (s : Option (Open N)) → h o ≡ s → moved h o ≡ o
      go none i = moved_none h o i
      go (some u) i = let (x, (j, k)) = again-is o u p i in moved-some h o u i ∙ k

  then-own : Twice ν law held q tells P h (own held) (own held)
  unfolding andLater asProduct goodOpen
  then-own = record {
    first = again-renames;
    second = own-renames ν law held q tells (Becomes P h)
        (record { known = λ o p. named.known o (as_before o p); none-quantified = λ j p. named.none-quantified j (as_before (quant j) p) });
    whole = own-renames ν law held q tells P named;
    same = λ o p. one' o p (h o) refl;
    still = λ o u p e. let (x, (i, j)) = again-is o u p e in inl (rw i);
  }
    where
      one' : (o : Open N) → P o → (s : Option (Open N)) → h o ≡ s → own held o ≡ andLater s (own held) o
      one' o p none i = refl
      one' o p (some u) i =
          let (x, (j, k)) = again-is o u p i in
          let l : own held o ≡ some o = rw j (own_held held x (rw j at (named.known o p))) in
          l ∙ ap some (sym (ap (moved (own held)) k ∙ own_same held o))

  -- the type quantified, and put back
  pub record Returned : Type 0 where
    pub type : Ty N
    pub quantified : replaceTy ν bounded (renamed f) t ≡ got type
    pub given : Ty N
    pub returned : replaceTy ν bounded (renamed (back vs)) type ≡ got given
    pub reads : plain given true ≡ plain t true

  pub again : Returned
  unfolding h andLater goodTy goodOpen opens
  again =
      let g = ty-weaker ν held 0 q (omega arith) t good in
      let (u, (b, c)) = ty-twice ν law held q tells P f (back vs) h there_and_back t g (λ o m. m) in
      let (w, (d, e)) = ty-twice ν law held q tells P h (own held) (own held) then-own t g (λ o m. m) in
      let i : replaceTy ν bounded (renamed (own held)) t ≡ got (plain t true) = plain-once ν law held q tells P named t g (λ o m. m) in
      let j : replaceTy ν bounded (renamed (own held)) w ≡ got (plain w true) = plain-once ν law held q tells P named w (good-there w d) (names-there w d) in
      let k : got (plain w true) ≡ got (plain t true) = sym j ∙ e ∙ i in
      record { type = u; quantified = b; given = w; returned = c ∙ d; reads = cc }
    where
      put : (o : Open N) (w : Ty N) → renamed h o ≡ some w → (u : Open N) × ((h o ≡ some u) × (w ≡ opened u))
      put o w e = go (h o) refl e
        where
          go : (s : Option (Open N)) → h o ≡ s → and_then s (λ y. some (opened y)) ≡ some w → (u : Open N) × ((h o ≡ some u) × (w ≡ opened u))
          go none i k = absurd (some≢none (sym k))
          go (some u) i k = (u, (i, cc))

      held_back : (o u : Open N) → h o ≡ some u → goodOpen ν held q u ≡ true
      held_back o u e = go (f o) refl e
        where
          go : (s : Option (Open N)) → f o ≡ s → andLater s (back vs) o ≡ some u → goodOpen ν held q u ≡ true
          go none i k = let (j, (x, (l, (m, n)))) = back_is vs o u k in rw m (a.names-held x (there-in vs j x n))
          go (some w) i k =
              let (y, (m, n)) = all-at ν 0 vs o w i in
              let z : some (moved (back vs) w) ≡ some u = k in
              let b : moved (back vs) w ≡ u = cc in
              let d : w ≡ quant n.place = n.is ∙ ap quant (omega arith) in
              let c : u ≡ var y = sym b ∙ ap (moved (back vs)) d ∙ back_at vs n.place y n.there in
              rw c (a.names-held y (there-in vs n.place y n.there))

      good-put : (o : Open N) (w : Ty N) → renamed h o ≡ some w → GoodTy ν law held q w
      good-put o w e = let (u, (i, j)) = put o w e in rw j (held_back o u i)

      good-there : (w : Ty N) → replaceTy ν bounded (renamed h) t ≡ got w → goodTy ν held q w ≡ true
      good-there w e = (ty_kept ν law held q (renamed h) good-put t (ty-weaker ν held 0 q (omega arith) t good)).holds w e

      names-put : (o : Open N) (w : Ty N) → P o → renamed h o ≡ some w → All P (opens w)
      names-put o w p e =
          let (u, (i, j)) = put o w e in
          let (x, (k, l)) = again-is o u p i in
          rw (j, l) (all_cons P p (all_nil P))

      names-there : (w : Ty N) → replaceTy ν bounded (renamed h) t ≡ got w → All P (opens w)
      names-there w e = ty-occurs ν law held q tells (renamed h) good-put P P (λ o p i. p) names-put t w (ty-weaker ν held 0 q (omega arith) t good)
          e (λ o m. m)

  -- ══ The caller's law ══

  bound-again : (o : Open N) (x : N) → o ≡ var x → moved (back vs) (moved f o) ≡ o
  unfolding all_of back
  bound-again o x i = rw i (go (first_equal ν 0 vs x) refl)
    where
      go : (s : Option (Open N)) → first_equal ν 0 vs x ≡ s → moved (back vs) (moved f (var x)) ≡ var x
      go none j = rw j
      go (some u) j =
          let b = first-at ν 0 vs x u j in
          let d : u ≡ quant b.place = b.is ∙ ap quant (omega arith) in
          rw j (ap (moved (back vs)) d ∙ back_at vs b.place x b.there)

  bounds-again : (bs : List (Open N)) → All (λ o. (x : N) × (o ≡ var x)) bs → renamedBounds (back vs) (renamedBounds f bs) ≡ bs
  unfolding renamedBounds
  bounds-again [] k = refl
  bounds-again (o ∷ bs) k =
      let (x, i) = k o in_head in
      let b = bound-again o x i in
      let c = bounds-again bs (λ u m. k u (Memᴰ.tail m)) in
      cc

  not-deep : {A : Type 0} (n d : ℕ) (b c : A) → sized bounded n d b ≡ got c → d ≤ 64
  not-deep n d b c e = go (dec_le d 64)
    where
      go : Dec (d ≤ 64) → d ≤ 64
      go (yes k) = k
      go (no k) = absurd (got≢refused (sym e ∙ sized-deep n d b (omega arith)))

  -- what quantifying gave, instantiated with the same names: the type, with single variables read as variables, and the bounds
  pub back-again : (bs : List (Open N)) → All (λ o. (x : N) × (o ≡ var x)) bs → (s : Scheme N) → quantify ν bounded vs t bs ≡ got s
      → instantiate ν bounded vs s ≡ got (plain t true, bs)
  unfolding instantiate put_back schemeLimited
  back-again bs k s e =
      let r = again in
      let g = ty-weaker ν held 0 q (omega arith) t good in
      let made : schemeLimited bounded 1 r.type (renamedBounds f bs) (scheme (length vs) r.type (renamedBounds f bs)) ≡ got s =
      sym (quantify-once ν law held q tells vs t bs le good unmix ∙ rw r.quantified) ∙ e in
      let is : scheme (length vs) r.type (renamedBounds f bs) ≡ s =
      sized_same (1 + (size r.type + length (renamedBounds f bs))) (depth r.type) (scheme (length vs) r.type (renamedBounds f bs)) bounded s made
      in
      let few = sized-small (1 + (size r.type + length (renamedBounds f bs))) (depth r.type) (scheme (length vs) r.type (renamedBounds f bs)) s made in
      let flat = not-deep (1 + (size r.type + length (renamedBounds f bs))) (depth r.type) (scheme (length vs) r.type (renamedBounds f bs)) s made in
      let less = plain_size ν law held q tells P f (all-renames ν held q 0 vs P (omega arith) fair) t r.type g (λ o m. m) r.quantified in
      let d1 = renamed-deep ν bounded f t r.type r.quantified in
      let d2 = renamed-deep ν bounded (own held) t (plain t true) (plain-once ν law held q tells P named t g (λ o m. m)) in
      rw (sym is, eq-eqb (length vs) (length vs) refl, r.returned, r.reads, bounds-again bs k)
      (sized-kept (0 + (size (plain t true) + length (renamedBounds f bs))) (depth (plain t true)) (plain t true, bs) (omega arith) (omega arith))

  -- the type itself, where no product of it is one variable to the power 1
  pub type-again : plain t true ≡ t → (bs : List (Open N)) → All (λ o. (x : N) × (o ≡ var x)) bs → (s : Scheme N)
      → quantify ν bounded vs t bs ≡ got s → instantiate ν bounded vs s ≡ got (t, bs)
  type-again i bs k s e = back-again bs k s e ∙ ap (λ (u : Ty N). got (u, bs)) i
