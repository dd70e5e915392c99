-- Quantifying names in turn is one replacing: of the handed numbers equal to an open name, the first decides.
use Rattle.schemes_renaming.specs.Places.{first_equal, all_of}
use Rattle.std.specs.Prelude.{◌≡◌, Bool, ◌⊎◌, length}
use Rattle.std.proofs.Math.Path.{refl, sym, ap}
use Rattle.std.proofs.Common.{◌∙◌, inl}
use Rattle.std.proofs.Math.Bool.{true, false}
use Rattle.std.proofs.Math.Option.{Option, none, some, get_or}
use Rattle.std.proofs.Math.Logic.{inr}
use mathlib.Core.List.{List, [], ◌∷◌, Memᴰ}
use Prim.Native.Nat.{ℕ, suc, ◌+◌, ◌≤◌, ◌<◌}
use native.Mathlib.Omega.{arith}
use borrow.Author.Tests.{ltb-true, lt-ltb}
use Rattle.std.proofs.Math.ListN.{get_elem?}
use Rattle.rules.specs.Base.{Got, got, refused, bounded, ◌>>=◌, is_yes, only_if, and_then}
use Rattle.rules.specs.Trees.{Open, var, quant, par, Names, Ty, opened, orderAtom, opens}
use Rattle.rules.specs.Contents.{unmixed}
use Rattle.rules.specs.Replacing.{asProduct, replaceTy}
use Rattle.rules.specs.Schemes.{scheme, renamed, renamedBounds, quantifies, quantifyFrom, quantify, schemeLimited}
use Rattle.rules.specs.WellFormed.{goodOpen, goodTy}
use Rattle.laws.specs.Order.{Lawful, Tells}
use Rattle.laws.specs.Lists.{All, all_nil, all_cons, all-every}
use Rattle.laws.proofs.Lists.{every-all, some≢none, yes-is}
use Rattle.laws.proofs.Contents.{not-mixed}
use Rattle.laws.specs.GoodProducts.{goodAtom}
use Rattle.laws.proofs.KeepsGood.{GoodTy, ty_kept}
use Rattle.laws.proofs.KnownNames.{ty-known}
use Rattle.laws.proofs.Untouched.{ty_same}
use Rattle.laws.proofs.Weaker.{ty-weaker}
use Rattle.schemes_renaming.proofs.Products.{moved, Renames, moved-good}
use Rattle.schemes_renaming.proofs.Occurring.{ty-occurs}
use Rattle.schemes_renaming.proofs.Types.{andLater, Becomes, Twice, ty-twice}

-- a value made, then used
bind-got : {A B C : Type 0} (m : Got A) (f : A → B) (g : B → Got C) → ((m >>= λ a. got (f a)) >>= g) ≡ (m >>= λ a. g (f a))
bind-got (got a) f g = refl
bind-got (refused n) f g = refl

module _ {N : Type 0} (ν : Names N) where
  pub record At (i : ℕ) (vs : List N) (x : N) (u : Open N) : Type 0 where
    pub place : ℕ
    pub is : u ≡ quant (i + place)
    pub below : place < length vs
    pub there : get_elem? vs place ≡ some x

  pub first-at : (i : ℕ) (vs : List N) (x : N) (u : Open N) → first_equal ν i vs x ≡ some u → At i vs x u
  unfolding first_equal
  first-at i [] x u e = absurd (some≢none (sym e))
  first-at i (v ∷ vs) x u e = go (is_yes (ν.same v x)) refl (first-at (suc i) vs x u)
    where
      go : (b : Bool) → is_yes (ν.same v x) ≡ b → (first_equal ν (suc i) vs x ≡ some u → At (suc i) vs x u) → At i (v ∷ vs) x u
      go true j r =
          let z : some (quant i) ≡ some u = rw (j, first_equal) at e in
          let y : quant i ≡ u = cc in
          record { place = 0; is = sym y ∙ ap quant (omega arith); below = omega arith; there = ap some (yes-is (ν.same v x) j) }
      go false j r =
          let a = r (rw (j, first_equal) at e) in
          record { place = suc a.place; is = a.is ∙ ap quant (omega arith); below = let b = a.below in omega arith; there = a.there }

  pub all-at : (i : ℕ) (vs : List N) (o u : Open N) → all_of ν i vs o ≡ some u → (x : N) × (((o ≡ var x) ⊎ (o ≡ par x)) × At i vs x u)
  unfolding all_of
  all-at i vs (var x) u e = (x, (inl refl, first-at i vs x u e))
  all-at i vs (quant j) u e = absurd (some≢none (sym e))
  all-at i vs (par x) u e = (x, (inr refl, first-at i vs x u e))

  one_place : (i : ℕ) (b : Bool) → only_if {A = Open N} b (quant i) ≡ elim b [ true ↦ some (quant i) | false ↦ none ]
  one_place i true = refl
  one_place i false = refl

  -- one turn is the first of them
  one-turn : (i : ℕ) (v : N) (o : Open N) → quantifies ν i v o ≡ all_of ν i (v ∷ []) o
  unfolding quantifies all_of first_equal
  one-turn i v (quant j) = refl
  one-turn i v (var x) = one_place i (is_yes (ν.same v x))
  one-turn i v (par x) = one_place i (is_yes (ν.same v x))

  -- a turn, and those after it
  turn-and-rest : (i : ℕ) (v : N) (vs : List N) (o : Open N) → all_of ν i (v ∷ vs) o ≡ andLater (quantifies ν i v o) (all_of ν (suc i) vs) o
  unfolding quantifies all_of first_equal andLater
  turn-and-rest i v vs (quant j) = refl
  turn-and-rest i v vs (var x) = go (is_yes (ν.same v x)) refl
    where
      go : (b : Bool) → is_yes (ν.same v x) ≡ b → all_of ν i (v ∷ vs) (var x) ≡ andLater (only_if b (quant i)) (all_of ν (suc i) vs) (var x)
      go true j = rw (j, first_equal)
      go false j = rw (j, first_equal)
  turn-and-rest i v vs (par x) = go (is_yes (ν.same v x)) refl
    where
      go : (b : Bool) → is_yes (ν.same v x) ≡ b → all_of ν i (v ∷ vs) (par x) ≡ andLater (only_if b (quant i)) (all_of ν (suc i) vs) (par x)
      go true j = rw (j, first_equal)
      go false j = rw (j, first_equal)

  moved-rest : (i : ℕ) (v : N) (vs : List N) (o : Open N) → moved (all_of ν i (v ∷ vs)) o ≡ moved (all_of ν (suc i) vs) (moved (quantifies ν i v) o)
  unfolding andLater
  moved-rest i v vs o = go (quantifies ν i v o) refl (turn-and-rest i v vs o)
    where
      go : (t : Option (Open N)) → quantifies ν i v o ≡ t → all_of ν i (v ∷ vs) o ≡ andLater t (all_of ν (suc i) vs) o
          → moved (all_of ν i (v ∷ vs)) o ≡ moved (all_of ν (suc i) vs) (moved (quantifies ν i v) o)
      go none j k = rw (j, k)
      go (some u) j k = rw (j, k)

  -- the same in bounds
  bounds-rest : (i : ℕ) (v : N) (vs : List N) (bs : List (Open N))
      → renamedBounds (all_of ν (suc i) vs) (renamedBounds (quantifies ν i v) bs) ≡ renamedBounds (all_of ν i (v ∷ vs)) bs
  unfolding renamedBounds
  bounds-rest i v vs [] = refl
  bounds-rest i v vs (o ∷ bs) = let z = moved-rest i v vs o in let y = bounds-rest i v vs bs in cc

  nothing-handed : (i : ℕ) (o : Open N) → all_of ν i [] o ≡ none
  unfolding all_of first_equal
  nothing-handed i (var x) = refl
  nothing-handed i (quant j) = refl
  nothing-handed i (par x) = refl

  no-bounds : (i : ℕ) (bs : List (Open N)) → renamedBounds (all_of ν i []) bs ≡ bs
  unfolding renamedBounds
  no-bounds i [] = refl
  no-bounds i (o ∷ bs) = let z : moved (all_of ν i []) o ≡ o = rw (nothing-handed i o) in let y = no-bounds i bs in cc

  module _ (held : N → Bool) (q : ℕ) where
    -- well formed names, with quantified variables below i only, and none that is a variable and a parameter
    pub record Fair (i : ℕ) (P : Open N → Type 0) : Type 0 where
      pub known : (o : Open N) → P o → goodOpen ν held q o ≡ true
      pub below : (j : ℕ) → P (quant j) → j < i
      pub apart : (x : N) → P (var x) → P (par x) → ⊥

    place-good : (i : ℕ) (vs : List N) → i + length vs ≤ q → (x : N) (u : Open N) → At i vs x u → goodOpen ν held q u ≡ true
    unfolding goodOpen
    place-good i vs le x u a = let b = a.below in rw a.is (lt-ltb (i + a.place) q (omega arith))

    pub all-good : (i : ℕ) (vs : List N) → i + length vs ≤ q → (o u : Open N) → all_of ν i vs o ≡ some u → goodOpen ν held q u ≡ true
    all-good i vs le o u e = let (x, (j, a)) = all-at i vs o u e in place-good i vs le x u a

    pub all-renames : (i : ℕ) (vs : List N) (P : Open N → Type 0) → i + length vs ≤ q → Fair i P → Renames ν held q P (all_of ν i vs)
    unfolding asProduct
    all-renames i vs P le h = record {
      dimension = λ o u p e. let (x, (j, a)) = all-at i vs o u e in rw a.is;
      good = λ o u p e. all-good i vs le o u e;
      new = λ o u p e. let (x, (j, a)) = all-at i vs o u e in inr (λ w k l. fresh w a.place k (l ∙ a.is));
      apart = λ o w u p k e f. let (x, (j, a)) = all-at i vs o u e in let (y, (l, b)) = all-at i vs w u f in both o w x y p k j l (same_name x y u a b);
    }
      where
        fresh : (w : Open N) (n : ℕ) → P w → w ≡ quant (i + n) → ⊥
        fresh w n k l = let z = h.below (i + n) (rw l at k) in omega arith

        same_name : (x y : N) (u : Open N) → At i vs x u → At i vs y u → x ≡ y
        same_name x y u a b =
            let z : quant (i + a.place) ≡ quant (i + b.place) = sym a.is ∙ b.is in
            let n : i + a.place ≡ i + b.place = cc in
            let m : a.place ≡ b.place = omega arith in
            let l : some x ≡ some y = sym a.there ∙ ap (get_elem? vs) m ∙ b.there in
            cc

        both : (o w : Open N) (x y : N) → P o → P w → (o ≡ var x) ⊎ (o ≡ par x) → (w ≡ var y) ⊎ (w ≡ par y) → x ≡ y → o ≡ w
        both o w x y p k (inl a) (inl b) e = a ∙ ap var e ∙ sym b
        both o w x y p k (inr a) (inr b) e = a ∙ ap par e ∙ sym b
        both o w x y p k (inl a) (inr b) e = absurd (h.apart y (rw (a ∙ ap var e) at p) (rw b at k))
        both o w x y p k (inr a) (inl b) e = absurd (h.apart y (rw b at k) (rw (a ∙ ap par e) at p))

    alike-renames : (P : Open N → Type 0) (f g : Open N → Option (Open N)) → ((o : Open N) → f o ≡ g o) → Renames ν held q P g → Renames ν held q P f
    alike-renames P f g e h = record {
      dimension = λ o u p i. h.dimension o u p (sym (e o) ∙ i);
      good = λ o u p i. h.good o u p (sym (e o) ∙ i);
      new = λ o u p i. h.new o u p (sym (e o) ∙ i);
      apart = λ o w u p k i j. h.apart o w u p k (sym (e o) ∙ i) (sym (e w) ∙ j);
    }

    turn-renames : (i : ℕ) (v : N) (P : Open N → Type 0) → i < q → Fair i P → Renames ν held q P (quantifies ν i v)
    turn-renames i v P le h = alike-renames P (quantifies ν i v) (all_of ν i (v ∷ [])) (one-turn i v) (all-renames i (v ∷ []) P (omega arith) h)

    -- after a turn the names are fair again, with one more quantified variable
    turn-fair : (i : ℕ) (v : N) (P : Open N → Type 0) → i < q → Fair i P → Fair (suc i) (Becomes P (quantifies ν i v))
    unfolding quantifies
    turn-fair i v P le h = record {
      known = λ u (o, (p, e)). rw e (moved-good ν held q P (quantifies ν i v) (turn-renames i v P le h) o p (h.known o p));
      below = λ j (o, (p, e)). under j o p e (quantifies ν i v o) refl;
      apart = λ x (o, (p, e)) (w, (k, l)). h.apart x (rw (sym (only-name o (var x) e (λ n z. other-var n z))) at p)
          (rw (sym (only-name w (par x) l (λ n z. other-par n z))) at k);
    }
      where
        that : (b : Bool) (u : Open N) → only_if b (quant i) ≡ some u → u ≡ quant i
        that true u j = cc
        that false u j = cc

        turn : (o u : Open N) → quantifies ν i v o ≡ some u → u ≡ quant i
        turn (quant j) u e = absurd (some≢none (sym e))
        turn (var x) u e = that (is_yes (ν.same v x)) u e
        turn (par x) u e = that (is_yes (ν.same v x)) u e

        under : (j : ℕ) (o : Open N) → P o → quant j ≡ moved (quantifies ν i v) o → (t : Option (Open N)) → quantifies ν i v o ≡ t → j < suc i
        under j o p e none k = let z : o ≡ quant j = sym (e ∙ ap (λ (s : Option (Open N)). get_or s o) k) in let y = h.below j (rw z at p) in omega arith
        under j o p e (some u) k = let z : quant j ≡ quant i = e ∙ ap (λ (s : Option (Open N)). get_or s o) k ∙ turn o u k in let y : j ≡ i = cc in omega arith

        -- a name that is no quantified variable was not renamed
        only-name : (o u : Open N) → u ≡ moved (quantifies ν i v) o → ((n : ℕ) → u ≡ quant n → ⊥) → u ≡ o
        only-name o u e no-quant = go (quantifies ν i v o) refl
          where
            go : (t : Option (Open N)) → quantifies ν i v o ≡ t → u ≡ o
            go none k = e ∙ ap (λ (s : Option (Open N)). get_or s o) k
            go (some w) k = absurd (no-quant i (e ∙ ap (λ (s : Option (Open N)). get_or s o) k ∙ turn o w k))

        other-var : {x : N} (n : ℕ) → var x ≡ quant n → ⊥
        other-var n e = cc

        other-par : {x : N} (n : ℕ) → par x ≡ quant n → ⊥
        other-par n e = cc

module _ {N : Type 0} (ν : Names N) (law : Lawful (orderAtom ν)) (held : N → Bool) (q : ℕ) (tells : Tells (λ a. goodAtom ν held q a ≡ true) (orderAtom ν)) where
  turns-twice : (i : ℕ) (v : N) (vs : List N) (P : Open N → Type 0) → i + length (v ∷ vs) ≤ q → Fair ν held q i P
      → Twice ν law held q tells P (quantifies ν i v) (all_of ν (suc i) vs) (all_of ν i (v ∷ vs))
  unfolding all_of
  turns-twice i v vs P le h = record {
    first = turn-renames ν held q i v P (omega arith) h;
    second = all-renames ν held q (suc i) vs (Becomes P (quantifies ν i v)) (omega arith) (turn-fair ν held q i v P (omega arith) h);
    whole = all-renames ν held q i (v ∷ vs) P le h;
    same = λ o p. turn-and-rest ν i v vs o;
    still = λ o u p e. let (x, (j, a)) = all-at ν i (v ∷ []) o u (sym (one-turn ν i v o) ∙ e) in inr (rw a.is);
  }

  put-in : (i : ℕ) (vs : List N) → i + length vs ≤ q → (o : Open N) (t : Ty N) → renamed (all_of ν i vs) o ≡ some t → GoodTy ν law held q t
  unfolding goodTy
  put-in i vs le o t e = go (all_of ν i vs o) refl e
    where
      go : (u : Option (Open N)) → all_of ν i vs o ≡ u → and_then u (λ w. some (opened w)) ≡ some t → GoodTy ν law held q t
      go none j k = absurd (some≢none (sym k))
      go (some u) j k = let z : opened u ≡ t = cc in rw (sym z) (all-good ν held q i vs le o u j)

  -- in turn, or all at once
  pub in-turn : (i : ℕ) (vs : List N) (t : Ty N) (bs : List (Open N)) (P : Open N → Type 0) → i + length vs ≤ q → Fair ν held q i P
      → goodTy ν held q t ≡ true → All P (opens t)
      → quantifyFrom ν bounded i vs t bs ≡ (replaceTy ν bounded (renamed (all_of ν i vs)) t >>= λ u. got (u, renamedBounds (all_of ν i vs) bs))
  unfolding quantifyFrom opens
  in-turn i [] t bs P le h g k =
      let z : replaceTy ν bounded (renamed (all_of ν i [])) t ≡ got t =
      ty_same ν bounded (renamed (all_of ν i [])) t
      (all-every (λ o. renamed (all_of ν i []) o ≡ none) (opens t) (λ o m. rw (nothing-handed ν i o))) in
      sym (rw z (ap (λ (cs : List (Open N)). got (t, cs)) (no-bounds ν i bs)))
  in-turn i (v ∷ vs) t bs P le h g k =
      let (u, (a, b)) = ty-twice ν law held q tells P (quantifies ν i v) (all_of ν (suc i) vs) (all_of ν i (v ∷ vs)) (turns-twice i v vs P le h) t g k in
      go u a b (in-turn (suc i) vs u (renamedBounds (quantifies ν i v) bs) (Becomes P (quantifies ν i v)) (omega arith)
      (turn-fair ν held q i v P (omega arith) h))
    where
      good_turn : (o : Open N) (w : Ty N) → renamed (quantifies ν i v) o ≡ some w → GoodTy ν law held q w
      good_turn o w e = put-in i (v ∷ []) (omega arith) o w (ap (λ (x : Option (Open N)). and_then x (λ y. some (opened y))) (sym (one-turn ν i v o)) ∙ e)

      becomes : (o : Open N) → P o → renamed (quantifies ν i v) o ≡ none → Becomes P (quantifies ν i v) o
      becomes o p e = (o, (p, go (quantifies ν i v o) refl e))
        where
          go : (x : Option (Open N)) → quantifies ν i v o ≡ x → and_then x (λ y. some (opened y)) ≡ none → o ≡ moved (quantifies ν i v) o
          go none j l = rw j
          go (some y) j l = absurd (some≢none l)

      becomes-put : (o : Open N) (w : Ty N) → P o → renamed (quantifies ν i v) o ≡ some w → All (Becomes P (quantifies ν i v)) (opens w)
      becomes-put o w p e = go (quantifies ν i v o) refl e
        where
          go : (x : Option (Open N)) → quantifies ν i v o ≡ x → and_then x (λ y. some (opened y)) ≡ some w → All (Becomes P (quantifies ν i v)) (opens w)
          go none j l = absurd (some≢none (sym l))
          go (some y) j l = let z : opened y ≡ w = cc
              in rw (sym z) (all_cons (Becomes P (quantifies ν i v)) (o, (p, rw j)) (all_nil (Becomes P (quantifies ν i v))))

      go : (u : Ty N) → replaceTy ν bounded (renamed (quantifies ν i v)) t ≡ got u
          → replaceTy ν bounded (renamed (all_of ν (suc i) vs)) u ≡ replaceTy ν bounded (renamed (all_of ν i (v ∷ vs))) t
          → (goodTy ν held q u ≡ true → All (Becomes P (quantifies ν i v)) (opens u)
          → quantifyFrom ν bounded (suc i) vs u (renamedBounds (quantifies ν i v) bs) ≡
          (replaceTy ν bounded (renamed (all_of ν (suc i) vs)) u >>= λ w. got (w, renamedBounds (all_of ν (suc i) vs) (renamedBounds (quantifies ν i v) bs))))
          → quantifyFrom ν bounded i (v ∷ vs) t bs
          ≡ (replaceTy ν bounded (renamed (all_of ν i (v ∷ vs))) t >>= λ w. got (w, renamedBounds (all_of ν i (v ∷ vs)) bs))
      go u a b again =
          rw a (again ((ty_kept ν law held q (renamed (quantifies ν i v)) good_turn t g).holds u a)
          (ty-occurs ν law held q tells (renamed (quantifies ν i v)) good_turn P (Becomes P (quantifies ν i v)) becomes becomes-put t u g a k)
          ∙ rw (b, bounds-rest ν i v vs bs))

  -- a well formed type, none of whose names is a variable and a parameter
  pub given-fair : (t : Ty N) → goodTy ν held 0 t ≡ true → unmixed ν (opens t) ≡ true → Fair ν held q 0 (λ o. Memᴰ o (opens t))
  unfolding goodOpen
  given-fair t g m = record {
    known = λ o i. every-all (λ u. goodOpen ν held q u ≡ true) (opens t) (ty-known ν held q t (ty-weaker ν held 0 q (omega arith) t g)) o i;
    below = λ j i. let z = ltb-true j 0 (every-all (λ u. goodOpen ν held 0 u ≡ true) (opens t) (ty-known ν held 0 t g) (quant j) i) in z;
    apart = λ x i j. not-mixed ν (opens t) m x i j;
  }

  -- quantifying is one replacing, and the count of all names that were handed
  pub quantify-once : (vs : List N) (t : Ty N) (bs : List (Open N)) → length vs ≤ q → goodTy ν held 0 t ≡ true → unmixed ν (opens t) ≡ true
      → quantify ν bounded vs t bs ≡ (replaceTy ν bounded (renamed (all_of ν 0 vs)) t
      >>= λ u. schemeLimited bounded 1 u (renamedBounds (all_of ν 0 vs) bs) (scheme (length vs) u (renamedBounds (all_of ν 0 vs) bs)))
  unfolding quantify
  quantify-once vs t bs le g m =
      let e = in-turn 0 vs t bs (λ o. Memᴰ o (opens t)) (omega arith) (given-fair t g m) (ty-weaker ν held 0 q (omega arith) t g) (λ o i. i) in
      rw e (bind-got (replaceTy ν bounded (renamed (all_of ν 0 vs)) t) (λ u. (u, renamedBounds (all_of ν 0 vs) bs))
      (λ w. schemeLimited bounded 1 w.0 w.1 (scheme (length vs) w.0 w.1)))
