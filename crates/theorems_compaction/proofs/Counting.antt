-- Two lists of different names that have the same names are as long as one another.
use Rattle.std.proofs.Math.Path.{◌≡◌, refl, sym, ap, ap₂}
use Rattle.std.proofs.Common.{◌∙◌}
use Rattle.std.specs.Prelude.{Bool, ◌&&◌, ◌||◌, length}
use Rattle.std.proofs.Math.Bool.{true, false, not, and-false, and-true}
use mathlib.Core.List.{List, [], ◌∷◌}
use Prim.Native.Nat.{suc}
use Rattle.rules.specs.Base.{any, keep}
use Rattle.rules.specs.Names.{Bytes, sameBytes, distinct}
use Rattle.std.proofs.lemmas.Bool.{not-true}
use Rattle.laws.specs.Lists.{and_left, and_right}
use Rattle.laws.proofs.Lists.{true≢false, and_both}
use Rattle.laws.proofs.NameTable.{same-no, same-is, same-yes}

abbrev pub Among : Bytes → List Bytes → Bool
Among m ns = any (sameBytes m) ns

same-same : (m : Bytes) → sameBytes m m ≡ true
same-same m = same-yes m m refl

same-back : (m n : Bytes) → sameBytes m n ≡ sameBytes n m
same-back m n = go (sameBytes m n) refl
  where
    go : (b : Bool) → sameBytes m n ≡ b → sameBytes m n ≡ sameBytes n m
    go true e = e ∙ sym (same-yes n m (sym (same-is m n e)))
    go false e = e ∙ sym (same-no n m (λ q. true≢false (sym (same-yes m n (sym q)) ∙ e)))

-- ══ What a test keeps ══

-- a name is among those that are kept where it is there and passes the test, which goes by the name alone
pub among-keep : (q : Bytes → Bool) (m : Bytes) (ns : List Bytes) → Among m (keep q ns) ≡ (Among m ns && q m)
unfolding any keep
among-keep q m [] = refl
among-keep q m (n ∷ ns) = go (q n) refl (sameBytes m n) refl (among-keep q m ns)
  where
    go : (b : Bool) → q n ≡ b → (c : Bool) → sameBytes m n ≡ c → Among m (keep q ns) ≡ (Among m ns && q m)
        → Among m (keep q (n ∷ ns)) ≡ (Among m (n ∷ ns) && q m)
    go true i true j h = let k : q m ≡ true = ap q (same-is m n j) ∙ i in rw (i, keep, any, j, k)
    go true i false j h = rw (i, keep, any, j) h
    go false i true j h = let k : q m ≡ false = ap q (same-is m n j) ∙ i in rw (i, keep, any, j, h, k) (and-false (Among m ns))
    go false i false j h = rw (i, keep, any, j) h

-- ══ Taking a name away ══

abbrev without : Bytes → List Bytes → List Bytes
without m ns = keep (λ n. not (sameBytes m n)) ns

without-other : (m : Bytes) (ns : List Bytes) → Among m ns ≡ false → without m ns ≡ ns
unfolding any keep
without-other m [] h = refl
without-other m (n ∷ ns) h = go (sameBytes m n) refl h (without-other m ns)
  where
    go : (b : Bool) → sameBytes m n ≡ b → (sameBytes m n || Among m ns) ≡ false → (Among m ns ≡ false → without m ns ≡ ns) → without m (n ∷ ns) ≡ n ∷ ns
    go true i h k = absurd (true≢false (sym (rw i) ∙ h))
    go false i h k = rw (i, keep) (ap (λ (ms : List Bytes). n ∷ ms) (k (rw i at h)))

distinct-without : (m : Bytes) (ns : List Bytes) → distinct ns ≡ true → distinct (without m ns) ≡ true
unfolding distinct keep
distinct-without m [] h = refl
distinct-without m (n ∷ ns) h = go (sameBytes m n) refl (distinct-without m ns (and_right (not (Among n ns)) _ h))
  where
    fewer : (b : Bool) → Among n ns ≡ false → (Among n ns && b) ≡ false
    fewer b e = rw e

    go : (b : Bool) → sameBytes m n ≡ b → distinct (without m ns) ≡ true → distinct (without m (n ∷ ns)) ≡ true
    go true i k = rw (i, keep) k
    go false i k =
        let a : Among n ns ≡ false = not-true (Among n ns) (and_left (not (Among n ns)) _ h) in
        rw (i, keep, distinct) (and_both (ap not (among-keep (λ x. not (sameBytes m x)) n ns ∙ fewer (not (sameBytes m n)) a)) k)

first-apart : (n : Bytes) (ns : List Bytes) → distinct (n ∷ ns) ≡ true → Among n ns ≡ false
unfolding distinct
first-apart n ns h = not-true (Among n ns) (and_left (not (Among n ns)) _ h)

rest-distinct : (n : Bytes) (ns : List Bytes) → distinct (n ∷ ns) ≡ true → distinct ns ≡ true
unfolding distinct
rest-distinct n ns h = and_right (not (Among n ns)) _ h

one-fewer : (m : Bytes) (ns : List Bytes) → distinct ns ≡ true → Among m ns ≡ true → length ns ≡ suc (length (without m ns))
unfolding any keep
one-fewer m [] d h = absurd (cc)
one-fewer m (n ∷ ns) d h = go (sameBytes m n) refl h (one-fewer m ns (rest-distinct n ns d))
  where
    go : (b : Bool) → sameBytes m n ≡ b → (sameBytes m n || Among m ns) ≡ true → (Among m ns ≡ true → length ns ≡ suc (length (without m ns)))
        → suc (length ns) ≡ suc (length (without m (n ∷ ns)))
    go true i h k =
        let e : m ≡ n = same-is m n i in
        let a : Among m ns ≡ false = ap (λ (x : Bytes). Among x ns) e ∙ first-apart n ns d in
        rw (i, keep) (ap (λ (ms : List Bytes). suc (length ms)) (sym (without-other m ns a)))
    go false i h k = rw (i, keep) (ap suc (k (rw i at h)))

pub as-many : (ns ms : List Bytes) → distinct ns ≡ true → distinct ms ≡ true → ((m : Bytes) → Among m ns ≡ Among m ms) → length ns ≡ length ms
unfolding any
as-many [] [] d e h = refl
as-many [] (m ∷ ms) d e h = absurd (true≢false (sym (h m ∙ ap (◌|| Among m ms) (same-same m))))
as-many (n ∷ ns) ms d e h =
    let there : Among n ms ≡ true = sym (h n) ∙ ap (◌|| Among n ns) (same-same n) in
    ap suc (as-many ns (without n ms) (rest-distinct n ns d) (distinct-without n ms e) (λ m. left m)) ∙ sym (one-fewer n ms e there)
  where
    left : (m : Bytes) → Among m ns ≡ Among m (without n ms)
    left m = go (sameBytes m n) refl
      where
        whole : (b : Bool) → sameBytes m n ≡ b → Among m (without n ms) ≡ ((b || Among m ns) && not b)
        whole b i = among-keep (λ x. not (sameBytes n x)) m ms ∙ ap₂ (λ (x y : Bool). x && not y) (sym (h m) ∙ ap (◌|| Among m ns) i) (same-back n m ∙ i)

        go : (b : Bool) → sameBytes m n ≡ b → Among m ns ≡ Among m (without n ms)
        go true i = ap (λ (x : Bytes). Among x ns) (same-is m n i) ∙ first-apart n ns d ∙ sym (whole true i)
        go false i = sym (whole false i ∙ and-true (Among m ns))
