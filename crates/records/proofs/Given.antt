-- What follows from the definitions of specs/Given: parts one after another are what is read of a list.
use Rattle.std.proofs.Math.Path.{◌≡◌, refl, ap, subst}
use Rattle.std.proofs.Common.{sym, ◌∙◌, arith, ltb-true, ltb-false, eqb-true}
use Rattle.std.specs.Prelude.{Bool, ◌&&◌, ltb, eqb}
use Rattle.std.proofs.Math.Bool.{true, false}
use Rattle.std.proofs.Math.Option.{Option, none, some}
use mathlib.Core.List.{List, [], ◌∷◌, cons≢nil}
use Prim.Native.Nat.{ℕ, zero, suc, ◌+◌, ◌/◌, ◌%◌, ◌≤◌}
use Rattle.std.proofs.lemmas.Bool.{eqb-false}
use Rattle.std.proofs.Math.ListN.{length}
use Rattle.rules.specs.Base.{Got, got, refused, ◌>>=◌, ◌>>◌, need, all}
use Rattle.rules.specs.Writing.{Rec}
use Rattle.rules.specs.Reading.{Reader, read_all}
use Rattle.rules.specs.Calls.{listGiven, only}
use Rattle.laws.specs.Lists.{and_left as both_left, and_right as both_right}
use Rattle.records.specs.Views.{recs, from}
use Rattle.records.specs.Places.{from_some}
use Rattle.rules.specs.Reading.{readTy, readCon, readBinding}
use Rattle.rules.specs.Trees.{size, sizeCon, sizeBinding}
use Rattle.records.specs.ByView.{ends-in}
use Rattle.records.proofs.ByView.{size-pos}
use Rattle.records.specs.Parsed.{read}
use Rattle.records.proofs.Parsed.{con-read, binding-read}
use Rattle.records.specs.Found.{Words32}
use Rattle.records.proofs.Found.{found, con-found, binding-found}
use Rattle.records.proofs.Moves.{con-moves, binding-moves}
use Rattle.records.specs.Good.{Chain, Chained, There, goodTy, goodCon, goodBinding, GoodTy, GoodCon, GoodBinding}
use Rattle.records.specs.Given.{records-whole, records-broken, read_more, read-end, Reader-of, N, list-yes}

pub absurd-some : {A B : Type 0} {a : A} → none ≡ some a → B
absurd-some e = absurd (cc)

pub from_start : (s : List ℕ) → from s 0 ≡ recs s
unfolding from
from_start s = refl

-- ══ One part after another is read ══

module _ {A : Type 0} (r : Reader A) where
  read-first-none : (k : ℕ) (x : Rec) (xs : List Rec) → r (x ∷ xs) ≡ none → read_all r (suc k) (x ∷ xs) ≡ none
  unfolding read_all
  read-first-none k x xs p = rw (p, read_all)

  read-rest-none : (k : ℕ) (x : Rec) (xs : List Rec) (v : A × List Rec) → r (x ∷ xs) ≡ some v → read_all r k v.1 ≡ none → read_all r (suc k) (x ∷ xs) ≡ none
  unfolding read_all
  read-rest-none k x xs v p q = rw (p, read_all, q)

  -- what a list that was read came of
  record Split (k : ℕ) (l : List Rec) (as' : List A) : Type 0 where
    first : A
    rest : List Rec
    others : List A
    one : r l ≡ some (first, rest)
    more : read_all r k rest ≡ some others
    whole : as' ≡ first ∷ others

  split : (k : ℕ) (x : Rec) (xs : List Rec) (as' : List A) → read_all r (suc k) (x ∷ xs) ≡ some as' → Split k (x ∷ xs) as'
  split k x xs as' h = go (r (x ∷ xs)) refl
    where
      more : (v : A × List Rec) → r (x ∷ xs) ≡ some v → (o : Option (List A)) → read_all r k v.1 ≡ o → Split k (x ∷ xs) as'
      more v p none q = absurd-some (sym (read-rest-none k x xs v p q) ∙ h)
      more v p (some vs) q =
          let e : some as' ≡ some (v.0 ∷ vs) = sym h ∙ read_more r k x xs v vs p q in
          record { first = v.0; rest = v.1; others = vs; one = p; more = q; whole = cc }

      go : (o : Option (A × List Rec)) → r (x ∷ xs) ≡ o → Split k (x ∷ xs) as'
      go none p = absurd-some (sym (read-first-none k x xs p) ∙ h)
      go (some v) p = more v p (read_all r k v.1) refl

-- the records from a place on: none past the end, else the one there
from_empty : (s : List ℕ) (at : ℕ) → at ≤ length s / 4 → from s at ≡ [] → at ≡ length s / 4
from_empty s at h e = go (ltb at (length s / 4)) refl
  where
    go : (b : Bool) → ltb at (length s / 4) ≡ b → at ≡ length s / 4
    go true q = absurd (cons≢nil (sym (from_some s at (ltb-true at (length s / 4) q)) ∙ e))
    go false q = let k = ltb-false at (length s / 4) q in omega arith

module _ {A : Type 0} (s : List ℕ) (r : Reader A) (good : A → Bool) (P : ℕ → A → ℕ → Type 0) (law : Reader-of s r good P) where
  -- what is read from `at` on with k parts at most is a chain
  abbrev pub Reads-chain : ℕ → Type 0
  Reads-chain k = (at : ℕ) (as' : List A) → at ≤ N s r good P law → read_all r k (from s at) ≡ some as' → all good as' ≡ true
      → Chain P (N s r good P law) as' at

  at-end : (k at : ℕ) (as' : List A) → from s at ≡ [] → at ≤ N s r good P law → read_all r k [] ≡ some as' → Chain P (N s r good P law) as' at
  at-end k at as' e h p =
      let q : some [] ≡ some as' = sym (read-end r k) ∙ p in
      let i : [] ≡ as' = cc in
      subst (λ (x : List A). Chain P (N s r good P law) x at) i (from_empty s at h e)

  no_more : (at : ℕ) (l : List Rec) (as' : List A) → from s at ≡ l → at ≤ N s r good P law → read_all r zero l ≡ some as' → Chain P (N s r good P law) as' at
  unfolding read_all
  no_more at [] as' e h p = at-end zero at as' e h p
  no_more at (x ∷ xs) as' e h p = absurd-some p

  one_more : (k : ℕ) → Reads-chain k → (at : ℕ) (l : List Rec) (as' : List A) → from s at ≡ l → at ≤ N s r good P law → read_all r (suc k) l ≡ some as'
      → all good as' ≡ true → Chain P (N s r good P law) as' at
  unfolding all
  one_more k ih at [] as' e h p g = at-end (suc k) at as' e h p
  one_more k ih at (x ∷ xs) as' e h p g =
      let w = split r k x xs as' p in
      let g' : (good w.first && all good w.others) ≡ true = subst (λ (y : List A). all good y ≡ true) w.whole g in
      let (j, (q, i)) = law.finds at w.first w.rest (ap r e ∙ w.one) (both_left (good w.first) (all good w.others) g') in
      let m = law.moves at w.first j q in
      let c = ih j w.others m.1 (ap (read_all r k) (sym i) ∙ w.more) (both_right (good w.first) (all good w.others) g') in
      subst (λ (y : List A). Chain P (N s r good P law) y at) (sym w.whole) (j, (q, c))

  pub read-chain : (k : ℕ) → Reads-chain k
  read-chain zero at as' h p g = no_more at (from s at) as' refl h p
  read-chain (suc k) at as' h p g = one_more k (read-chain k) at (from s at) as' refl h p g

  -- whole records are such a list, or are refused
  pub data Either : Type 0 where
    given : (as' : List A) → Chain P (N s r good P law) as' 0 → listGiven r good s ≡ got as' → Either
    not : listGiven r good s ≡ refused 1 → Either

  pub list-either : length s % 4 ≡ 0 → Either
  unfolding listGiven recs from
  list-either h = read (read_all r (length (recs s)) (recs s)) refl
    where
      tested : (as' : List A) → read_all r (length (recs s)) (recs s) ≡ some as' → (b : Bool) → all good as' ≡ b → Either
      tested as' p true q = given as' (read-chain (length (recs s)) 0 as' (omega arith) p q) (rw (records-whole s h, p, q))
      tested as' p false q = not (rw (records-whole s h, p, q))

      read : (o : Option (List A)) → read_all r (length (recs s)) (recs s) ≡ o → Either
      read none p = not (rw (records-whole s h, p))
      read (some as') p = tested as' p (all good as') refl

  pub list-broken : ((length s % 4 ≡ 0) → ⊥) → listGiven r good s ≡ refused 1
  unfolding listGiven
  list-broken h = rw (records-broken s h)

  -- what is said of a list of whole records by the test of its parts
  pub list-told : (b : Bool) → Chained P (N s r good P law) 0 b → (listGiven r good s >> got (tt {0})) ≡ need (eqb (length s % 4) 0 && b) 1
  list-told b h = go (eqb (length s % 4) 0) refl b h
    where
      none : length s % 4 ≡ 0 → Chained P (N s r good P law) 0 false → Either → (listGiven r good s >> got (tt {0})) ≡ refused 1
      none m f (given as' c e) = absurd (f as' c)
      none m f (not e) = rw e

      go : (m : Bool) → eqb (length s % 4) 0 ≡ m → (b : Bool) → Chained P (N s r good P law) 0 b → (listGiven r good s >> got (tt {0})) ≡ need (m && b) 1
      go false q b h = rw (list-broken (eqb-false (length s % 4) 0 q))
      go true q true h = rw (list-yes s r good P law h.0 (eqb-true (length s % 4) 0 q) h.1)
      go true q false h = none (eqb-true (length s % 4) 0 q) h (list-either (eqb-true (length s % 4) 0 q))

  -- the same where exactly one part is asked for
  pub one_told : (b : Bool) → There (λ a. P 0 a (N s r good P law)) b → ((listGiven r good s >>= only) >> got (tt {0})) ≡ need (eqb (length s % 4) 0 && b) 1
  unfolding only
  one_told b h = go (eqb (length s % 4) 0) refl b h
    where
      none : There (λ a. P 0 a (N s r good P law)) false → Either → ((listGiven r good s >>= only) >> got (tt {0})) ≡ refused 1
      none f (given [] c e) = rw e
      none f (given (a ∷ []) c e) = absurd (f a (subst (P 0 a) c.1.1 c.1.0))
      none f (given (a ∷ b ∷ as') c e) = rw e
      none f (not e) = rw e

      go : (m : Bool) → eqb (length s % 4) 0 ≡ m → (b : Bool) → There (λ a. P 0 a (N s r good P law)) b
          → ((listGiven r good s >>= only) >> got (tt {0})) ≡ need (m && b) 1
      go false q b h = rw (list-broken (eqb-false (length s % 4) 0 q))
      go true q true h = rw (list-yes s r good P law (h.0 ∷ []) (eqb-true (length s % 4) 0 q) (N s r good P law, (h.1, refl)))
      go true q false h = none h (list-either (eqb-true (length s % 4) 0 q))

  -- ══ What is given is there ══

  pub list-is : (as' : List A) → listGiven r good s ≡ got as' → Chain P (N s r good P law) as' 0
  list-is as' h = go (eqb (length s % 4) 0) refl
    where
      whole : Either → Chain P (N s r good P law) as' 0
      whole (given bs c e) = let i : got bs ≡ got as' = sym e ∙ h in let j : bs ≡ as' = cc in subst (λ (x : List A). Chain P (N s r good P law) x 0) j c
      whole (not e) = let i : refused 1 ≡ got as' = sym e ∙ h in absurd (cc)

      go : (m : Bool) → eqb (length s % 4) 0 ≡ m → Chain P (N s r good P law) as' 0
      go true q = whole (list-either (eqb-true (length s % 4) 0 q))
      go false q = whole (not (list-broken (eqb-false (length s % 4) 0 q)))

  pub one-is : (a : A) → (listGiven r good s >>= only) ≡ got a → P 0 a (N s r good P law)
  unfolding only
  one-is a h = go (listGiven r good s) refl
    where
      no : {B : Type 0} {n : ℕ} → refused n ≡ got a → B
      no e = absurd (cc)

      some : (as' : List A) → listGiven r good s ≡ got as' → P 0 a (N s r good P law)
      some [] e = no {n = 1} (sym (rw e) ∙ h)
      some (b ∷ []) e =
          let c = list-is (b ∷ []) e in
          let i : got b ≡ got a = sym (rw e) ∙ h in
          let j : b ≡ a = cc in
          subst (λ (x : A). P 0 x (N s r good P law)) j (subst (P 0 b) c.1.1 c.1.0)
      some (b ∷ d ∷ as') e = no {n = 1} (sym (rw e) ∙ h)

      go : (o : Got (List A)) → listGiven r good s ≡ o → P 0 a (N s r good P law)
      go (got as') e = some as' e
      go (refused n) e = no {n = n} (sym (rw e) ∙ h)

-- ══ The readers of the rules ══

module _ (pool table : List ℕ) (s : List ℕ) (w : Words32 s) where
  pub con-reader : Reader-of s readCon (goodCon pool table 0) (GoodCon pool table 0 s)
  con-reader = record {
    reads = λ at a e g. con-read s a at g.held g.deep ∙ ap (λ (k : ℕ). some (a, from s k)) (sym g.past);
    right = λ at a e g. g.good;
    moves = λ at a e g. con-moves pool table 0 s at a e g;
    finds = λ at a rest e g. let f = (con-found s w at).holds a rest e
        in (at + sizeCon a, (record { held = f.held; past = refl; deep = f.deep; good = g }, f.place));
  }

  pub binding-reader : Reader-of s readBinding (goodBinding pool table 0) (GoodBinding pool table 0 s)
  binding-reader = record {
    reads = λ at a e g. binding-read s a at g.held g.deep ∙ ap (λ (k : ℕ). some (a, from s k)) (sym g.past);
    right = λ at a e g. g.good;
    moves = λ at a e g. binding-moves pool table 0 s at a e g;
    finds = λ at a rest e g. let f = (binding-found s w at).holds a rest e
        in (at + sizeBinding a, (record { held = f.held; past = refl; deep = f.deep; good = g }, f.place));
  }

  pub type-reader : Reader-of s (readTy 64) (goodTy pool table 0) (GoodTy pool table 0 s 64)
  type-reader = record {
    reads = λ at a e g. read s a 64 at g.held g.deep ∙ ap (λ (k : ℕ). some (a, from s k)) (sym g.past);
    right = λ at a e g. g.good;
    moves = λ at a e g. (omega (arith, g.past, size-pos a), omega (arith, g.past, ends-in s a at g.held));
    finds = λ at a rest e g. let f = (found s w 64 at).holds a rest e
        in (at + size a, (record { held = f.held; past = refl; deep = f.deep; good = g }, f.place));
  }
