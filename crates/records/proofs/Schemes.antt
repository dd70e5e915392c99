-- What follows from the definitions of specs/Schemes: the public test of schemes, from what the walkers find.
use Rattle.std.proofs.Math.Path.{◌≡◌, refl, sym, ap}
use Rattle.std.proofs.Common.{subst, ◌∙◌, arith}
use Rattle.std.proofs.Math.Bool.{Bool, true, false}
use Rattle.std.specs.Prelude.{◌&&◌}
use Rattle.std.proofs.Math.Option.{Option, none, some}
use mathlib.Core.List.{List, [], ◌∷◌}
use Prim.Native.Nat.{ℕ, suc, ◌+◌, ◌/◌, ◌%◌, ◌≤◌, ◌<◌}
use borrow.Author.Tests.{eq-eqb, eqb-true, eqb-false}
use Rattle.std.proofs.Math.Dec.{eqb}
use Rattle.std.proofs.Math.ListN.{length}
use Rattle.rules.specs.Base.{Got, got, refused, ◌>>◌, need, all}
use Rattle.rules.specs.Trees as tree
use Rattle.rules.specs.Trees.{Ty, size}
use Rattle.rules.specs.Names.{table_of}
use Rattle.rules.specs.Schemes.{Scheme, concrete, scheme}
use Rattle.rules.specs.Writing.{Rec, rec, kindIn, lengthIn}
use Rattle.rules.specs.Reading.{Reader, pass, give, unused, pick, readBound, readTy, read_all, schemeOf}
use Rattle.rules.specs.Calls.{aloneGiven, schemeGiven, schemeCall, goodScheme}
use Rattle.laws.specs.Lists.{and_left as both_left, and_right as both_right}
use Rattle.laws.specs.Heads.{kind-head, length-head}
use Rattle.laws.specs.Written.{Reads, given, picked}
use Rattle.laws.proofs.Written.{then}
use Rattle.laws.specs.Written as laws
use Rattle.records.specs.Views.{plain, shape_of, longOf, longAt, recs, from}
use Rattle.records.specs.Places.{◌&◌, from-length, first, seen-in, seen, from-none}
use Rattle.records.specs.Holds.{Shows, Long}
use Rattle.records.specs.ByView.{ends-in}
use Rattle.records.specs.Parsed.{read}
use Rattle.records.specs.Found.{Words32, here}
use Rattle.records.proofs.Found.{Found, found}
use Rattle.records.specs.Given.{records-whole, records-broken, chain-read}
use Rattle.records.proofs.Given.{absurd-some, read-chain}
use Rattle.records.specs.Good.{Chain, There, goodOpen, goodTy, GoodBound, GoodScheme}
use Rattle.records.specs.declared.View.TheVariants as view
use Rattle.records.specs.Schemes.{bound-reader}

module _ (s : List ℕ) where
  -- ══ A scheme ══

  module _ (pool table : List ℕ) where
    abbrev N : ℕ
    N = length s / 4

    scheme-yes : (sc : Scheme ℕ) → GoodScheme pool table s sc → (schemeOf (recs s) ≡ some sc) × (goodScheme (table_of pool table) sc ≡ true)
    unfolding schemeOf goodScheme read_all all from recs
    scheme-yes (concrete t) (v, g, l) =
        let r : readTy 64 (from s 1) ≡ some (t, from s N) = read s t 64 1 g.held g.deep ∙ ap (λ (k : ℕ). some (t, from s k)) (sym g.past) in
        let i : 0 < N = seen-in s 0 v tt in
        let m : N ≡ suc (length (from s 1)) = omega (arith, from-length s 1 (omega arith)) in (
          rw (
            seen s 0 v l tt,
            length-head 26 N (omega arith),
            kind-head 26 N (omega arith),
            eq-eqb N (suc (length (from s 1))) m,
            r,
            from-none s N (omega arith),
          ) refl,
          g.good,
        )
    scheme-yes (scheme n t bs) (v, (e, (g, c)), l) =
        let r : readTy 64 (from s 1) ≡ some (t, from s e) = read s t 64 1 g.held g.deep ∙ ap (λ (k : ℕ). some (t, from s k)) (sym g.past) in
        let i : 0 < N = seen-in s 0 v tt in
        let m : N ≡ suc (length (from s 1)) = omega (arith, from-length s 1 (omega arith)) in
        let w : e ≤ N = omega (arith, g.past, ends-in s t 1 g.held) in
        let (p, h) = chain-read s readBound (goodOpen pool table n) (GoodBound pool table n s) (bound-reader s pool table n) bs (length (from s e)) e c
        (omega (arith, from-length s e w)) in
        (rw (seen s 0 v l tt, length-head 26 N (omega arith), kind-head 26 N (omega arith), eq-eqb N (suc (length (from s 1))) m, r, p) refl, rw (g.good, h))

    -- what stands before the bounds
    data Head : Scheme ℕ → List Rec → Type 0 where
      bounded : (n : ℕ) (t : Ty ℕ) (rest : List Rec) → Shows s 0 (view.Scheme n) → Found s 64 1 t rest → Head (scheme n t []) rest
      alone : (t : Ty ℕ) (rest : List Rec) → Shows s 0 view.Concrete → Found s 64 1 t rest → Head (concrete t) rest

    module _ (w : Words32 s) where
      abbrev quantified : ℕ → Reader (Scheme ℕ)
      quantified n = λ l. pass (readTy 64 l) (λ t. give (scheme n t []))

      abbrev simple : Reader (Scheme ℕ)
      simple = λ l. pass (readTy 64 l) (λ t. give (concrete t))

      abbrev heads : ℕ → ℕ → ℕ → ℕ → Reader (Scheme ℕ)
      heads k n b c = pick k ((26, unused (c ∷ []) (pick b ((0, quantified n) ∷ (1, unused (n ∷ []) simple) ∷ []))) ∷ [])

      head-found : (k n b c : ℕ) (rs : List Rec) → from s 0 ≡ rec k n b c ∷ rs → Reads (heads (kindIn k) n b c rs) Head
      unfolding shape_of plain all
      head-found k n b c rs e = picked (kindIn k) rs ((26, unused (c ∷ []) (pick b ((0, quantified n) ∷ (1, unused (n ∷ []) simple) ∷ []))) ∷ []) (
          (λ q. laws.plain (c ∷ []) (pick b ((0, quantified n) ∷ (1, unused (n ∷ []) simple) ∷ [])) rs
          (λ z. picked b rs ((0, quantified n) ∷ (1, unused (n ∷ []) simple) ∷ []) (
          (λ p. let (u, v) = here s 0 k n b c rs e (rw (q, p, z.0)) in rw v (then (found s w 64 1) (λ t rest i. given (bounded n t rest u i))))
          & (λ p. laws.plain (n ∷ []) simple rs
          (λ y. let (u, v) = here s 0 k n b c rs e (rw (q, p, z.0, y.0)) in rw v (then (found s w 64 1) (λ t rest i. given (alone t rest u i)))))
          & tt)))
          & tt)

      whole-bounds : (n : ℕ) (t : Ty ℕ) (rest : List Rec) (bs : List (tree.Open ℕ)) → Found s 64 1 t rest
          → read_all readBound (length rest) rest ≡ some bs → all (goodOpen pool table n) bs ≡ true
          → Chain (GoodBound pool table n s) (length s / 4) bs (1 + size t)
      whole-bounds n t rest bs f p g =
          let h : 1 + size t ≤ length s / 4 = ends-in s t 1 f.held in
          read-chain s readBound (goodOpen pool table n) (GoodBound pool table n s) (bound-reader s pool table n) (length rest) (1 + size t) bs h
          (ap (read_all readBound (length rest)) (sym f.place) ∙ p) g

      -- a scheme that was read, and is well formed, is there
      abbrev Right : Scheme ℕ → Type 0
      Right sc = goodScheme (table_of pool table) sc ≡ true → Long s 0 N → GoodScheme pool table s sc

      right-bounds : (n : ℕ) (t : Ty ℕ) (rest : List Rec) (bs : List (tree.Open ℕ)) → Shows s 0 (view.Scheme n) → Found s 64 1 t rest
          → read_all readBound (length rest) rest ≡ some bs → Right (scheme n t bs)
      unfolding goodScheme
      right-bounds n t rest bs u f p g l =
          let T' : Bool = goodTy pool table n t in
          let B : Bool = all (goodOpen pool table n) bs in (
            u,
            (
              1 + size t,
              (
                record { held = f.held; past = refl; deep = f.deep; good = both_left T' B g },
                whole-bounds n t rest bs f p (both_right T' B g),
              ),
            ),
            l,
          )

      right-alone : (t : Ty ℕ) (rest : List Rec) → Shows s 0 view.Concrete → Found s 64 1 t rest → read_all readBound (length rest) rest ≡ some []
          → Right (concrete t)
      unfolding goodScheme all
      right-alone t rest u f p g l = (u, record { held = f.held; past = sym (whole-bounds 0 t rest [] f p refl); deep = f.deep; good = g }, l)

      module _ (k n b c : ℕ) (rs : List Rec) (l : eqb (lengthIn k) (suc (length rs)) ≡ true) where
        is : {sc sd : Scheme ℕ} → schemeOf (rec k n b c ∷ rs) ≡ some sc → schemeOf (rec k n b c ∷ rs) ≡ some sd → Right sc → Right sd
        is {sc} {sd} p q r = let e : some sc ≡ some sd = sym p ∙ q in let i : sc ≡ sd = cc in subst Right i r

        finish : {sc : Scheme ℕ} {rest : List Rec} → Head sc rest → heads (kindIn k) n b c rs ≡ some (sc, rest) → (o : Option (List (tree.Open ℕ)))
            → read_all readBound (length rest) rest ≡ o → (sd : Scheme ℕ) → schemeOf (rec k n b c ∷ rs) ≡ some sd → Right sd
        unfolding schemeOf
        finish (bounded m t rest u f) p none q sd e = absurd-some {a = sd} (sym (rw (l, p, q)) ∙ e)
        finish (bounded m t rest u f) p (some bs) q sd e = is {sc = scheme m t bs} (rw (l, p, q)) e (right-bounds m t rest bs u f q)
        finish (alone t rest u f) p none q sd e = absurd-some {a = sd} (sym (rw (l, p, q)) ∙ e)
        finish (alone t rest u f) p (some []) q sd e = is {sc = concrete t} (rw (l, p, q)) e (right-alone t rest u f q)
        finish (alone t rest u f) p (some (o ∷ os)) q sd e = absurd-some {a = sd} (sym (rw (l, p, q)) ∙ e)

      -- the length of the whole list
      whole_long : (k n b c : ℕ) (rs : List Rec) → from s 0 ≡ rec k n b c ∷ rs → eqb (lengthIn k) (suc (length rs)) ≡ true → Long s 0 N
      unfolding longOf
      whole_long k n b c rs e l =
          let f = first s 0 (rec k n b c) rs e in
          let m : longAt s 0 ≡ lengthIn k = f.long in
          let y : length rs ≡ length (from s 1) = ap length f.rest in
          let i : 0 < N = f.inside in
          m ∙ omega (arith, eqb-true (lengthIn k) (suc (length rs)) l, y, from-length s 1 (omega arith))

      scheme-found : (l : List Rec) → from s 0 ≡ l → (sd : Scheme ℕ) → schemeOf l ≡ some sd → goodScheme (table_of pool table) sd ≡ true
          → GoodScheme pool table s sd
      unfolding schemeOf
      scheme-found [] e sd h g = absurd-some h
      scheme-found (rec k n b c ∷ rs) e sd h g = lasting (eqb (lengthIn k) (suc (length rs))) refl
        where
          go : eqb (lengthIn k) (suc (length rs)) ≡ true → (o : Option (Scheme ℕ × List Rec)) → heads (kindIn k) n b c rs ≡ o → Right sd
          go l none p = absurd-some {a = sd} (sym (rw (l, p)) ∙ h)
          go l (some (sc, rest)) p = finish k n b c rs l ((head-found k n b c rs e).holds sc rest p) p (read_all readBound (length rest) rest) refl sd h

          lasting : (x : Bool) → eqb (lengthIn k) (suc (length rs)) ≡ x → GoodScheme pool table s sd
          lasting true l = go l (heads (kindIn k) n b c rs) refl g (whole_long k n b c rs e l)
          lasting false l = absurd-some {a = sd} (sym (rw l) ∙ h)

module _ (pool table ws : List ℕ) (e : aloneGiven pool table ws ≡ got (tt {0})) (w : Words32 ws) where
  abbrev tested : Got (Unit {0})
  tested = schemeGiven (table_of pool table) ws >> got (tt {0})

  scheme-passes : (sc : Scheme ℕ) → length ws % 4 ≡ 0 → GoodScheme pool table ws sc → tested ≡ got (tt {0})
  unfolding schemeGiven
  scheme-passes sc h g = let (p, q) = scheme-yes ws pool table sc g in rw (records-whole ws h, p, q)

  scheme-not : length ws % 4 ≡ 0 → There (GoodScheme pool table ws) false → tested ≡ refused 1
  unfolding schemeGiven recs from
  scheme-not h f = go (schemeOf (recs ws)) refl
    where
      good : (sc : Scheme ℕ) → schemeOf (recs ws) ≡ some sc → (b : Bool) → goodScheme (table_of pool table) sc ≡ b → tested ≡ refused 1
      good sc p true q = absurd (f sc (scheme-found ws pool table w (recs ws) refl sc p q))
      good sc p false q = rw (records-whole ws h, p, q)

      go : (o : Option (Scheme ℕ)) → schemeOf (recs ws) ≡ o → tested ≡ refused 1
      go none p = rw (records-whole ws h, p)
      go (some sc) p = good sc p (goodScheme (table_of pool table) sc) refl

  scheme-broken : ((length ws % 4 ≡ 0) → ⊥) → tested ≡ refused 1
  unfolding schemeGiven
  scheme-broken h = rw (records-broken ws h)

  pub scheme-told : (b : Bool) → There (GoodScheme pool table ws) b → schemeCall pool table ws ≡ need (eqb (length ws % 4) 0 && b) 1
  unfolding schemeCall
  scheme-told b h = rw e (go (eqb (length ws % 4) 0) refl b h)
    where
      go : (m : Bool) → eqb (length ws % 4) 0 ≡ m → (b : Bool) → There (GoodScheme pool table ws) b → tested ≡ need (m && b) 1
      go false q b h = scheme-broken (eqb-false (length ws % 4) 0 q)
      go true q true h = scheme-passes h.0 (eqb-true (length ws % 4) 0 q) h.1
      go true q false h = scheme-not (eqb-true (length ws % 4) 0 q) h

-- ══ What is given is held ══

module _ (pool table ws : List ℕ) (w : Words32 ws) where
  pub scheme-given : (sc : Scheme ℕ) → length ws % 4 ≡ 0 → GoodScheme pool table ws sc → schemeGiven (table_of pool table) ws ≡ got sc
  unfolding schemeGiven
  scheme-given sc h g = let (p, q) = scheme-yes ws pool table sc g in rw (records-whole ws h, p, q)

  pub scheme-is : (sc : Scheme ℕ) → schemeGiven (table_of pool table) ws ≡ got sc → GoodScheme pool table ws sc
  unfolding schemeGiven recs from
  scheme-is sc h = go (eqb (length ws % 4) 0) refl
    where
      no : {B : Type 0} → refused 1 ≡ got sc → B
      no e = absurd (cc)

      good : length ws % 4 ≡ 0 → (sd : Scheme ℕ) → schemeOf (recs ws) ≡ some sd → (b : Bool) → goodScheme (table_of pool table) sd ≡ b
          → GoodScheme pool table ws sc
      good m sd p true q =
          let i : got sd ≡ got sc = sym (rw (records-whole ws m, p, q)) ∙ h in
          let j : sd ≡ sc = cc in
          subst (GoodScheme pool table ws) j (scheme-found ws pool table w (recs ws) refl sd p q)
      good m sd p false q = no (sym (rw (records-whole ws m, p, q)) ∙ h)

      read : length ws % 4 ≡ 0 → (o : Option (Scheme ℕ)) → schemeOf (recs ws) ≡ o → GoodScheme pool table ws sc
      read m none p = no (sym (rw (records-whole ws m, p)) ∙ h)
      read m (some sd) p = good m sd p (goodScheme (table_of pool table) sd) refl

      go : (b : Bool) → eqb (length ws % 4) 0 ≡ b → GoodScheme pool table ws sc
      go true q = let m = eqb-true (length ws % 4) 0 q in read m (schemeOf (recs ws)) refl
      go false q = no (sym (rw (records-broken ws (eqb-false (length ws % 4) 0 q))) ∙ h)
