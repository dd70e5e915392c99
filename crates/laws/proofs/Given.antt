-- What the checks at entry leave to know: how much was lent, that the table is good, and that a set that was read is well formed and no longer than its words.
use Rattle.std.proofs.Math.Path.{◌≡◌, refl, ap, sym}
use Rattle.std.proofs.Common.{subst, arith}
use Rattle.std.specs.Prelude.{List, [], ◌∷◌, ℕ, zero, suc, ◌*◌, ◌≤◌}
use Rattle.std.proofs.Math.Bool.{true}
use Rattle.std.proofs.Math.Option.{Option, none, some}
use borrow.Author.Tests.{leb-true}
use Rattle.std.proofs.Math.Dec.{leb}
use Rattle.std.proofs.Math.ListN.{length}
use Rattle.rules.specs.Base.{got, need, orRefuse, all}
use Rattle.rules.specs.Trees.{Con}
use Rattle.rules.specs.Names.{Table, tableGood, numbersOf, is_held, lentTable}
use Rattle.rules.specs.Writing.{Rec, rec}
use Rattle.rules.specs.Reading.{Reader, readCon, read_all, records}
use Rattle.rules.specs.WellFormed.{goodCon}
use Rattle.rules.specs.Calls.{listGiven, setGiven, tableKept}
use Rattle.laws.proofs.Checks.{need-passed}
use Rattle.laws.specs.Lists.{and_left, and_right}
use Rattle.laws.proofs.Lists.{some≢none, bound-step}

pub lent-long : (pool table : List ℕ) (u : Unit {0}) → lentTable pool table ≡ got u → (8192 ≤ length pool) × (257 ≤ length table)
unfolding lentTable
lent-long pool table u e =
    let h = need-passed _ 10 e in
    (leb-true 8192 (length pool) (and_left (leb 8192 (length pool)) _ h), leb-true 257 (length table) (and_right (leb 8192 (length pool)) _ h))

pub kept-good : (t : Table) (u : Unit {0}) → tableKept t ≡ got u → tableGood t ≡ true
unfolding tableKept
kept-good t u e = need-passed (tableGood t) 1 e

-- ══ As many constraints as records, or fewer ══

pub records-few : (ws : List ℕ) (rs : List Rec) → records ws ≡ some rs → length rs * 4 ≤ length ws
unfolding records
records-few [] rs e = let z : [] ≡ rs = cc in rw (sym z) (omega arith)
records-few (k ∷ []) rs e = absurd (some≢none (sym e))
records-few (k ∷ a ∷ []) rs e = absurd (some≢none (sym e))
records-few (k ∷ a ∷ b ∷ []) rs e = absurd (some≢none (sym e))
records-few (k ∷ a ∷ b ∷ c ∷ ws) rs e = go (records ws) refl (records-few ws)
  where
    go : (o : Option (List Rec)) → records ws ≡ o → ((qs : List Rec) → records ws ≡ some qs → length qs * 4 ≤ length ws)
        → length rs * 4 ≤ length (k ∷ a ∷ b ∷ c ∷ ws)
    go none i r = let z : none ≡ some rs = rw (i, records) at e in absurd (some≢none (sym z))
    go (some qs) i r = let z : some (rec k a b c ∷ qs) ≡ some rs = rw (i, records) at e in let y : rec k a b c ∷ qs ≡ rs = cc
        in rw (sym y) (omega (arith, r qs i))

pub read-few : {A : Type 0} (r : Reader A) (n : ℕ) (rs : List Rec) (as' : List A) → read_all r n rs ≡ some as' → length as' ≤ n
unfolding read_all
read-few r zero [] as' e = let z : [] ≡ as' = cc in rw (sym z) (omega arith)
read-few r zero (x ∷ xs) as' e = absurd (some≢none (sym e))
read-few r (suc n) [] as' e = let z : [] ≡ as' = cc in rw (sym z) (omega arith)
read-few {A} r (suc n) (x ∷ xs) as' e = go (r (x ∷ xs)) refl (read-few r n)
  where
    more : (v : A × List Rec) → r (x ∷ xs) ≡ some v → ((qs : List Rec) (bs : List A) → read_all r n qs ≡ some bs → length bs ≤ n)
        → (p : Option (List A)) → read_all r n v.1 ≡ p → length as' ≤ suc n
    more v i again none j = let z : none ≡ some as' = rw (i, read_all, j) at e in absurd (some≢none (sym z))
    more v i again (some bs) j = let z : some (v.0 ∷ bs) ≡ some as' = rw (i, read_all, j) at e in let y : v.0 ∷ bs ≡ as' = cc
        in rw (sym y) (omega (arith, again v.1 bs j))

    go : (o : Option (A × List Rec)) → r (x ∷ xs) ≡ o → ((qs : List Rec) (bs : List A) → read_all r n qs ≡ some bs → length bs ≤ n) → length as' ≤ suc n
    go none i again = let z : none ≡ some as' = rw (i, read_all) at e in absurd (some≢none (sym z))
    go (some v) i again = more v i again (read_all r n v.1) refl

pub or-some : {A : Type 0} (n : ℕ) (o : Option A) (a : A) → orRefuse n o ≡ got a → o ≡ some a
or-some n none a e = absurd (cc)
or-some n (some b) a e = let z : b ≡ a = cc in ap some z

-- what was read is well formed, and isn't more than what was lent
pub set-read : (t : Table) (ws : List ℕ) (cs : List (Con ℕ)) → setGiven t ws ≡ got cs
    → (all (goodCon (numbersOf t) (is_held t) 0) cs ≡ true) × (length cs * 4 ≤ length ws)
unfolding setGiven listGiven
set-read t ws cs e =
    let a = bound-step (orRefuse 1 (records ws)) _ cs e in
    let b = bound-step (orRefuse 1 (read_all readCon (length a.0) a.0)) _ cs a.2 in
    let c = bound-step (need (all (goodCon (numbersOf t) (is_held t) 0) b.0) 1) _ cs b.2 in
    let z : b.0 ≡ cs = cc c.2 in
    let good = need-passed (all (goodCon (numbersOf t) (is_held t) 0) b.0) 1 c.1 in (
      subst (λ (l : List (Con ℕ)). all (goodCon (numbersOf t) (is_held t) 0) l ≡ true) z good,
      subst (λ (l : List (Con ℕ)). length l * 4 ≤ length ws) z
          (omega (arith, read-few readCon (length a.0) a.0 b.0 (or-some 1 _ b.0 b.1), records-few ws a.0 (or-some 1 (records ws) a.0 a.1))),
    )
