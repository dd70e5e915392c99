-- Other lent names, on the words of a call.
use Rattle.std.specs.Prelude.{◌≡◌, true, ◌⊎◌, ℕ, ◌*◌, ◌≤◌, leb}
use Rattle.std.proofs.Math.Path.{refl, ap, ap₂, sym, subst}
use Rattle.std.proofs.Common.{◌∙◌, arith}
use Rattle.std.proofs.Math.Logic.{inl, inr}
use mathlib.Core.List.{List, [], ◌∷◌, Memᴰ}
use borrow.Author.Tests.{leb-true}
use Rattle.std.proofs.Math.ListN.{length}
use Rattle.rules.specs.Base.{Got, got, refused, ◌>>=◌, ◌>>◌, need, bounded, all}
use Rattle.rules.specs.Trees.{Ty, Binding}
use Rattle.rules.specs.Names.{Table, table_of, numbersOf, is_held, tableGiven}
use Rattle.rules.specs.Judging.{judge}
use Rattle.laws.proofs.NameTable.{given-good}
use Rattle.theorems_soundness.proofs.Words.{numbers-ordered}
use Rattle.rules.specs.Writing.{Rec, writeTy}
use Rattle.rules.specs.Calls.{lent, shortLists, shortNumbers, tableKept, differ, Written, writing, resultAfter}
use Rattle.laws.proofs.Checks.{need-passed}
use Rattle.laws.specs.Lists.{and_left, All, all-is, all_cons, all_nil, in_head}
use Rattle.laws.proofs.Lists.{bound-step}
use Rattle.theorems_soundness.specs.Claims.{Ordered, Once, YesOrLimits}
use Rattle.rules.specs.Steps.{LineStep, lineGiven}
use Rattle.rules.specs.Lines.{constraints, settledSet, fresh, lineLent, lineShort, checkedLine, lineType, checkLineCall}
use Rattle.theorems_lines.specs.Claims.{closedLine}
use Rattle.theorems_lines.proofs.Read.{once, line_read}
use Rattle.theorems_lines.proofs.Beginning.{firsts, seconds, Lent}
use Rattle.theorems_lines.proofs.Words.{ready, set-settled}
use Rattle.theorems_lines.proofs.NoEleven as Eleven

-- ══ Two lists of lent names ══

-- the names of two lists, side by side
pub paired : List ℕ → List ℕ → List (ℕ × ℕ)
paired [] ys = []
paired (x ∷ xs) [] = []
paired (x ∷ xs) (y ∷ ys) = (x, y) ∷ paired xs ys

pub firsts-paired : (xs ys : List ℕ) → length xs ≡ length ys → firsts (paired xs ys) ≡ xs
unfolding paired
firsts-paired [] ys e = refl
firsts-paired (x ∷ xs) [] e = absurd (omega arith)
firsts-paired (x ∷ xs) (y ∷ ys) e = ap (λ (l : List ℕ). x ∷ l) (firsts-paired xs ys (omega arith))

pub seconds-paired : (xs ys : List ℕ) → length xs ≡ length ys → seconds (paired xs ys) ≡ ys
unfolding paired
seconds-paired [] [] e = refl
seconds-paired [] (y ∷ ys) e = absurd (omega arith)
seconds-paired (x ∷ xs) [] e = absurd (omega arith)
seconds-paired (x ∷ xs) (y ∷ ys) e = ap (λ (l : List ℕ). y ∷ l) (seconds-paired xs ys (omega arith))

pub lents : (t : Table) (order : Ordered (numbersOf t) (is_held t)) (ps : List (ℕ × ℕ)) (xs ys : List ℕ) → All (λ x. is_held t x ≡ true) xs
    → All (λ y. is_held t y ≡ true) ys → All (λ p. Memᴰ p ps) (paired xs ys)
    → All (Lent (numbersOf t) (is_held t) order ps) (paired xs ys)
unfolding paired
lents t order ps [] ys h k m = all_nil _
lents t order ps (x ∷ xs) [] h k m = all_nil _
lents t order ps (x ∷ xs) (y ∷ ys) h k m =
    all_cons _ (record { listed = m (x, y) in_head; first-held = h x in_head; second-held = k y in_head })
    (lents t order ps xs ys (λ z i. h z (Memᴰ.tail i)) (λ z i. k z (Memᴰ.tail i)) (λ p i. m p (Memᴰ.tail i)))

pub few : (a b : ℕ) → a * 4 ≤ b * 4 → a ≤ b
few a b h = omega arith

-- ══ The call with either list ══

module _ (pool table steps types lines result work : List ℕ) (ss : List (LineStep ℕ)) (read : lineGiven (table_of pool table) steps types lines ≡ got ss) where
  abbrev t : Table
  t = table_of pool table

  abbrev room : List ℕ → Got (Unit {0})
  room ns = lineLent pool table steps ns result work

  abbrev Outcome : List ℕ → Written
  Outcome ns = checkLineCall pool table steps types lines ns result work

  abbrev Met : Written → Type 0
  Met w = (w.answer ≡ refused 7) ⊎ (w.answer ≡ refused 8)

  abbrev Met' : Got (Ty ℕ) → Type 0
  Met' m = (m ≡ refused 7) ⊎ (m ≡ refused 8)

  -- what is left of the call once the line was read and its names are fresh and held
  abbrev rest : Got (Unit {0}) → Got (Ty ℕ) → Got (List Rec)
  rest short m = short >>= λ _. tableKept t >>= λ _. m >>= λ ty. got (writeTy ty)

  pub checked : (names : List ℕ) → fresh names ss ≡ true → all (is_held t) names ≡ true
      → checkedLine t steps types lines names ≡ rest (lineShort steps types lines names) (lineType (numbersOf t) ss names)
  unfolding checkedLine
  checked names new known = rw (read, new, known)

  module _ (names names' : List ℕ) (as_long : length names ≡ length names') where
    room-same : room names ≡ room names'
    unfolding lineLent
    room-same = ap (λ (k : ℕ). lent pool table result work >> need (leb (length steps) (k * 4)) 10) as_long

    short-same : lineShort steps types lines names ≡ lineShort steps types lines names'
    unfolding lineShort shortNumbers
    short-same = ap (λ (k : ℕ). need (leb (length steps) 512) 8 >> shortLists (types ∷ []) >> need (leb (length lines) 2048) 8 >> need (leb k 2048) 8) as_long

    module _ (new : fresh names ss ≡ true) (new' : fresh names' ss ≡ true) (known : all (is_held t) names ≡ true) (known' : all (is_held t) names' ≡ true) where
      -- a limit that the line's type meets is met by the call, unless an earlier check is refused
      met : (ns : List ℕ) → fresh ns ss ≡ true → all (is_held t) ns ≡ true → (u : Unit {0}) → room ns ≡ got u → (w : Unit {0})
          → lineShort steps types lines ns ≡ got w → tableKept t ≡ got tt → Met' (lineType (numbersOf t) ss ns) → Met (Outcome ns)
      unfolding checkLineCall writing
      met ns f h u r w s k (inl i) = inl (rw (r, checked ns f h ∙ ap₂ rest s i, k))
      met ns f h u r w s k (inr i) = inr (rw (r, checked ns f h ∙ ap₂ rest s i, k))

      refused-same : (n : ℕ) → lineShort steps types lines names ≡ refused n → Outcome names ≡ Outcome names'
      unfolding checkLineCall
      refused-same n e =
          ap₂ (λ (m : Got (Unit {0})) (l : Got (List Rec)). writing m l result work) room-same
          (checked names new known ∙ ap (λ (g : Got (Unit {0})). rest g (lineType (numbersOf t) ss names)) e
          ∙ sym (checked names' new' known' ∙ ap (λ (g : Got (Unit {0})). rest g (lineType (numbersOf t) ss names')) (sym short-same ∙ e)))

      type-same : lineType (numbersOf t) ss names ≡ lineType (numbersOf t) ss names' → Outcome names ≡ Outcome names'
      unfolding checkLineCall
      type-same i = ap₂ (λ (m : Got (Unit {0})) (l : Got (List Rec)). writing m l result work) room-same
          (checked names new known ∙ ap₂ rest short-same i ∙ sym (checked names' new' known'))

      room-refused : (n : ℕ) → room names ≡ refused n → Outcome names ≡ Outcome names'
      unfolding checkLineCall writing resultAfter
      room-refused n e = rw (e, sym room-same ∙ e)

      -- the two outcomes, by what becomes of the types
      both-outcomes : tableKept t ≡ got tt → (u : Unit {0}) → room names ≡ got u
          → (lineType (numbersOf t) ss names ≡ lineType (numbersOf t) ss names')
          ⊎ (Met' (lineType (numbersOf t) ss names) ⊎ Met' (lineType (numbersOf t) ss names'))
          → (Outcome names ≡ Outcome names') ⊎ (Met (Outcome names) ⊎ Met (Outcome names'))
      both-outcomes k u r (inl i) = inl (type-same i)
      both-outcomes k u r (inr i) = go (lineShort steps types lines names) refl i
        where
          go : (m : Got (Unit {0})) → lineShort steps types lines names ≡ m
              → Met' (lineType (numbersOf t) ss names) ⊎ Met' (lineType (numbersOf t) ss names')
              → (Outcome names ≡ Outcome names') ⊎ (Met (Outcome names) ⊎ Met (Outcome names'))
          go (refused n) e i = inl (refused-same n e)
          go (got w) e (inl i) = inr (inl (met names new known u r w e k i))
          go (got w) e (inr i) = inr (inr (met names' new' known' u (sym room-same ∙ r) w (sym short-same ∙ e) k i))

      pub lent-names : tableGiven pool table ≡ got tt → closedLine ss ≡ true → (Outcome names ≡ Outcome names') ⊎ (Met (Outcome names) ⊎ Met (Outcome names'))
      unfolding fresh lineLent tableKept
      lent-names g c = go (room names) refl
        where
          go : (m : Got (Unit {0})) → room names ≡ m → (Outcome names ≡ Outcome names') ⊎ (Met (Outcome names) ⊎ Met (Outcome names'))
          go (refused n) e = inl (room-refused n e)
          go (got u) e =
              let good = given-good g in
              let order = numbers-ordered pool table good in
              let r = line_read t order steps types lines ss read in
              let q = bound-step (lent pool table result work) _ u e in
              let many = leb-true (length steps) (length names * 4) (need-passed (leb (length steps) (length names * 4)) 10 q.2) in
              let ps = paired names names' in
              let i : firsts ps ≡ names = firsts-paired names names' as_long in
              let j : seconds ps ≡ names' = seconds-paired names names' as_long in
              let l = lents t order ps names names' (all-is (is_held t) names known) (all-is (is_held t) names' known') (λ p m. m) in
              let o : Once (firsts ps) = subst Once (sym i) (once names (and_left (differ names) _ new)) in
              let o' : Once (seconds ps) = subst Once (sym j) (once names' (and_left (differ names') _ new')) in
              let long : length ss ≤ length (firsts ps) = subst (λ (k : List ℕ). length ss ≤ length k) (sym i)
              (few (length ss) (length names) (rw r.long at many)) in
              let a = Eleven.same-but-limits (numbersOf t) (is_held t) order ps o o' l ss r.formed
              (ready (numbersOf t) (is_held t) order ss r.formed c) r.complete long in
              let b = subst (λ (k : List ℕ). (lineType (numbersOf t) ss k ≡ lineType (numbersOf t) ss (seconds ps))
              ⊎ (Met' (lineType (numbersOf t) ss k) ⊎ Met' (lineType (numbersOf t) ss (seconds ps)))) i a in
              let d = subst (λ (k : List ℕ). (lineType (numbersOf t) ss names ≡ lineType (numbersOf t) ss k)
              ⊎ (Met' (lineType (numbersOf t) ss names) ⊎ Met' (lineType (numbersOf t) ss k))) j b in
              both-outcomes (rw good.good) u e d

-- ══ The judge's no ══

module _ (pool table steps types lines names : List ℕ) (table-good : tableGiven pool table ≡ got tt) where
  abbrev T : Table
  T = table_of pool table

  pub never-no : (ss : List (LineStep ℕ)) → lineGiven T steps types lines ≡ got ss → closedLine ss ≡ true → differ names ≡ true → all (is_held T) names ≡ true
      → (f : List (Binding ℕ) × List ℕ) → settledSet (numbersOf T) (constraints (numbersOf T) names [] ss) ≡ got f
      → YesOrLimits (judge (numbersOf T) bounded f.0 f.1 (constraints (numbersOf T) names [] ss))
  never-no ss read c apart known f e =
      let order = numbers-ordered pool table (given-good table-good) in
      let r = line_read T order steps types lines ss read in
      let ps = paired names names in
      let i : firsts ps ≡ names = firsts-paired names names refl in
      let j : seconds ps ≡ names = seconds-paired names names refl in
      let h = all-is (is_held T) names known in
      let l = lents T order ps names names h h (λ q m. m) in
      let o : Once (firsts ps) = subst Once (sym i) (once names apart) in
      let o' : Once (seconds ps) = subst Once (sym j) (once names apart) in
      let s = set-settled (numbersOf T) (constraints (numbersOf T) (firsts ps) [] ss) f
      (subst (λ (k : List ℕ). settledSet (numbersOf T) (constraints (numbersOf T) k [] ss) ≡ got f) (sym i) e) in
      let a = Eleven.never-no (numbersOf T) (is_held T) order ps o o' l ss r.formed (ready (numbersOf T) (is_held T) order ss r.formed c) f.0 f.1 s.0 s.1 s.2 in
      subst (λ (k : List ℕ). YesOrLimits (judge (numbersOf T) bounded f.0 f.1 (constraints (numbersOf T) k [] ss))) i a
