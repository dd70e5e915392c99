-- Entries that are given as the rules ask, and what their slots say.
use Rattle.std.specs.Prelude.{◌≡◌, Bool, ◌&&◌, ℕ, zero, suc, ◌+◌, ◌/◌, ◌%◌, ◌<◌, ltb, length, get_or, drop}
use Rattle.std.proofs.Math.Path.{refl, ap, subst}
use Rattle.std.proofs.Common.{sym, ◌∙◌, add-zero, arith}
use Rattle.std.proofs.Math.Bool.{true, false}
use mathlib.Core.List.{List, [], ◌∷◌, map}
use Rattle.std.proofs.Math.Option.{Option, none, some}
use borrow.Author.Tests.{eqb-true, eqb-false, ltb-true, ltb-false, lt-ltb}
use Rattle.std.proofs.Math.Dec.{eqb}
use Rattle.rules.specs.Base.{got, refused, ◌>>=◌, ◌>>◌, need, orRefuse, and_then, all, each}
use Rattle.rules.specs.Trees.{Names, Ty, Binding, ◌≔◌}
use Rattle.rules.specs.Names.{Table, table_of, is_held}
use Rattle.rules.specs.Writing.{Rec}
use Rattle.rules.specs.Reading.{readTy}
use Rattle.rules.specs.Replacing.{find}
use Rattle.rules.specs.Calls.{Entry, differ, numbersGiven, type_at, bindingOf, entriesGiven}
use Rattle.laws.proofs.NameTable.{held-is}
use Rattle.laws.proofs.Checks.{need-passed, first-passed, next-passed}
use Rattle.laws.specs.Lists.{and_left}
use Rattle.laws.proofs.Lists.{got≢refused, is-no, bound-step, each-parts, is-yes}
use Rattle.records.specs.Views.{recs, from}
use Rattle.records.specs.Places.{from-none, from_some}
use Rattle.records.specs.Found.{Words32}
use Rattle.records.specs.Given.{records-whole, records-broken}
use Rattle.records.proofs.Given.{from_start, type-reader}
use Rattle.rules.specs.WellFormed as rules
use Rattle.records.specs.Good.{numbers, goodTy, goodBinding, GoodTy}
use Rattle.judge_entries.specs.Entries.{variablesOf, place_of, slot_of}
use Rattle.judge_entries.proofs.Entries.{variableOf}
use Rattle.judge_entries.specs.Tables.{Fits}
use Rattle.judge_entries.proofs.Counting.{Below, First}

-- ══ The type at a place ══

from-drop : (s : List ℕ) (at i : ℕ) → drop i (from s at) ≡ from s (at + i)
from-drop s at zero = rw (add-zero at)
from-drop s at (suc i) = go (ltb at (length s / 4)) refl (from-drop s (at + 1) i)
  where
    go : (b : Bool) → ltb at (length s / 4) ≡ b → drop i (from s (at + 1)) ≡ from s (at + 1 + i) → drop (suc i) (from s at) ≡ from s (at + suc i)
    go true q ih =
        let e : at + 1 + i ≡ at + suc i = omega arith in
        ap (drop (suc i)) (from_some s at (ltb-true at (length s / 4) q)) ∙ ih ∙ ap (from s) e
    go false q ih =
        let l = ltb-false at (length s / 4) q in
        ap (drop (suc i)) (from-none s at (omega (arith, l))) ∙ sym (from-none s (at + suc i) (omega (arith, l)))

module _ (pool table types : List ℕ) where
  abbrev t : Table
  t = table_of pool table

  -- the records of the list
  abbrev rs : List Rec
  rs = recs types

  records-at : (at : ℕ) → drop at rs ≡ from types at
  records-at at = ap (drop at) (sym (from_start types)) ∙ from-drop types 0 at ∙ ap (from types) (zero-plus at)
    where
      zero-plus : (n : ℕ) → 0 + n ≡ n
      zero-plus n = omega arith

  module _ (w : Words32 types) where
    pub type-there : (at : ℕ) (ty : Ty ℕ) (e : ℕ) → GoodTy pool table 0 types 64 at ty e → type_at t rs at ≡ got ty
    unfolding type_at
    type-there at ty e g = rw (records-at at, (type-reader pool table types w).reads at ty e g, g.good)

    pub type-is : (at : ℕ) (ty : Ty ℕ) → type_at t rs at ≡ got ty → (e : ℕ) × GoodTy pool table 0 types 64 at ty e
    unfolding type_at
    type-is at ty h = go (readTy 64 (from types at)) refl (rw (records-at at) at h)
      where
        no : {B : Type 0} → refused 1 ≡ got ty → B
        no e = absurd (got≢refused (sym e))

        tested : (u : Ty ℕ) (rest : List Rec) → readTy 64 (from types at) ≡ some (u, rest) → (b : Bool) → goodTy pool table 0 u ≡ b
            → (need b 1 >> got u) ≡ got ty → (e : ℕ) × GoodTy pool table 0 types 64 at ty e
        tested u rest p true q h =
            let i : u ≡ ty = cc in
            let (e, (g, k)) = (type-reader pool table types w).finds at u rest p q in
            (e, subst (λ (x : Ty ℕ). GoodTy pool table 0 types 64 at x e) i g)
        tested u rest p false q h = no h

        go : (o : Option (Ty ℕ × List Rec)) → readTy 64 (from types at) ≡ o
            → (orRefuse 1 (and_then o (λ r. some r.0)) >>= λ ty. need (goodTy pool table 0 ty) 1 >> got ty) ≡ got ty → (e : ℕ)
            × GoodTy pool table 0 types 64 at ty e
        go none p h = no h
        go (some v) p h = tested v.0 v.1 p (goodTy pool table 0 v.0) refl h

  type-good : (at : ℕ) (ty : Ty ℕ) → type_at t rs at ≡ got ty → goodTy pool table 0 ty ≡ true
  unfolding type_at
  type-good at ty h =
      let (u, g, q) = bound-step (orRefuse 1 (and_then (readTy 64 (drop at rs)) (λ r. some r.0))) (λ u. need (goodTy pool table 0 u) 1 >> got u) ty h in
      let i : got u ≡ got ty = next-passed (got u) ty (need (goodTy pool table 0 u) 1) q in
      let j : u ≡ ty = cc in
      rw (← j) (need-passed (goodTy pool table 0 u) 1 (first-passed (got u) ty (need (goodTy pool table 0 u) 1) q))

  -- ══ The binding of an entry ══

  abbrev n : ℕ
  n = get_or table 0 0

  record Binds (e : Entry) (b : Binding ℕ) : Type 0 where
    type : Ty ℕ
    held : e.variable < n
    at : type_at t rs e.place ≡ got type
    is : b ≡ (e.variable ≔ type)

  holds : (x : ℕ) → x < n → numbersGiven t (x ∷ []) ≡ got tt
  unfolding numbersGiven all
  holds x h = rw (held-is pool table x ∙ lt-ltb x n h)

  held_of : (x : ℕ) → numbersGiven t (x ∷ []) ≡ got tt → x < n
  unfolding numbersGiven all
  held_of x h = ltb-true x n (sym (held-is pool table x) ∙ and_left (is_held t x) true (need-passed (is_held t x && true) 1 h))

  binding-is : (e : Entry) (b : Binding ℕ) → bindingOf t rs e ≡ got b → Binds e b
  unfolding bindingOf
  binding-is e b h =
      let (ty, g, q) = bound-step (type_at t rs e.place) (λ ty. got (e.variable ≔ ty)) b (next-passed _ b (numbersGiven t (e.variable ∷ [])) h) in
      record { type = ty; held = held_of e.variable (first-passed _ b (numbersGiven t (e.variable ∷ [])) h); at = g; is = cc }

  binding-there : (e : Entry) (ty : Ty ℕ) → e.variable < n → type_at t rs e.place ≡ got ty → bindingOf t rs e ≡ got (e.variable ≔ ty)
  unfolding bindingOf
  binding-there e ty h g = rw (holds e.variable h, g)

  -- ══ Looking up a binding is looking up an entry ══

  -- no place and no type, or the type at the place
  abbrev pub Agrees : Option ℕ → Option (Ty ℕ) → Type 0
  Agrees none none = Unit {0}
  Agrees none (some ty) = ⊥
  Agrees (some at) none = ⊥
  Agrees (some at) (some ty) = type_at t rs at ≡ got ty

  abbrev ν : Names ℕ
  ν = numbers pool table

  found : (y : ℕ) (ty : Ty ℕ) (bs : List (Binding ℕ)) (x : ℕ) → y ≡ x → find ν (y ≔ ty ∷ bs) x ≡ some ty
  unfolding find
  found y ty bs x e = rw (is-yes (ν.same x y) (sym e), find)

  passed : (y : ℕ) (ty : Ty ℕ) (bs : List (Binding ℕ)) (x : ℕ) → (y ≡ x → ⊥) → find ν (y ≔ ty ∷ bs) x ≡ find ν bs x
  unfolding find
  passed y ty bs x f = rw (is-no (ν.same x y) (λ e. f (sym e)), find)

  pub agrees : (es : List Entry) (bs : List (Binding ℕ)) → each (bindingOf t rs) es ≡ got bs → (x : ℕ) → Agrees (place_of es x) (find ν bs x)
  unfolding each find
  agrees [] bs h x =
      let q : [] ≡ bs = cc in
      subst (λ (cs : List (Binding ℕ)). Agrees none (find ν cs x)) q tt
  agrees (e ∷ es) bs h x =
      let p = each-parts (bindingOf t rs) e es bs h in
      let b = binding-is e p.first p.gave in
      let q : (e.variable ≔ b.type) ∷ p.second ≡ bs = ap (λ (c : Binding ℕ). c ∷ p.second) (sym b.is) ∙ p.both in
      subst (λ (cs : List (Binding ℕ)). Agrees (place_of (e ∷ es) x) (find ν cs x)) q
      (go b.type p.second b.at (agrees es p.second p.then x) (eqb e.variable x) refl)
    where
      go : (ty : Ty ℕ) (cs : List (Binding ℕ)) → type_at t rs e.place ≡ got ty → Agrees (place_of es x) (find ν cs x) → (b : Bool)
          → eqb e.variable x ≡ b → Agrees (place_of (e ∷ es) x) (find ν (e.variable ≔ ty ∷ cs) x)
      go ty cs g ih true q = rw (q, found e.variable ty cs x (eqb-true e.variable x q)) g
      go ty cs g ih false q = rw (q, passed e.variable ty cs x (eqb-false e.variable x q)) ih

  pub held_all : (es : List Entry) (bs : List (Binding ℕ)) → each (bindingOf t rs) es ≡ got bs → Below n es
  held_all [] bs h = tt
  held_all (e ∷ es) bs h =
      let p = each-parts (bindingOf t rs) e es bs h in
      ((binding-is e p.first p.gave).held, held_all es p.second p.then)

  pub good-all : (es : List Entry) (bs : List (Binding ℕ)) → each (bindingOf t rs) es ≡ got bs → all (goodBinding pool table 0) bs ≡ true
  unfolding each all rules.goodBinding
  good-all [] bs h = let q : [] ≡ bs = cc in rw (← q)
  good-all (e ∷ es) bs h =
      let p = each-parts (bindingOf t rs) e es bs h in
      let b = binding-is e p.first p.gave in
      let i : is_held t e.variable ≡ true = held-is pool table e.variable ∙ lt-ltb e.variable n b.held in
      rw (← p.both, b.is, i, type-good e.place b.type b.at, good-all es p.second p.then)

  -- the bindings are of the entries' variables
  pub same-variables : (es : List Entry) (bs : List (Binding ℕ)) → each (bindingOf t rs) es ≡ got bs → map variableOf bs ≡ variablesOf es
  unfolding each
  same-variables [] bs h = let q : [] ≡ bs = cc in rw (← q)
  same-variables (e ∷ es) bs h =
      let p = each-parts (bindingOf t rs) e es bs h in
      let b = binding-is e p.first p.gave in
      rw (← p.both, b.is, same-variables es p.second p.then)

  pub bindings-there : Words32 types → (fs : List Entry) → ((x : ℕ) → x < 256 → Fits pool table types x (slot_of (place_of fs x)))
      → (es : List Entry) → Below 256 es → First fs es → (bs : List (Binding ℕ)) × (each (bindingOf t rs) es ≡ got bs)
  unfolding each
  bindings-there w fs fits [] b p = ([], refl)
  bindings-there w fs fits (e ∷ es) b p =
      let (held, (ty, (k, g))) = fits e.variable b.0 e.place (ap slot_of p.0) in
      let (bs, q) = bindings-there w fs fits es b.1 p.1 in
      ((e.variable ≔ ty) ∷ bs, rw (binding-there e ty held (type-there w e.place ty k g), q))

  -- ══ Entries as a whole ══

  pub record Parts (es : List Entry) (bs : List (Binding ℕ)) : Type 0 where
    pub whole : length types % 4 ≡ 0
    pub once : differ (variablesOf es) ≡ true
    pub bound : each (bindingOf t rs) es ≡ got bs

  pub parts : (es : List Entry) (bs : List (Binding ℕ)) → entriesGiven t es types ≡ got bs → Parts es bs
  unfolding entriesGiven
  parts es bs h = go (eqb (length types % 4) 0) refl
    where
      go : (b : Bool) → eqb (length types % 4) 0 ≡ b → Parts es bs
      go true q =
          let m = eqb-true (length types % 4) 0 q in
          let h' : (need (differ (variablesOf es)) 1 >> each (bindingOf t rs) es) ≡ got bs = rw (records-whole types m) at h in
          record {
            whole = m;
            once = need-passed (differ (variablesOf es)) 1 (first-passed (each (bindingOf t rs) es) bs (need (differ (variablesOf es)) 1) h');
            bound = next-passed (each (bindingOf t rs) es) bs (need (differ (variablesOf es)) 1) h';
          }
      go false q = absurd (got≢refused (sym (rw (records-broken types (eqb-false (length types % 4) 0 q)) at h)))

  pub whole-given : (es : List Entry) (bs : List (Binding ℕ)) → Parts es bs → entriesGiven t es types ≡ got bs
  unfolding entriesGiven
  whole-given es bs p = rw (records-whole types p.whole, p.once, p.bound)
