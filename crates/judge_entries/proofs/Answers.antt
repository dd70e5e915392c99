-- What an answer of `fill` tells its caller: yes, and there are bindings with this table; or no, and the entries are refused.
use Rattle.std.specs.Prelude.{◌≡◌, refl, Bool, true, false, List, [], ◌∷◌, map, ℕ, drop}
use Rattle.std.proofs.Common.{sym}
use Rattle.std.proofs.Math.Option.{Option, none, some}
use Rattle.rules.specs.Base.{Got, got, refused, ◌>>=◌, ◌>>◌, need, orRefuse, and_then, each, all}
use Rattle.rules.specs.Trees.{Binding, ◌≔◌}
use Rattle.rules.specs.Names.{Table, table_of, numbersOf, is_held}
use Rattle.rules.specs.Writing.{Rec}
use Rattle.rules.specs.Reading.{records, readTy}
use Rattle.rules.specs.WellFormed.{goodTy}
use Rattle.rules.specs.Calls.{Entry, differ, numbersGiven, type_at, bindingOf, entriesGiven}
use Rattle.laws.proofs.Lists.{true≢false}
use Rattle.records.specs.Good.{goodBinding}
use Rattle.judge_entries.specs.Entries.{variablesOf}
use Rattle.judge_entries.proofs.Entries.{variableOf}
use Rattle.judge_entries.proofs.Given.{parts, good-all, same-variables}
use Rattle.judge_entries.proofs.Tables.{Tabled, Placed}

-- ══ Entries are refused with 1 only ══

-- a value, or the refusal 1
pub data OrOne {A : Type 0} (m : Got A) : Type 0 where
  value : (a : A) → m ≡ got a → OrOne m
  one : m ≡ refused 1 → OrOne m

one_then : {A B : Type 0} (m : Got A) (f : A → Got B) → OrOne m → ((a : A) → OrOne (f a)) → OrOne (m >>= f)
one_then m f (value a e) g = go (g a)
  where
    go : OrOne (f a) → OrOne (m >>= f)
    go (value b q) = value b (rw e q)
    go (one q) = one (rw e q)
one_then m f (one e) g = one (rw e)

one-need : {A : Type 0} (b : Bool) (m : Got A) → OrOne m → OrOne (need b 1 >> m)
one-need true m h = h
one-need false m h = one refl

one-or : {A B : Type 0} (o : Option A) (f : A → Got B) → ((a : A) → OrOne (f a)) → OrOne (orRefuse 1 o >>= f)
one-or none f h = one refl
one-or (some a) f h = h a

one_each : {A B : Type 0} (f : A → Got B) → ((a : A) → OrOne (f a)) → (xs : List A) → OrOne (each f xs)
unfolding each
one_each f h [] = value [] refl
one_each f h (x ∷ xs) = one_then (f x) _ (h x) (λ y. one_then (each f xs) _ (one_each f h xs) (λ ys. value (y ∷ ys) refl))

module _ (t : Table) where
  one_type : (rs : List Rec) (i : ℕ) → OrOne (type_at t rs i)
  unfolding type_at
  one_type rs i = one-or (and_then (readTy 64 (drop i rs)) (λ r. some r.0)) _ (λ ty. one-need (goodTy (numbersOf t) (is_held t) 0 ty) (got ty) (value ty refl))

  one-binding : (rs : List Rec) (e : Entry) → OrOne (bindingOf t rs e)
  unfolding bindingOf numbersGiven
  one-binding rs e = one-need (all (is_held t) (e.variable ∷ [])) _
      (one_then (type_at t rs e.place) _ (one_type rs e.place) (λ ty. value (e.variable ≔ ty) refl))

  pub one-given : (es : List Entry) (types : List ℕ) → OrOne (entriesGiven t es types)
  unfolding entriesGiven
  one-given es types = one-or (records types) _
      (λ rs. one-need (differ (variablesOf es)) (each (bindingOf t rs) es) (one_each (bindingOf t rs) (one-binding rs) es))

-- ══ The answers ══

module _ (pool table : List ℕ) (es : List Entry) (types places : List ℕ) where
  -- the entries are given as bs: no variable twice, all well formed
  pub record Bound (bs : List (Binding ℕ)) : Type 0 where
    pub given : entriesGiven (table_of pool table) es types ≡ got bs
    pub tabled : Tabled pool table types bs places
    pub once : differ (map variableOf bs) ≡ true
    pub good : all (goodBinding pool table 0) bs ≡ true

  pub placed-yes : Placed pool table es types places true → (bs : List (Binding ℕ)) × Bound bs
  placed-yes p = go (one-given (table_of pool table) es types)
    where
      go : OrOne (entriesGiven (table_of pool table) es types) → (bs : List (Binding ℕ)) × Bound bs
      go (value bs e) =
          let q = parts pool table types es bs e in (
            bs,
            record {
              given = e;
              tabled = (p.given bs e).1;
              once = rw (same-variables pool table types es bs q.bound) q.once;
              good = good-all pool table types es bs q.bound;
            },
          )
      go (one e) = absurd (true≢false (p.refuses e))

  pub placed-no : Placed pool table es types places false → entriesGiven (table_of pool table) es types ≡ refused 1
  placed-no p = go (one-given (table_of pool table) es types)
    where
      go : OrOne (entriesGiven (table_of pool table) es types) → entriesGiven (table_of pool table) es types ≡ refused 1
      go (value bs e) = absurd (true≢false (sym (p.given bs e).0))
      go (one e) = e
