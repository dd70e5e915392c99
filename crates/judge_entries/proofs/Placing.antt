-- The slots of given entries are the table of their places; those of others are refused.
use Rattle.std.specs.Prelude.{◌≡◌, refl, Bool, true, false, not, List, [], ◌∷◌, ℕ, ◌+◌, ◌≤◌, ◌<◌, eqb, length, get_or}
use Rattle.std.proofs.Common.{sym, ap, subst, ◌∙◌, arith, eqb-true}
use Rattle.std.specs.Prelude as std
use Rattle.std.proofs.Math.Option.{Option, none, some}
use Rattle.rules.specs.Base.{got}
use Rattle.rules.specs.Trees.{Ty, Binding}
use Rattle.rules.specs.Names.{table_of}
use Rattle.rules.specs.Replacing.{find}
use Rattle.rules.specs.Calls.{Entry, differ, entriesGiven}
use Rattle.laws.specs.NameTable.{Good}
use Rattle.laws.proofs.NameTable.{good-laid}
use Rattle.std.proofs.lemmas.Bool.{not-false}
use Rattle.laws.proofs.Lists.{got≢refused}
use Rattle.records.specs.Found.{Words32}
use Rattle.records.specs.Good.{numbers, GoodTy}
use Rattle.judge_entries.specs.Entries.{variablesOf, place_of, slot_of, slots_of, slotWord}
use Rattle.judge_entries.specs.Tables.{Fits, Asked, Filled, Made}
use Rattle.judge_entries.proofs.Tables.{SaysAt, Placed}
use Rattle.judge_entries.proofs.Counting.{Below, slot_at, taken-below, below-taken, first-is}
use Rattle.judge_entries.proofs.Given.{Agrees, Parts, agrees, held_all, bindings-there, parts, whole-given, type-is}

below_more : (m k : ℕ) → m ≤ k → (es : List Entry) → Below m es → Below k es
below_more m k l [] b = tt
below_more m k l (e ∷ es) b = (omega (arith, b.0), below_more m k l es b.1)

-- an entry's variable is among them
place-below : (m : ℕ) (es : List Entry) (x at : ℕ) → Below m es → place_of es x ≡ some at → x < m
place-below m [] x at b h = absurd (cc)
place-below m (e ∷ es) x at b h = go (eqb e.variable x) refl (place-below m es x at b.1) h
  where
    go : (c : Bool) → eqb e.variable x ≡ c → (place_of es x ≡ some at → x < m) → place_of (e ∷ es) x ≡ some at → x < m
    go true q f h = omega (arith, b.0, eqb-true e.variable x q)
    go false q f h = f (sym (rw q) ∙ h)

slot-place : (o : Option ℕ) (at : ℕ) → slot_of o ≡ std.Some at → o ≡ some at
slot-place none at h = absurd (cc)
slot-place (some p) at h = let q : p ≡ at = cc in ap some q

module _ (pool table types : List ℕ) (w : Words32 types) (es : List Entry) where
  -- what the slots ask, by the entries
  abbrev Asks : Type 0
  Asks = Asked pool table types (slots_of es) (not (differ (variablesOf es))) (length es)

  types-at : (o : Option (Ty ℕ)) (x at : ℕ) → Agrees pool table types (some at) o → (ty : Ty ℕ) × ((e : ℕ) × GoodTy pool table 0 types 64 at ty e)
  types-at none x at g = absurd g
  types-at (some ty) x at g = (ty, type-is pool table types w at ty g)

  asked_of : Good pool table → (bs : List (Binding ℕ)) → Parts pool table types es bs → Asks
  asked_of good bs p =
      let held = held_all pool table types es bs p.bound in
      record {
        whole = p.whole;
        once = ap not p.once;
        fits = λ x l at q.
            let e = slot-place (place_of es x) at (sym (slot_at es x l) ∙ q) in (
              place-below _ es x at held e,
              types-at (find (numbers pool table) bs x) x at
                  (subst (λ (o : Option ℕ). Agrees pool table types o (find (numbers pool table) bs x)) e (agrees pool table types es bs p.bound x)),
            );
        all = below-taken es p.once (below_more (get_or table 0 0) 256 (good-laid good).few es held);
      }

  parts-of : Asks → (bs : List (Binding ℕ)) × Parts pool table types es bs
  parts-of a =
      let once = not-false (differ (variablesOf es)) a.once in
      let (bs, q) = bindings-there pool table types w es (λ x l. subst (Fits pool table types x) (slot_at es x l) (a.fits x l)) es
      (taken-below es a.all) (first-is es once) in
      (bs, record { whole = a.whole; once = once; bound = q })

  -- the word of a slot, where looking up agrees
  says : (word : ℕ) (o : Option ℕ) (p : Option (Ty ℕ)) → word ≡ slotWord (slot_of o) → Agrees pool table types o p → SaysAt pool table types word p
  says word none none q g = q
  says word none (some ty) q g = absurd g
  says word (some at) none q g = absurd g
  says word (some at) (some ty) q g = let k = (type-is pool table types w at ty g).1
      in record { at = at; word = q; held = k.held; deep = k.deep; good = k.good }

  module _ (good : Good pool table) (places : List ℕ) where
    abbrev Given : List (Binding ℕ) → Type 0
    Given bs = entriesGiven (table_of pool table) es types ≡ got bs

    placed_by : (r : Bool) → Filled pool table types (slots_of es) (not (differ (variablesOf es))) (length es) places r → Placed pool table es types places r
    placed_by true (a, same) = record {
      given = λ bs h.
          let p = parts pool table types es bs h in (
            refl,
            record {
              says = λ x l. says (get_or places x 0) (place_of es x) (find (numbers pool table) bs x)
                  (same x l ∙ ap slotWord (slot_at es x l)) (agrees pool table types es bs p.bound x);
            },
          );
      refuses = λ h. let (bs, p) = parts-of a in absurd (got≢refused (sym (whole-given pool table types es bs p) ∙ h));
    }
    placed_by false f = record {
      given = λ bs h. absurd (f (asked_of good bs (parts pool table types es bs h)));
      refuses = λ h. refl;
    }

-- what `fill` makes of the slots, the repeat and the count of the entries is what is promised
pub placed : (pool table types : List ℕ) → Good pool table
    → (es : List Entry) (slots : List (std.Option ℕ)) (repeated : Bool) (count : ℕ) (places : List ℕ) (r : Bool)
    → slots ≡ (slots_of es) → repeated ≡ not (differ (variablesOf es)) → count ≡ length es → Made pool table types slots repeated count places r
    → Placed pool table es types places r
placed pool table types good es slots repeated count places r a b c m =
    placed_by pool table types m.words es good places r (rw (a, b, c) at m.filled)
