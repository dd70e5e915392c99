-- What was given by its words: its open names are those of its type, so the check of 4 can be made.
use Rattle.std.specs.Prelude.{◌≡◌, true, ℕ, ◌+◌, ◌-◌, ◌/◌, ◌≤◌}
use Rattle.std.proofs.Math.Path.{refl, sym, ap}
use Rattle.std.proofs.Common.{◌∙◌}
use mathlib.Core.List.{List, [], ◌∷◌, append-nil}
use native.Mathlib.Omega.{arith}
use Rattle.std.proofs.Math.ListN.{length, get_or}
use Rattle.rules.specs.Base.{Got, got, ◌>>◌, need, collect}
use Rattle.rules.specs.Calls.{shortLists, typeGiven, schemeGiven, opensScheme, apart}
use Rattle.rules.specs.Contents.{unmixed}
use Rattle.rules.specs.Names.{Table, numbersOf}
use Rattle.rules.specs.Schemes.{Scheme, concrete, scheme}
use Rattle.rules.specs.Trees as tree
use Rattle.rules.specs.Trees.{Ty, opens, size}
use Rattle.laws.proofs.Checks.{need-passed}
use Rattle.laws.proofs.KnownNames.{ty-known}
use Rattle.laws.proofs.NameTable.{good-laid}
use Rattle.names.specs.declared.tables.NameTable.{NameTable}
use Rattle.records.specs.Found.{Words32}
use Rattle.records.specs.Good.{Chain, numbers, holding, GoodBound, GoodScheme}
use Rattle.records.specs.Places.{seen-in}
use Rattle.records.proofs.Schemes.{scheme-is}
use Rattle.records.proofs.Whole.{type-is}
use Rattle.queries.proofs.GoodOpens.{names-small}
use Rattle.queries.specs.Marks.{Small}
use Rattle.queries.proofs.ScanLaws.{opens-none, opens-step, opens-join, ty-opens, type-opens, chain-opens}
use Rattle.queries.specs.Scans.{opensIn}
use Rattle.types.proofs.Tested.{over}
use Rattle.schemes.specs.Entry.{short}
use Rattle.schemes.proofs.Rows.{first-alone}

module _ (pool table s : List ℕ) where
  abbrev without : tree.Open ℕ → List (tree.Open ℕ)
  without o = []

  no-opens : (bs : List (tree.Open ℕ)) → collect without bs ≡ []
  unfolding collect
  no-opens [] = refl
  no-opens (o ∷ bs) = no-opens bs

  -- bounds have no open names
  bound-opens : (q at : ℕ) (o : tree.Open ℕ) (e : ℕ) → GoodBound pool table q s at o e → (at ≤ e) × (opensIn s at e ≡ [])
  bound-opens q at o e g =
      let p = g.past in
      (omega arith, opens-step s at e (omega arith) ∙ rw g.held.0 (opens-none s (at + 1) e (omega arith)))

  bounds-opens : (q at : ℕ) (bs : List (tree.Open ℕ)) → Chain (GoodBound pool table q s) (length s / 4) bs at → (at ≤ length s / 4)
      × (opensIn s at (length s / 4) ≡ [])
  bounds-opens q at bs c = let (a, b) = chain-opens s (GoodBound pool table q s) without (bound-opens q) bs at (length s / 4) c in (a, b ∙ no-opens bs)

  held-opens : (sc : Scheme ℕ) → GoodScheme pool table s sc → opensIn s 0 (length s / 4) ≡ opensScheme sc
  unfolding opensScheme
  held-opens (concrete t) (v, g, m) =
      let l = seen-in s 0 v tt in
      let e = g.past in
      opens-step s 0 (length s / 4) l ∙ rw (v, e) (type-opens s t 1 g.held)
  held-opens (scheme n t bs) (v, (e, (g, c)), m) =
      let l = seen-in s 0 v tt in
      let p = g.past in
      let (a, b) = bounds-opens n e bs c in
      let k : length s / 4 - 1 ≡ size t + (length s / 4 - e) = omega arith in
      opens-step s 0 (length s / 4) l ∙ rw v (rw k (opens-join s (size t) (length s / 4 - e) 1 ∙ rw (ty-opens s t 1 g.held, sym p, b) (append-nil (opens t))))

  held-small : (sc : Scheme ℕ) → GoodScheme pool table s sc → get_or table 0 0 ≤ 256 → Small (opensIn s 0 (length s / 4))
  unfolding opensScheme
  held-small (concrete t) (v, g, m) few = rw (held-opens (concrete t) (v, g, m))
      (names-small pool table 0 (opens t) (ty-known (numbers pool table) (holding pool table) 0 t g.good) few)
  held-small (scheme n t bs) (v, (e, (g, c)), m) few = rw (held-opens (scheme n t bs) (v, (e, (g, c)), m))
      (names-small pool table n (opens t) (ty-known (numbers pool table) (holding pool table) n t g.good) few)

-- asked of a list's words it is asked of what they hold
asked-of-words : (t : Table) {os ps : List (tree.Open ℕ)} {r : Got (Unit {0})} → os ≡ ps → r ≡ need (unmixed (numbersOf t) os) 4 → apart t ps ≡ r
unfolding apart
asked-of-words t e i = sym (i ∙ ap (λ (x : List (tree.Open ℕ)). need (unmixed (numbersOf t) x) 4) e)

pub are-apart : (t : Table) (os : List (tree.Open ℕ)) → apart t os ≡ got tt → unmixed (numbersOf t) os ≡ true
unfolding apart
are-apart t os e = need-passed (unmixed (numbersOf t) os) 4 e

module _ (n : NameTable) (s bounds names : List ℕ) (short : got tt ≡ short s bounds names) (w : Words32 s) where
  abbrev all : List (tree.Open ℕ)
  all = opensIn s 0 (length s / 4)

  module _ {sc : Scheme ℕ} (i : got sc ≡ (shortLists (s ∷ []) >> schemeGiven (over n) s)) where
    pub scheme-given : schemeGiven (over n) s ≡ got sc
    scheme-given = first-alone s bounds names short (schemeGiven (over n) s) i

    its : GoodScheme n.pool.now n.table.now s sc
    its = scheme-is n.pool.now n.table.now s w sc scheme-given

    pub scheme-small : Small all
    scheme-small = held-small n.pool.now n.table.now s sc its (good-laid n.good).few

    pub scheme-apart : {r : Got (Unit {0})} → r ≡ need (unmixed (numbersOf (over n)) all) 4 → apart (over n) (opensScheme sc) ≡ r
    scheme-apart k = asked-of-words (over n) (held-opens n.pool.now n.table.now s sc its) k

  module _ {t : Ty ℕ} (i : got t ≡ (shortLists (s ∷ []) >> typeGiven (over n) s)) where
    pub type-given : typeGiven (over n) s ≡ got t
    type-given = first-alone s bounds names short (typeGiven (over n) s) i

    words-opens : all ≡ opens t
    words-opens =
        let k = type-is n.pool.now n.table.now s w t type-given in
        let z : length s / 4 ≡ 0 + size t = k.past in
        rw z (type-opens s t 0 k.held)

    pub type-small : Small all
    type-small =
        let k = type-is n.pool.now n.table.now s w t type-given in
        rw words-opens
        (names-small n.pool.now n.table.now 0 (opens t) (ty-known (numbers n.pool.now n.table.now) (holding n.pool.now n.table.now) 0 t k.good)
        (good-laid n.good).few)

    pub type-apart : {r : Got (Unit {0})} → r ≡ need (unmixed (numbersOf (over n)) all) 4 → apart (over n) (opens t) ≡ r
    type-apart k = asked-of-words (over n) words-opens k
