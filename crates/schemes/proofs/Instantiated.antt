-- What instantiating makes of a scheme that was given.
use Rattle.rules.specs.declared.Refusal.{Refusal}
use Rattle.std.specs.Prelude.{Result, ◌≡◌, Bool, ℕ, ◌+◌, ◌/◌, ◌≤◌, length, get_or}
use Rattle.std.proofs.Math.Path.{refl, ap}
use Rattle.std.proofs.Common.{sym, subst, ap₂, ◌∙◌, arith, lt-ltb, eqb-true}
use Rattle.std.proofs.Math.Bool.{true, false}
use mathlib.Core.List.{List, [], ◌∷◌, ◌++◌, map}
use Rattle.std.proofs.Math.Option
use Rattle.std.proofs.Math.Dec.{eqb}
use Rattle.std.proofs.lemmas.List.{length-map}
use Rattle.rules.specs.Base.{Got, got, refused, ◌>>=◌, ◌>>◌, need, bounded, all}
use Rattle.rules.specs.Calls.{shortLists, tableKept, numbersGiven, apart, schemeGiven, opensScheme, instantiated}
use Rattle.rules.specs.Names.{Table, table_of, numbersOf, is_held}
use Rattle.rules.specs.Plain.{plain}
use Rattle.rules.specs.Replacing.{replaceTy}
use Rattle.rules.specs.Schemes.{Scheme, concrete, scheme, renamed, back, renamedBounds, put_back, instantiate}
use Rattle.rules.specs.Trees as tree
use Rattle.rules.specs.Trees.{Names, Ty, size}
use Rattle.rules.specs.Writing.{Rec, writeTy, writeBound}
use Rattle.laws.specs.Lists.{All}
use Rattle.laws.proofs.NameTable.{held-is}
use Rattle.names.specs.declared.tables.NameTable.{NameTable}
use Rattle.laws.proofs.Weaker.{ty-weaker}
use Rattle.products.proofs.Held.{law}
use Rattle.schemes_renaming.specs.Places.{own}
use Rattle.schemes_renaming.proofs.PutBack.{Back, put-back, put-back-twice}
use Rattle.records.specs.Found.{Words32}
use Rattle.records.specs.Good.{GoodTy, GoodScheme}
use Rattle.records.proofs.Schemes.{scheme-is}
use Rattle.schemes_handed.specs.Bounds.{Rename, allBounds, BoundsAt}
use Rattle.records_buffers.specs.Told.{Made}
use Rattle.schemes_handed.proofs.Tested.{chain-bounds}
use Rattle.schemes_handed.specs.declared.Handed.{Handed}
use Rattle.schemes_instantiate.specs.Ready.{putBackAs, instantiatedAs, Slim, Ready, ReadyScheme}
use Rattle.schemes.proofs.Rows.{IsRow}
use Rattle.schemes.proofs.Whole.{tells, all_renamed}

-- where bounds begin, and how many they are
bounds-many : (s : List ℕ) (bs : List (tree.Open ℕ)) (at : ℕ) → BoundsAt s bs at → at + length bs ≡ length s / 4
unfolding BoundsAt
bounds-many s [] at h = omega (arith, h)
bounds-many s (o ∷ bs) at h = let r = bounds-many s bs (at + 1) h.1 in omega arith

renamed-many : (f : Rename) (bs : List (tree.Open ℕ)) → length (allBounds true f bs) ≡ length bs
unfolding renamedBounds
renamed-many f bs = ap length (all_renamed f bs) ∙ length-map bs (λ o. Option.get_or (f o) o)

-- writing what was read is reading, then writing
abbrev withBounds : List (tree.Open ℕ) → Ty ℕ → Got (Ty ℕ × List (tree.Open ℕ))
withBounds cs w = got (w, cs)

abbrev writes : Ty ℕ × List (tree.Open ℕ) → Got (List Rec)
writes r = got (writeTy r.0 ++ map writeBound r.1)

written_out : (R : Got (Ty ℕ)) (f : Ty ℕ → Got (Ty ℕ)) (cs : List (tree.Open ℕ))
    → (R >>= λ u. f u >>= λ w. got (writeTy w ++ map writeBound cs)) ≡ ((R >>= λ u. f u >>= withBounds cs) >>= writes)
written_out (refused k) f cs = refl
written_out (got u) f cs = go (f u)
  where
    go : (Q : Got (Ty ℕ)) → (Q >>= λ w. got (writeTy w ++ map writeBound cs)) ≡ ((Q >>= withBounds cs) >>= writes)
    go (got w) = refl
    go (refused k) = refl

-- ══ The checks, one after another ══

module _ (pool table : List ℕ) where
  abbrev pub instantiatedFrom : List ℕ → Scheme ℕ → List (tree.Open ℕ) → Got (List Rec)
  instantiatedFrom numbers s bs = instantiate (numbersOf (table_of pool table)) bounded numbers s >>= λ r. got (writeTy r.0 ++ map writeBound r.1)

pub instantiate-row : (t : Table) (given numbers : List ℕ)
    → IsRow {B = List (tree.Open ℕ)} (λ s. apart t (opensScheme s))
    (λ s bs. instantiate (numbersOf t) bounded numbers s >>= λ r. got (writeTy r.0 ++ map writeBound r.1)) given [] numbers
    (tableKept t) (schemeGiven t given) (got []) (numbersGiven t numbers) (instantiated t given numbers)
unfolding instantiated shortLists all
instantiate-row t given numbers = record { is = refl }

-- ══ A scheme that was given ══

-- with the handed names of the table that it was given over
module _ (h : Handed) (s : List ℕ) (w : Words32 s) (short : length s ≤ 8192) (sc : Scheme ℕ)
    (g : schemeGiven (table_of h.names.pool.now h.names.table.now) s ≡ got sc) where
  abbrev pool : List ℕ
  pool = h.names.pool.now

  abbrev table : List ℕ
  table = h.names.table.now

  abbrev names : List ℕ
  names = h.numbers.now

  abbrev ν : Names ℕ
  ν = numbersOf (table_of pool table)

  abbrev held : ℕ → Bool
  held = is_held (table_of pool table)

  known : All (λ x. held x ≡ true) names
  known x i = held-is pool table x ∙ lt-ltb x (get_or table 0 0) (h.held x i)

  few : length names ≤ 4_294_967_296
  few = let k = h.few in omega arith

  its : GoodScheme pool table s sc
  its = scheme-is pool table s w sc g

  -- as many names as it quantifies
  module _ (t : Ty ℕ) (bs : List (tree.Open ℕ)) (i : sc ≡ scheme (length names) t bs) where
    counted : GoodScheme pool table s (scheme (length names) t bs)
    counted = subst (GoodScheme pool table s) i its

    type-good : GoodTy pool table (length names) s 64 1 t (1 + size t)
    type-good = let (v, (e, (g, c)), m) = counted in subst (GoodTy pool table (length names) s 64 1 t) g.past g

    behind : BoundsAt s bs (1 + size t)
    behind = let (v, (e, (g, c)), m) = counted in subst (BoundsAt s bs) g.past (chain-bounds pool table s w true (length names) e bs c)

    within : size t + length bs ≤ 2047
    within = let m = bounds-many s bs (1 + size t) behind in omega (arith, m, short)

    backed : (u : Ty ℕ) → replaceTy ν bounded (renamed (back names)) t ≡ got u
        → Back ν (law pool table) held 4_294_967_296 (tells pool table 4_294_967_296 h.names.good) names known few t bs type-good.good
        (omega (arith, within)) type-good.deep u
    backed u e =
        put-back ν (law pool table) held 4_294_967_296 (tells pool table 4_294_967_296 h.names.good) names known few t bs type-good.good
        (omega (arith, within)) type-good.deep u e

    slim : (u : Ty ℕ) → replaceTy ν bounded (renamed (back names)) t ≡ got u → Slim h bs u
    slim u e =
        let b = backed u e in
        record {
          well = b.well;
          few = omega (arith, b.first_fits, within);
          fits = λ x j.
              let z : got x ≡ got (plain u true) = sym j ∙ b.reads in
              let k : x ≡ plain u true = cc in
              let l : size x ≡ size (plain u true) = ap size k in
              omega (arith, l, b.fits, renamed-many (back names) bs);
        }

    ready : Ready h t bs
    ready = record { good = ty-weaker ν held (length names) 4_294_967_296 few t type-good.good; slim = slim }

    -- two walks and the bounds are what instantiating says
    put-made : putBackAs h t bs ≡ (put_back ν bounded names t bs >>= λ r. got (writeTy r.0 ++ map writeBound r.1))
    put-made =
        let p = put-back-twice ν (law pool table) held 4_294_967_296 (tells pool table 4_294_967_296 h.names.good) names known few t bs type-good.good
        (omega (arith, within)) type-good.deep in
        rw (all_renamed (back names) bs, p)
        (written_out (replaceTy ν bounded (renamed (back names)) t) (λ u. replaceTy ν bounded (renamed (own held)) u) (renamedBounds (back names) bs))

  pub instantiate-ready : ReadyScheme h sc
  instantiate-ready m t bs e k = ready t bs (e ∙ ap (λ (i : ℕ). scheme i t bs) k)

  instantiate-made : instantiatedAs h sc ≡ instantiatedFrom pool table names sc []
  unfolding instantiate
  instantiate-made = go sc refl
    where
      go : (x : Scheme ℕ) → sc ≡ x → instantiatedAs h x ≡ instantiatedFrom pool table names x []
      go (concrete t) e = refl
      go (scheme m t bs) e = more (eqb m (length names)) refl
        where
          more : (b : Bool) → eqb m (length names) ≡ b
              → (need b 9 >> putBackAs h t bs) ≡ ((need b 9 >> put_back ν bounded names t bs) >>= λ r. got (writeTy r.0 ++ map writeBound r.1))
          more true j = put-made t bs (e ∙ ap (λ (i : ℕ). scheme i t bs) (eqb-true m (length names) j))
          more false j = refl

  pub instantiate-met : {n : NameTable} {numbers : List ℕ} → (h.names ≡ n) × (h.numbers.now ≡ numbers) → {w' : List ℕ} {r : Result ℕ Refusal}
      → Made (instantiatedAs h sc) w' r → Made (instantiatedFrom n.pool.now n.table.now numbers sc []) w' r
  instantiate-met e {w'} {r} k = subst (λ (m : Got (List Rec)). Made m w' r)
      (instantiate-made ∙ ap₂ (λ (x : NameTable) (xs : List ℕ). instantiatedFrom x.pool.now x.table.now xs sc []) e.0 e.1) k

-- what was given over a table was given over that of the handed names
pub given-over : (h : Handed) {n : NameTable} (s : List ℕ) {sc : Scheme ℕ} → h.names ≡ n → schemeGiven (table_of n.pool.now n.table.now) s ≡ got sc
    → schemeGiven (table_of h.names.pool.now h.names.table.now) s ≡ got sc
given-over h s {sc} e g = subst (λ (x : NameTable). schemeGiven (table_of x.pool.now x.table.now) s ≡ got sc) (sym e) g
