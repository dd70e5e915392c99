-- What follows from the definitions of specs/Ready: what instantiating is given, and what it makes.
use Rattle.std.specs.Prelude.{◌≡◌, refl, List, ◌++◌, map, ℕ, ◌+◌, ◌*◌, ◌≤◌, length, get_or, replicate, Ok, Err, Result}
use Rattle.std.proofs.Common.{ap, subst, ◌∙◌, arith, eq-eqb, ne_eqb, length-append}
use Rattle.std.proofs.lemmas.List.{length-map}
use Rattle.std.proofs.lemmas.List.Edits.{sets}
use Rattle.std.proofs.Math.Seq.{length-sets}
use lib.ListN.{length-replicate}
use Rattle.rules.specs.Base.{Got, refused, bounded}
use Rattle.rules.specs.Names.{table_of, is_held}
use Rattle.rules.specs.Replacing.{replaceTy}
use Rattle.rules.specs.Schemes.{scheme, renamed, back}
use Rattle.rules.specs.Trees.{Ty, Open, size}
use Rattle.rules.specs.Writing.{Rec, words, writeTy, writeBound}
use Rattle.rules.specs.declared.Refusal.{Refusal}
use Rattle.rules.specs.declared.Refusal.TheVariants.{WrongCount}
use Rattle.laws.proofs.NameTable.{good-laid}
use Rattle.laws.proofs.Size.{size-ty}
use Rattle.schemes_renaming.specs.Places.{own}
use Rattle.records.proofs.Buffers.{stored}
use Rattle.records.proofs.Held.{held}
use Rattle.records.specs.Holds.{Holds}
use Rattle.records.specs.Parsed.{only}
use Rattle.records.specs.Views.{from}
use Rattle.records.specs.Cut.{cut}
use Rattle.records.proofs.Cut.{cut-length, short-ty}
use Rattle.types.specs.declared.writer.Writer.{Writer}
use Rattle.types.specs.Written.{Writes}
use Rattle.types.proofs.Written.{writes-then}
use Rattle.replace.specs.Leaves.{Leaves}
use Rattle.replace.proofs.Came.{Came}
use Rattle.replace.proofs.Walks.{stopped}
use Rattle.replace.specs.Well.{names as numbers, GoodTy, Lent}
use Rattle.replace.specs.Substitutions.{ALook}
use Rattle.replace.proofs.Substitutions.{same-look}
use Rattle.replace.proofs.Looks.{type-as}
use Rattle.replace.proofs.Written.{ty-fits}
use Rattle.records_buffers.proofs.Handed.{made-refused}
use Rattle.records_buffers.specs.Told.{Made}
use Rattle.schemes_handed.proofs.Back.{back-lent, own-lent}
use Rattle.schemes_handed.specs.declared.Handed.{Handed}
use Rattle.schemes_handed.specs.Tables.{backPlaces, ownPlaces, ownTypes}
use Rattle.schemes_quantify.proofs.Core.{made-writes}
use Rattle.schemes_instantiate.specs.Ready.{putType, readType, newBounds, putBackAs, instantiatedAs, Slim, Ready}

-- ══ The tables that were filled ══

module _ (h : Handed) where
  few : get_or h.names.table.now 0 0 ≤ 256
  few = (good-laid h.names.good).few

  pub back-tables : (p v : List ℕ) → p ≡ backPlaces 0 h.numbers.now (replicate 2560 0) → v ≡ ownTypes (get_or h.names.table.now 0 0) (replicate 1024 0)
      → Lent h.names.pool.now h.names.table.now p v (renamed (back h.numbers.now))
  back-tables p v a b = rw (a, b) (back-lent h.names.pool.now h.names.table.now few h.numbers.now h.held h.few)

  pub own-tables : (p v : List ℕ) → p ≡ ownPlaces (get_or h.names.table.now 0 0) (replicate 256 0)
      → v ≡ ownTypes (get_or h.names.table.now 0 0) (replicate 1024 0)
      → Lent h.names.pool.now h.names.table.now p v (renamed (own (is_held (table_of h.names.pool.now h.names.table.now))))
  own-tables p v a b = rw (a, b) (own-lent h.names.pool.now h.names.table.now few)

-- ══ What a walk leaves ══

-- whichever proof says what the names become, the first walk puts names back, and the second reads each as itself
module _ (h : Handed) {p v : List ℕ} (said : ALook h.names.pool.now h.names.table.now p v)
    (b : v ≡ ownTypes (get_or h.names.table.now 0 0) (replicate 1024 0)) where
  abbrev Walks : Writer → Writer → Result (Unit {0}) Refusal → Ty ℕ → Type 0
  Walks w w' r t = Leaves writeTy w w' r (replaceTy (numbers h.names.pool.now h.names.table.now) bounded said.0 t)

  module _ (a : p ≡ backPlaces 0 h.numbers.now (replicate 2560 0)) where
    pub looked : (o : Open ℕ) → said.0 o ≡ renamed (back h.numbers.now) o
    looked = same-look h.names.pool.now h.names.table.now p v said (_, back-tables h p v a b)

    pub put-walked : (t : Ty ℕ) {w w' : Writer} {r : Result (Unit {0}) Refusal} → Walks w w' r t → Leaves writeTy w w' r (putType h t)
    put-walked t l = type-as h.names.pool.now h.names.table.now p v said (_, back-tables h p v a b) refl l

  pub read-walked : p ≡ ownPlaces (get_or h.names.table.now 0 0) (replicate 256 0) → {w w' : Writer} {r : Result (Unit {0}) Refusal} {t u : Ty ℕ} → t ≡ u
      → Walks w w' r t → Leaves writeTy w w' r (readType h u)
  read-walked a e l = type-as h.names.pool.now h.names.table.now p v said (_, own-tables h p v a b) e l

-- ══ The answers ══

module _ (h : Handed) (t : Ty ℕ) (bs : List (Open ℕ)) (y : Ready h t bs) where
  abbrev Whole : Got (List Rec)
  Whole = putBackAs h t bs

  pub first-stopped : {w w' : Writer} {k : Refusal} (d : List ℕ) → Leaves writeTy w w' (Err k) (putType h t) → Made Whole d (Err k)
  first-stopped {k = k} d l = made-refused k (rw (stopped l))

  module _ {w w' : Writer} (c : Came writeTy w w' (putType h t)) where
    abbrev its : Slim h bs c.value
    its = y.slim c.value c.is

    -- the second walk begins where the first began to write, in a buffer of 8,192 words
    module _ (z : w.at ≡ 0) (blank : w.words.now ≡ replicate 8192 0) where
      long : length w.words.now ≡ 8192
      long = ap (λ (d : List ℕ). length d) blank ∙ length-replicate {A = ℕ} 8192 0

      pub first-held : Holds w'.words.now c.value 0
      first-held =
          let f = its.few in
          let k = size-ty c.value in
          let short = short-ty c.value (omega (arith, f)) in
          let buffer : w'.words.now ≡ sets w.words.now 0 (words (writeTy c.value)) =
          subst (λ (i : ℕ). w'.words.now ≡ sets w.words.now (i * 4) (words (writeTy c.value))) z
          (c.wrote.words (omega (arith, z, f, k, cut-length (writeTy c.value))) ∙ ap (λ (rs : List Rec). sets w.words.now (w.at * 4) (words rs)) short) in
          held w'.words.now c.value 0 (from w.words.now (0 + length (writeTy c.value)))
          (ty-fits (numbers h.names.pool.now h.names.table.now) (is_held (table_of h.names.pool.now h.names.table.now)) 4_294_967_296 c.value its.well)
          (ap (λ (x : List ℕ). from x 0) buffer ∙ stored w.words.now (writeTy c.value) 0 (omega (arith, f, k, long)))

      pub read-near : length w'.words.now ≤ 4_000_000_000
      read-near =
          let f = its.few in
          let e = c.wrote.words (omega (arith, z, f, size-ty c.value, cut-length (writeTy c.value))) in
          omega (arith, ap (λ (d : List ℕ). length d) e, length-sets w.words.now (w.at * 4) (words (cut (writeTy c.value))), long)

      -- whichever type is read there, it is what was written
      module _ (u : Ty ℕ) (k : Holds w'.words.now u 0) where
        pub read-is : u ≡ c.value
        read-is = only w'.words.now u c.value 0 k first-held

        pub read-good : GoodTy h.names.pool.now h.names.table.now u
        read-good = rw read-is its.well

    pub second-stopped : {v v' : Writer} {k : Refusal} (d : List ℕ) → Leaves writeTy v v' (Err k) (readType h c.value) → Made Whole d (Err k)
    second-stopped {k = k} d l = made-refused k (rw (c.is, stopped l))

    -- d is the work buffer, when the writer is done with it
    pub all_made : {v v' v₁ : Writer} {d : List ℕ} → v.at ≡ 0 → 16384 ≤ length v.words.now → Came writeTy v v' (readType h c.value)
        → Writes v' v₁ (map writeBound (newBounds h bs)) → d ≡ v₁.words.now → Made Whole d (Ok v₁.at)
    all_made {v} {v'} {v₁} z room b p i =
        let f = its.fits b.value b.is in
        let rs : List Rec = writeTy b.value ++ map writeBound (newBounds h bs) in
        let l : length rs ≡ size b.value + length (newBounds h bs) =
        omega (
          arith,
          length-append (writeTy b.value) (map writeBound (newBounds h bs)),
          size-ty b.value,
          length-map (newBounds h bs) writeBound,
        ) in
        let q : Writes v v₁ rs = writes-then (writeTy b.value) (map writeBound (newBounds h bs))
        (subst (Writes v v') (short-ty b.value (omega (arith, f))) b.wrote) p in
        let n : v₁.at ≡ length rs = omega (arith, q.at, z, l, f) in
        rw i (made-writes Whole rs v₁.at (rw (c.is, b.is)) z room q n (omega (arith, n, l, f)))

module _ (h : Handed) (n : ℕ) (t : Ty ℕ) (bs : List (Open ℕ)) where
  pub wrong-count : (w : List ℕ) → (n ≡ length h.numbers.now → ⊥) → Made (instantiatedAs h (scheme n t bs)) w (Err WrongCount)
  wrong-count w f = made-refused WrongCount (rw (ne_eqb n (length h.numbers.now) f))

  pub right-count : (w : List ℕ) (r : Result ℕ Refusal) → n ≡ length h.numbers.now → Made (putBackAs h t bs) w r → Made (instantiatedAs h (scheme n t bs)) w r
  right-count w r e m = rw (eq-eqb n (length h.numbers.now) e) m

-- a concrete type
pub no-scheme : (w : List ℕ) → Made (refused 9) w (Err WrongCount)
no-scheme w = made-refused WrongCount refl
