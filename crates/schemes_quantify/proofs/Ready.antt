-- What follows from the definitions of specs/Ready: what quantifying is given, and what it makes.
use Rattle.std.specs.Prelude.{Result, Ok, Err, ◌≡◌, refl, Bool, ℕ, ◌≤◌, ◌<◌, length, replicate}
use Rattle.std.proofs.Common.{arith}
use mathlib.Core.List.{List, map}
use Rattle.std.proofs.Math.Option.{Option}
use Rattle.rules.specs.Base.{Got, got, bounded}
use Rattle.rules.specs.Names.{table_of, numbersOf}
use Rattle.rules.specs.Replacing.{replaceTy}
use Rattle.rules.specs.Schemes.{renamed}
use Rattle.rules.specs.Trees.{Ty, Open, depth}
use Rattle.rules.specs.Writing.{writeTy, writeBound}
use Rattle.rules.specs.declared.Refusal.{Refusal}
use Rattle.rules.specs.declared.Refusal.TheVariants.{TooLarge}
use Rattle.laws.proofs.NameTable.{good-laid}
use Rattle.schemes_renaming.proofs.Sizes.{renamed-deep}
use Rattle.records.specs.declared.View.TheVariants as view
use Rattle.types.specs.declared.writer.Writer.{Writer}
use Rattle.types.specs.Written.{Writes, Reserves, Begins}
use Rattle.replace.specs.Leaves.{Leaves}
use Rattle.replace.specs.Well.{Lent}
use Rattle.replace.specs.Substitutions.{ALook}
use Rattle.replace.proofs.Substitutions.{same-look}
use Rattle.replace.proofs.Looks.{type-as}
use Rattle.replace.proofs.Walks.{on, stopped}
use Rattle.records_buffers.proofs.Handed.{made-refused}
use Rattle.records_buffers.specs.Told.{Made}
use Rattle.schemes_handed.specs.Bounds.{allBounds}
use Rattle.schemes_handed.proofs.Said.{quant-lent}
use Rattle.schemes_handed.specs.Tables.{quantPlaces, quantTypes}
use Rattle.schemes_handed.specs.declared.Handed.{Handed}
use Rattle.schemes_quantify.proofs.Core.{too_long, past, made-scheme}
use Rattle.schemes_quantify.specs.Ready.{renamingBy, quantifiedAs}

-- the renaming of handed names
abbrev pub renaming : Handed → Open ℕ → Option (Open ℕ)
renaming h = renamingBy h.names.pool.now h.names.table.now h.numbers.now

abbrev pub renamedType : Handed → Ty ℕ → Got (Ty ℕ)
renamedType h t = replaceTy (numbersOf (table_of h.names.pool.now h.names.table.now)) bounded (renamed (renaming h)) t

-- the tables that were filled
pub tables : (h : Handed) (p v : List ℕ) → p ≡ quantPlaces h.numbers.now (replicate 512 0) → v ≡ quantTypes 0 h.numbers.now (replicate 1024 0)
    → Lent h.names.pool.now h.names.table.now p v (renamed (renaming h))
tables h p v a b = rw (a, b)
    (quant-lent h.names.pool.now h.names.table.now h.numbers.now
    (λ x i. let few = (good-laid h.names.good).few in let k = h.held x i in omega arith) h.few)

-- whichever proof says what the names become, it is the renaming
module _ (h : Handed) {p v : List ℕ} (a : p ≡ quantPlaces h.numbers.now (replicate 512 0)) (b : v ≡ quantTypes 0 h.numbers.now (replicate 1024 0))
    (said : ALook h.names.pool.now h.names.table.now p v) where
  abbrev by-tables : ALook h.names.pool.now h.names.table.now p v
  by-tables = (renamed (renaming h), tables h p v a b)

  pub looked : (o : Open ℕ) → said.0 o ≡ renamed (renaming h) o
  looked = same-look h.names.pool.now h.names.table.now p v said by-tables

  pub walked : (t : Ty ℕ) {w w' : Writer} {r : Result (Unit {0}) Refusal}
      → Leaves writeTy w w' r (replaceTy (numbersOf (table_of h.names.pool.now h.names.table.now)) bounded said.0 t) → Leaves writeTy w w' r (renamedType h t)
  walked t l = type-as h.names.pool.now h.names.table.now p v said by-tables refl l

-- ══ The answers, from what the walk and the bounds left ══

module _ (h : Handed) (all : Bool) (t : Ty ℕ) (bs : List (Open ℕ)) where
  abbrev new : List (Open ℕ)
  new = allBounds all (renaming h) bs

  pub type-stopped : {w w' : Writer} {k : Refusal} (d : List ℕ) → Leaves writeTy w w' (Err k) (renamedType h t)
      → Made (quantifiedAs h all t bs) d (Err k)
  type-stopped {k = k} d l = made-refused k (rw (stopped l))

  module _ (flat : depth t ≤ 64) where
    shallow : (u : Ty ℕ) → renamedType h t ≡ got u → depth u ≤ 64
    shallow u e = omega (arith, renamed-deep (numbersOf (table_of h.names.pool.now h.names.table.now)) bounded (renaming h) t u e, flat)

    pub all-long : {w w₁ w₂ w₃ : Writer} {start : ℕ} (d : List ℕ) → w.at ≡ 0 → Reserves w w₁ start
        → Leaves writeTy w₁ w₂ (Ok tt) (renamedType h t)
        → Writes w₂ w₃ (map writeBound new) → 2048 < w₃.at → Made (quantifiedAs h all t bs) d (Err TooLarge)
    all-long d z r p q l =
        on p (λ u e k.
        too_long (length h.numbers.now) new (renamedType h t) u e (shallow u e) d
        (omega (arith, l, past (length h.numbers.now) new (renamedType h t) u e (shallow u e) z r k q)))

    -- d is the work buffer, when the writer is done with it
    pub all_made : {w w₁ w₂ w₃ w₄ : Writer} {start : ℕ} {d : List ℕ} → w.at ≡ 0 → 16384 ≤ length w.words.now → Reserves w w₁ start
        → Leaves writeTy w₁ w₂ (Ok tt) (renamedType h t) → Writes w₂ w₃ (map writeBound new) → w₃.at ≤ 2048
        → Begins w₃ w₄ start (view.Scheme (length h.numbers.now)) → d ≡ w₄.words.now
        → Made (quantifiedAs h all t bs) d (Ok w₃.at)
    all_made z room r p q le b i =
        rw i (on p (λ u e k. made-scheme (length h.numbers.now) new (renamedType h t) u e (shallow u e) z room r k q le b))
