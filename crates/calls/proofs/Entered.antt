-- What entering a name changed, and that it is told so.
use mathlib.Core.Path.{◌≡◌, refl, sym, ap, ◌∙◌}
use mathlib.Core.List.{List, ◌∷◌}
use Prim.Native.Nat.{ℕ, ◌+◌, min}
use native.Mathlib.Omega.{arith}
use lib.ListN.{length, take, set}
use Rattle.std.proofs.Common.{add-one, length-append}
use Rattle.std.proofs.lemmas.List.{length-take-le}
use Rattle.std.proofs.lemmas.List.Edits.{sets}
use Rattle.records.proofs.Stores.{sets-append}
use Rattle.rules.specs.Base.{Got}
use Rattle.rules.specs.declared.Was.{Was}
use Rattle.rules.specs.Names.{Entered, enter}
use Rattle.calls_defined.specs.Given.{nameIn}
use Rattle.calls_defined.specs.Saying.{numberAs}
use Rattle.calls_defined.specs.declared.told.Told.{Told}
use Rattle.calls_defined.specs.Dispatch.{named, changesFrom, changes, enteredAs, entering}
use Rattle.calls.proofs.Changed.{front-changes}

-- of the fronts that were copied, what the definition says of the lists
fronts : (b a b' a' : List ℕ) (m limit : ℕ) → m ≡ min (length b) limit → length a ≡ length b → b' ≡ take m b → a' ≡ take m a
    → changesFrom b' a' 0 (length a') ≡ changesFrom b a 0 (min (length b) limit)
fronts b a b' a' m limit e l p q =
    let k : length (take m a) ≡ m = length-take-le m a (omega (arith, e, l)) in
    rw (p, q, k) (front-changes b a m 0 m (omega arith) ∙ ap (changesFrom b a 0) e)

module _ (pool table : List ℕ) (e : Entered) (pb pa tb ta : List ℕ) (m n : ℕ)
    (i : m ≡ min (length pool) 9216) (j : n ≡ min (length table) 512)
    (lp : length e.pool ≡ length pool) (lt : length e.table ≡ length table)
    (p₁ : pb ≡ take m pool) (p₂ : pa ≡ take m e.pool) (t₁ : tb ≡ take n table) (t₂ : ta ≡ take n e.table)
    (d d₁ d₂ d₃ : List ℕ) (next count : ℕ)
    (w₁ : d₁ ≡ sets d 0 (changesFrom pb pa 0 (length pa))) (c₁ : next ≡ 0 + length (changesFrom pb pa 0 (length pa)))
    (w₂ : d₂ ≡ set d₁ next 4294967295)
    (w₃ : d₃ ≡ sets d₂ (next + 1) (changesFrom tb ta 0 (length ta))) (c₂ : count ≡ (next + 1) + length (changesFrom tb ta 0 (length ta)))
  where
    pools : changesFrom pb pa 0 (length pa) ≡ changesFrom pool e.pool 0 (min (length pool) 9216)
    pools = fronts pool e.pool pb pa m 9216 i lp p₁ p₂

    tables : changesFrom tb ta 0 (length ta) ≡ changesFrom table e.table 0 (min (length table) 512)
    tables = fronts table e.table tb ta n 512 j lt t₁ t₂

    changes-stored : d₃ ≡ sets d 0 (changes pool table e)
    unfolding changes
    changes-stored =
        let front = changesFrom pool e.pool 0 (min (length pool) 9216) in
        let back = changesFrom table e.table 0 (min (length table) 512) in
        let z : next ≡ 0 + length front = rw pools at c₁ in
        rw (w₃, w₂, w₁, tables, pools, z, add-one (0 + length front)) (sym (sets-append front (4294967295 ∷ back) d 0))

    changes-counted : count ≡ length (changes pool table e)
    unfolding changes
    changes-counted =
        let front = changesFrom pool e.pool 0 (min (length pool) 9216) in
        let back = changesFrom table e.table 0 (min (length table) 512) in
        let z : next ≡ 0 + length front = rw pools at c₁ in
        let y : count ≡ (next + 1) + length back = rw tables at c₂ in
        omega (arith, y, z, length-append front (4294967295 ∷ back))

    pub changes-told : (d₃ ≡ sets d 0 (changes pool table e)) × (count ≡ length (changes pool table e))
    changes-told = (changes-stored, changes-counted)

pub entered-as : (pool table b d d' p' t' : List ℕ) (a : Got (ℕ × Was)) (count : ℕ) {t : Told}
    → ◌≡◌ {A = Entered} (record { answer = a; pool = p'; table = t' }) (enter pool table (nameIn b)) → t ≡ numberAs a count
    → d' ≡ sets d 0 (changes pool table (record { answer = a; pool = p'; table = t' }))
    → count ≡ length (changes pool table (record { answer = a; pool = p'; table = t' }))
    → named t p' t' d' ≡ entering pool table b d
unfolding entering enteredAs
entered-as pool table b d d' p' t' a count h f s k = rw (f, s, k) refl ∙ ap (λ (e : Entered). enteredAs pool table e d) h
