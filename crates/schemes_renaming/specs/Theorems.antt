-- What quantifying and instantiating come to. The functions of src promise these statements; their proofs stand in proofs/.
use Rattle.std.specs.Prelude.{◌≡◌, Bool, true, List, ℕ, ◌≤◌, length}
use mathlib.Core.List.{Memᴰ}
use Rattle.rules.specs.Base.{got, bounded, ◌>>=◌}
use Rattle.rules.specs.Trees.{Open, var, par, Names, Ty, orderAtom, opens}
use Rattle.rules.specs.Contents.{unmixed}
use Rattle.rules.specs.Plain.{plain}
use Rattle.rules.specs.Replacing.{replaceTy}
use Rattle.rules.specs.Schemes.{Scheme, scheme, renamed, renamedBounds, quantify, instantiate, schemeLimited}
use Rattle.rules.specs.WellFormed.{goodTy}
use Rattle.laws.specs.Order.{Lawful, Tells}
use Rattle.laws.specs.Lists.{All}
use Rattle.laws.specs.GoodProducts.{goodAtom}
use Rattle.schemes_renaming.specs.Places.{all_of}

-- what the caller has to see to: the names are held, and none is a parameter of the type; a name may be handed twice
pub record Apart {N : Type 0} (held : N → Bool) (vs : List N) (t : Ty N) : Type 0 where
  pub names-held : All (λ v. held v ≡ true) vs
  pub no-parameter : (x : N) → Memᴰ x vs → Memᴰ (par x) (opens t) → ⊥

-- names whose order is lawful and tells those apart that are held, or quantified below q
pub record Told {N : Type 0} (ν : Names N) (held : N → Bool) (q : ℕ) : Type 0 where
  pub lawful : Lawful (orderAtom ν)
  pub tells : Tells (λ a. goodAtom ν held q a ≡ true) (orderAtom ν)

-- a type as a call is given it, and at most q names that are handed with it
pub record Handed {N : Type 0} (ν : Names N) (held : N → Bool) (q : ℕ) (vs : List N) (t : Ty N) : Type 0 where
  pub few : length vs ≤ q
  pub well_formed : goodTy ν held 0 t ≡ true
  pub unmixed_names : unmixed ν (opens t) ≡ true

-- quantifying name after name is one replacing, and the count of all names that were handed
abbrev pub QuantifyingAtOnce : Type 0 → Type 0
QuantifyingAtOnce N = (ν : Names N) (held : N → Bool) (q : ℕ) → Told ν held q
    → (vs : List N) (t : Ty N) (bs : List (Open N)) → Handed ν held q vs t
    → quantify ν bounded vs t bs
    ≡ (replaceTy ν bounded (renamed (all_of ν 0 vs)) t >>= λ u.
    schemeLimited bounded 1 u (renamedBounds (all_of ν 0 vs) bs) (scheme (length vs) u (renamedBounds (all_of ν 0 vs) bs)))

-- what quantifying gave, instantiated with the same names: the type, with products that are one variable to the power 1 read as that variable, and the bounds
abbrev pub QuantifiedAndBack : Type 0 → Type 0
QuantifiedAndBack N = (ν : Names N) (held : N → Bool) (q : ℕ) → Told ν held q
    → (vs : List N) (t : Ty N) → Handed ν held q vs t → Apart held vs t
    → (bs : List (Open N)) → All (λ o. (x : N) × (o ≡ var x)) bs
    → (s : Scheme N) → quantify ν bounded vs t bs ≡ got s → instantiate ν bounded vs s ≡ got (plain t true, bs)

-- so the type itself comes back, where it has no such product
abbrev pub SameTypeAgain : Type 0 → Type 0
SameTypeAgain N = (ν : Names N) (held : N → Bool) (q : ℕ) → Told ν held q
    → (vs : List N) (t : Ty N) → Handed ν held q vs t → Apart held vs t → plain t true ≡ t
    → (bs : List (Open N)) → All (λ o. (x : N) × (o ≡ var x)) bs
    → (s : Scheme N) → quantify ν bounded vs t bs ≡ got s → instantiate ν bounded vs s ≡ got (t, bs)
