-- What instantiating is given, and what it makes.
use Rattle.std.specs.Prelude.{◌≡◌, true, List, ◌++◌, map, ℕ, ◌+◌, ◌≤◌, eqb, length}
use Rattle.rules.specs.Base.{Got, got, refused, ◌>>=◌, ◌>>◌, need, bounded}
use Rattle.rules.specs.Names.{table_of, is_held}
use Rattle.rules.specs.Replacing.{replaceTy}
use Rattle.rules.specs.Schemes.{Scheme, concrete, scheme, renamed, back}
use Rattle.rules.specs.Trees.{Ty, Open, size}
use Rattle.rules.specs.Writing.{Rec, writeTy, writeBound}
use Rattle.schemes_renaming.specs.Places.{own}
use Rattle.replace.specs.Well.{names as numbers, GoodTy}
use Rattle.schemes_handed.specs.Bounds.{allBounds}
use Rattle.schemes_handed.specs.declared.Handed.{Handed}

module _ (h : Handed) where
  -- quantified variables put back, then each held variable read by itself
  abbrev pub putType : Ty ℕ → Got (Ty ℕ)
  putType t = replaceTy (numbers h.names.pool.now h.names.table.now) bounded (renamed (back h.numbers.now)) t

  abbrev pub readType : Ty ℕ → Got (Ty ℕ)
  readType u = replaceTy (numbers h.names.pool.now h.names.table.now) bounded (renamed (own (is_held (table_of h.names.pool.now h.names.table.now)))) u

  abbrev pub newBounds : List (Open ℕ) → List (Open ℕ)
  newBounds bs = allBounds true (back h.numbers.now) bs

  abbrev pub putBackAs : Ty ℕ → List (Open ℕ) → Got (List Rec)
  putBackAs t bs = putType t >>= λ u. readType u >>= λ w. got (writeTy w ++ map writeBound (newBounds bs))

  -- 9 for a concrete type and for a wrong count
  abbrev pub instantiatedAs : Scheme ℕ → Got (List Rec)
  instantiatedAs (concrete t) = refused 9
  instantiatedAs (scheme n t bs) = need (eqb n (length h.numbers.now)) 9 >> putBackAs t bs

  -- what the first walk writes is well formed, and nothing grows
  pub record Slim (bs : List (Open ℕ)) (u : Ty ℕ) : Type 0 where
    pub well : GoodTy h.names.pool.now h.names.table.now u
    pub few : size u ≤ 2048
    pub fits : (w : Ty ℕ) → readType u ≡ got w → size w + length (newBounds bs) ≤ 2048

  -- a scheme's type and bounds, with as many names as it quantifies
  pub record Ready (t : Ty ℕ) (bs : List (Open ℕ)) : Type 0 where
    pub good : GoodTy h.names.pool.now h.names.table.now t
    pub slim : (u : Ty ℕ) → putType t ≡ got u → Slim bs u

  abbrev pub ReadyScheme : Scheme ℕ → Type 0
  ReadyScheme sc = (n : ℕ) (t : Ty ℕ) (bs : List (Open ℕ)) → sc ≡ scheme n t bs → n ≡ length h.numbers.now → Ready t bs
