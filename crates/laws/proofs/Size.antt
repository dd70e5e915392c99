-- As many records are written as the size says, and four words a record.
use Rattle.std.specs.Prelude.{◌≡◌, refl, List, [], ◌∷◌, ◌++◌, ℕ, suc, ◌*◌, length}
use Rattle.std.proofs.Common.{ap, arith, length-append}
use Rattle.std.proofs.lemmas.List.{length-map}
use Rattle.rules.specs.Base.{collect, sum_of}
use Rattle.rules.specs.Trees.{
  Ty,
  opened,
  basic,
  dim,
  fn,
  struct,
  list,
  Tys,
  nil,
  cons,
  Fields,
  noFields,
  field,
  Con,
  equal,
  isDim,
  is_scalar,
  hasField,
  Binding,
  ◌≔◌,
  size,
  sizeTys,
  sizeFields,
  sizeCon,
  sizeBinding,
}
use Rattle.rules.specs.Writing.{Rec, rec, words, writeTy, writeTys, writeFields, writeProduct, writeCon, writeBinding}

mutual
  unfolding size writeTy writeProduct

  pub size-ty : (t : Ty ℕ) → length (writeTy t) ≡ size t
  size-ty (opened o) = refl
  size-ty (basic b) = refl
  size-ty (dim p) = simp length-map
  size-ty (fn ps r) = simp (length-append, size-tys ps, size-ty r)
  size-ty (struct n as' fs) = simp (length-append, size-tys as', size-fields fs)
  size-ty (list t) = ap suc (size-ty t)

  pub size-tys : (ts : Tys ℕ) → length (writeTys ts) ≡ sizeTys ts
  size-tys nil = refl
  size-tys (cons t ts) = simp (length-append, size-ty t, size-tys ts)

  pub size-fields : (fs : Fields ℕ) → length (writeFields fs) ≡ sizeFields fs
  size-fields noFields = refl
  size-fields (field n t fs) = simp (length-append, size-ty t, size-fields fs)

pub size-con : (c : Con ℕ) → length (writeCon c) ≡ sizeCon c
unfolding sizeCon writeCon size writeTy writeProduct
size-con (equal l r) = simp (length-append, size-ty l, size-ty r)
size-con (isDim t) = ap suc (size-ty t)
size-con (is_scalar p) = simp length-map
size-con (hasField n s t) = simp (length-append, size-ty s, size-ty t)

pub size-binding : (b : Binding ℕ) → length (writeBinding b) ≡ sizeBinding b
unfolding sizeBinding writeBinding
size-binding (x ≔ t) = ap suc (size-ty t)

-- four words a record
pub words-length : (rs : List Rec) → length (words rs) ≡ length rs * 4
unfolding words
words-length [] = refl
words-length (rec k a b c ∷ rs) = omega (arith, words-length rs)

pub set-length : (cs : List (Con ℕ)) → length (collect writeCon cs) ≡ sum_of sizeCon cs
unfolding collect
set-length [] = refl
set-length (c ∷ cs) = simp (length-append, size-con c, set-length cs)

pub bindings-length : (bs : List (Binding ℕ)) → length (collect writeBinding bs) ≡ sum_of sizeBinding bs
unfolding collect
bindings-length [] = refl
bindings-length (b ∷ bs) = simp (length-append, size-binding b, bindings-length bs)

pub words_append : (a b : List Rec) → words (a ++ b) ≡ words a ++ words b
unfolding words
words_append [] b = refl
words_append (rec k x y z ∷ a) b = ap (λ (l : List ℕ). k ∷ x ∷ y ∷ z ∷ l) (words_append a b)
