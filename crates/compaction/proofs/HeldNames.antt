-- A well formed set names held numbers only: every record of it.
use Rattle.std.specs.Prelude.{◌≡◌, Bool, ◌&&◌, ℕ, suc, ◌<◌, length}
use Rattle.std.proofs.Math.Path.{refl}
use Rattle.std.proofs.Common.{sym, ap, ◌∙◌, arith}
use Rattle.std.proofs.Math.Bool.{true, false}
use mathlib.Core.List.{List, [], ◌∷◌, map}
use Rattle.std.proofs.Math.Option.{Option, none, some}
use Rattle.rules.specs.Base.{got, ◌>>=◌, need, orRefuse, any, all, collect}
use Rattle.rules.specs.Calls.{listGiven, setGiven}
use Rattle.rules.specs.Exponents.{frac}
use Rattle.rules.specs.Names.{Table, numbersOf, is_held}
use Rattle.rules.specs.Offices.{namesOne}
use Rattle.rules.specs.Reading.{read_all, readCon, records}
use Rattle.rules.specs.Trees.{
  Open,
  var,
  quant,
  par,
  free,
  base,
  Factor,
  ◌↑◌,
  Product,
  Ty,
  opened,
  basic,
  dim,
  fn,
  struct,
  list,
  Tys,
  nil,
  cons,
  Fields,
  noFields,
  field,
  Con,
  equal,
  isDim,
  is_scalar,
  hasField,
  size,
  sizeCon,
  count,
}
use Rattle.rules.specs.Views.{kindOpen, kindBasic}
use Rattle.rules.specs.Trees.{Basic, boolean, string, datetime, orderAtom}
use Rattle.rules.specs.WellFormed.{rising, atomOf, goodOpen, goodFactor, goodProduct, goodTy, goodTys, goodFields, goodCon}
use Rattle.rules.specs.Writing.{Rec, rec, head, kindIn, twos, word_of, words, writeFactor, writeProduct, writeTy, writeTys, writeFields, writeCon}
use Rattle.laws.specs.Heads.{kind-head}
use Rattle.laws.specs.Lists.{Every, and_left, and_right}
use Rattle.laws.proofs.Lists.{every_append, clash}
use Rattle.laws.specs.ReadLists.{Words}
use Rattle.laws.proofs.ReadLists.{taken, all_read, con-read}

module _ (t : Table) where
  -- if a record names a number, it is held
  abbrev pub HeldRec : Rec → Type 0
  HeldRec (rec w a b c) = namesOne (kindIn w) b ≡ true → is_held t a ≡ true

  no_name : (k n a b c : ℕ) → k < 65_536 → namesOne k b ≡ false → HeldRec (rec (head k n) a b c)
  no_name k n a b c h e q = absurd (let y : true ≡ false = sym q ∙ ap (λ (j : ℕ). namesOne j b) (kind-head k n h) ∙ e in cc)

  held-open : (o : Open ℕ) → goodOpen (numbersOf t) (is_held t) 0 o ≡ true → HeldRec (rec (head (kindOpen o) 1) (word_of o) 0 0)
  unfolding goodOpen namesOne any
  held-open (var x) h = λ q. h
  held-open (quant i) h = no_name 14 1 i 0 0 (omega arith) refl
  held-open (par x) h = λ q. h

  held-factor : (f : Factor ℕ) → goodFactor (numbersOf t) (is_held t) 0 f ≡ true → HeldRec (writeFactor f)
  unfolding goodFactor goodOpen writeFactor namesOne any
  held-factor (free (var x) ↑ frac n d) h = λ q. and_left (is_held t x) _ h
  held-factor (free (par x) ↑ frac n d) h = λ q. and_left (is_held t x) _ h
  held-factor (free (quant i) ↑ frac n d) h = no_name 15 1 i (twos n) d (omega arith) refl
  held-factor (base x ↑ frac n d) h = λ q. and_left (is_held t x) _ h

  held-factors : (p : Product ℕ) → all (goodFactor (numbersOf t) (is_held t) 0) p ≡ true → Every HeldRec (map writeFactor p)
  unfolding all
  held-factors [] h = tt
  held-factors (f ∷ p) h = (
    held-factor f (and_left (goodFactor (numbersOf t) (is_held t) 0 f) _ h),
    held-factors p (and_right (goodFactor (numbersOf t) (is_held t) 0 f) _ h),
  )

  held-product : (p : Product ℕ) → goodProduct (numbersOf t) (is_held t) 0 p ≡ true → Every HeldRec (writeProduct p)
  unfolding goodProduct writeProduct namesOne any
  held-product p h =
      let two = and_left (all (goodFactor (numbersOf t) (is_held t) 0) p && rising (orderAtom (numbersOf t)) (map atomOf p)) _ h in
      (no_name 3 (suc (length p)) (length p) 0 0 (omega arith) refl, held-factors p (and_left (all (goodFactor (numbersOf t) (is_held t) 0) p) _ two))

  held-basic : (b : Basic) → HeldRec (rec (head (kindBasic b) 1) 0 0 0)
  unfolding namesOne any
  held-basic boolean = no_name 4 1 0 0 0 (omega arith) refl
  held-basic string = no_name 5 1 0 0 0 (omega arith) refl
  held-basic datetime = no_name 6 1 0 0 0 (omega arith) refl

  mutual
    unfolding goodTy writeTy namesOne any

    held-ty : (u : Ty ℕ) → goodTy (numbersOf t) (is_held t) 0 u ≡ true → Every HeldRec (writeTy u)
    held-ty (opened o) h = (held-open o h, tt)
    held-ty (basic b) h = (held-basic b, tt)
    held-ty (dim p) h = held-product p h
    held-ty (fn ps r) h = (
      no_name 7 (size (fn ps r)) (count ps) 0 0 (omega arith) refl,
      every_append HeldRec (writeTys ps) (writeTy r) (held-tys ps (and_left (goodTys (numbersOf t) (is_held t) 0 ps) _ h))
          (held-ty r (and_right (goodTys (numbersOf t) (is_held t) 0 ps) _ h)),
    )
    held-ty (struct n as' fs) h =
        let G = goodTys (numbersOf t) (is_held t) 0 as' in
        let F = goodFields (numbersOf t) (is_held t) 0 fs in
        let three = and_left (is_held t n && G && F) _ h in
        let two = and_left (is_held t n && G) F three in (
          (λ q. and_left (is_held t n) G two),
          every_append HeldRec (writeTys as') (writeFields fs) (held-tys as' (and_right (is_held t n) G two))
              (held-fields fs (and_right (is_held t n && G) F three)),
        )
    held-ty (list u) h = (no_name 10 (size (list u)) 0 0 0 (omega arith) refl, held-ty u h)

    held-tys : (us : Tys ℕ) → goodTys (numbersOf t) (is_held t) 0 us ≡ true → Every HeldRec (writeTys us)
    held-tys nil h = tt
    held-tys (cons u us) h = every_append HeldRec (writeTy u) (writeTys us) (held-ty u (and_left (goodTy (numbersOf t) (is_held t) 0 u) _ h))
        (held-tys us (and_right (goodTy (numbersOf t) (is_held t) 0 u) _ h))

    held-fields : (fs : Fields ℕ) → goodFields (numbersOf t) (is_held t) 0 fs ≡ true → Every HeldRec (writeFields fs)
    held-fields noFields h = tt
    held-fields (field n u fs) h =
        let G = goodTy (numbersOf t) (is_held t) 0 u in
        let F = goodFields (numbersOf t) (is_held t) 0 fs in
        let two = and_left (is_held t n && G) F h in (
          (λ q. and_left (is_held t n) G two),
          every_append HeldRec (writeTy u) (writeFields fs) (held-ty u (and_right (is_held t n) G two)) (held-fields fs (and_right (is_held t n && G) F h)),
        )

  held-con : (c : Con ℕ) → goodCon (numbersOf t) (is_held t) 0 c ≡ true → Every HeldRec (writeCon c)
  unfolding goodCon writeCon namesOne any
  held-con (equal l r) h = (
    no_name 20 (sizeCon (equal l r)) 0 0 0 (omega arith) refl,
    every_append HeldRec (writeTy l) (writeTy r) (held-ty l (and_left (goodTy (numbersOf t) (is_held t) 0 l) _ h))
        (held-ty r (and_right (goodTy (numbersOf t) (is_held t) 0 l) _ h)),
  )
  held-con (isDim u) h = (no_name 21 (sizeCon (isDim u)) 0 0 0 (omega arith) refl, held-ty u h)
  held-con (is_scalar p) h = (no_name 22 (sizeCon (is_scalar p)) 0 0 0 (omega arith) refl, held-product p h)
  held-con (hasField n s u) h =
      let G = goodTy (numbersOf t) (is_held t) 0 s in
      let U = goodTy (numbersOf t) (is_held t) 0 u in
      let two = and_left (is_held t n && G) U h in (
        (λ q. and_left (is_held t n) G two),
        every_append HeldRec (writeTy s) (writeTy u) (held-ty s (and_right (is_held t n) G two)) (held-ty u (and_right (is_held t n && G) U h)),
      )

  held_cons : (cs : List (Con ℕ)) → all (goodCon (numbersOf t) (is_held t) 0) cs ≡ true → Every HeldRec (collect writeCon cs)
  unfolding all collect
  held_cons [] h = tt
  held_cons (c ∷ cs) h = every_append HeldRec (writeCon c) (collect writeCon cs) (held-con c (and_left (goodCon (numbersOf t) (is_held t) 0 c) _ h))
      (held_cons cs (and_right (goodCon (numbersOf t) (is_held t) 0 c) _ h))

  -- the same, of words
  unfoldable pub HeldWords : List ℕ → Type 0
  HeldWords [] = Unit {0}
  HeldWords (w ∷ []) = Unit {0}
  HeldWords (w ∷ a ∷ []) = Unit {0}
  HeldWords (w ∷ a ∷ b ∷ []) = Unit {0}
  HeldWords (w ∷ a ∷ b ∷ c ∷ ws) = HeldRec (rec w a b c) × HeldWords ws

  held-words : (rs : List Rec) → Every HeldRec rs → HeldWords (words rs)
  unfolding words HeldWords
  held-words [] h = tt
  held-words (rec w a b c ∷ rs) h = (h.0, held-words rs h.1)

  pub set-held : (ws : List ℕ) → Words ws → (cs : List (Con ℕ)) → setGiven t ws ≡ got cs → HeldWords ws
  unfolding setGiven listGiven
  set-held ws w cs e = go (records ws) refl e
    where
      last : (rs : List Rec) (b : Bool) (ds : List (Con ℕ)) → records ws ≡ some rs → read_all readCon (length rs) rs ≡ some ds
          → all (goodCon (numbersOf t) (is_held t) 0) ds ≡ b → (need b 1 >>= λ _. got ds) ≡ got cs → HeldWords ws
      last rs false ds r q g e = clash e
      last rs true ds r q g e =
          let k = (taken ws w).back rs r in
          rw (← k.0) (held-words rs (rw (all_read writeCon readCon con-read (length rs) rs ds k.1 q) (held_cons ds g)))

      next : (rs : List Rec) (o : Option (List (Con ℕ))) → records ws ≡ some rs → read_all readCon (length rs) rs ≡ o
          → (orRefuse 1 o >>= λ ds. need (all (goodCon (numbersOf t) (is_held t) 0) ds) 1 >>= λ _. got ds) ≡ got cs → HeldWords ws
      next rs none r q e = clash e
      next rs (some ds) r q e = last rs (all (goodCon (numbersOf t) (is_held t) 0) ds) ds r q refl e

      go : (o : Option (List Rec)) → records ws ≡ o
          → (orRefuse 1 o >>= λ rs. orRefuse 1 (read_all readCon (length rs) rs) >>= λ ds. need (all (goodCon (numbersOf t) (is_held t) 0) ds) 1
          >>= λ _. got ds) ≡ got cs → HeldWords ws
      go none r e = clash e
      go (some rs) r e = next rs (read_all readCon (length rs) rs) r refl e
