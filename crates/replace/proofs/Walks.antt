-- Replacing in a type, arm by arm: what each arm leaves behind the writer.
use Rattle.std.specs.Prelude.{◌≡◌, Bool, true, List, [], ◌∷◌, ◌++◌, ℕ, suc, ◌+◌, ◌≤◌, length, Result, Ok, Err, refl}
use Rattle.std.proofs.Common.{arith, ap, sym, subst, ◌∙◌, length-append}
use Rattle.std.proofs.Math.Bool.{◌&&◌, and-eq-true_iff}
use Rattle.std.proofs.Math.Option.{Option, none, some, get_or}
use Rattle.rules.specs.Base.{Got, got, refused, ◌>>=◌, bounded}
use Rattle.rules.specs.Names.{table_of, is_held}
use Rattle.rules.specs.Refusals.{number_of}
use Rattle.rules.specs.declared.Refusal.{Refusal}
use Rattle.rules.specs.Replacing.{Look, replaceTy, replaceTys, replaceFields}
use Rattle.rules.specs.Trees.{Ty, opened, basic, fn, struct, list, Tys, nil, cons, Fields, noFields, field, size, sizeTys, sizeFields, count, countFields}
use Rattle.rules.specs.Trees as tree
use Rattle.rules.specs.WellFormed.{goodTy, goodTys, goodFields, rising, fieldNames}
use Rattle.rules.specs.Writing.{Rec, writeTy, writeTys, writeFields}
use Rattle.laws.proofs.Size.{size-ty, size-tys, size-fields}
use Rattle.laws.proofs.Value.{Gives, gives, next, its_own}
use Rattle.records.specs.Holds.{openOf}
use Rattle.records.specs.declared.Open as names
use Rattle.records.specs.Cut.{fit, cutRec, cut}
use Rattle.records.proofs.Cut.{fits, cut-append, cut-length, short-ty}
use Rattle.records.proofs.Places.{cut-view}
use Rattle.records.specs.Views.{recOf}
use Rattle.records.specs.declared.View.{View}
use Rattle.records.specs.declared.View.TheVariants as view
use Rattle.types.specs.declared.writer.Writer.{Writer}
use Rattle.types.specs.Written.{Writes, Reserves, Begins}
use Rattle.types.proofs.Written.{writes-none, writes-then, part-writes}
use Rattle.replace.specs.Well as well
use Rattle.replace.specs.Well.{GoodProduct, GoodTy, GoodTys, GoodFields}
use Rattle.replace.specs.Leaves.{becomes, LeavesOf, Leaves}

-- ══ What was left ══

module _ {A : Type 0} {ws : A → List Rec} {w w' : Writer} where
  -- a walk that went on
  pub on : {P : Type 0} {R : Got A} → Leaves ws w w' (Ok tt) R → ((a : A) → R ≡ got a → Writes w w' (cut (ws a)) → P) → P
  on {P} {R} h k = go R refl h.says
    where
      go : (S : Got A) → R ≡ S → LeavesOf ws w w' (Ok tt) S → P
      go (got a) e p = k a e p
      go (refused k) e p = absurd p

  -- a walk that stopped
  pub stopped : {k : Refusal} {R : Got A} → Leaves ws w w' (Err k) R → R ≡ refused (number_of k)
  stopped {k} {R} h = go R h.says
    where
      go : (R : Got A) → LeavesOf ws w w' (Err k) R → R ≡ refused (number_of k)
      go (got a) p = absurd p
      go (refused j) p = ap (λ (n : ℕ). refused n) (sym p)

  pub leaves : {R : Got A} (a : A) → R ≡ got a → Writes w w' (cut (ws a)) → Leaves ws w w' (Ok tt) R
  leaves a e p = subst (Leaves ws w w' (Ok tt)) (sym e) (record { same = p.same; says = p })

  pub stops : {k : Refusal} {R : Got A} → R ≡ refused (number_of k) → w'.words.ghost_name ≡ w.words.ghost_name → Leaves ws w w' (Err k) R
  stops {k} e s = subst (Leaves ws w w' (Err k)) (sym e) (record { same = s; says = refl })

  pub told : {r q : Result (Unit {0}) Refusal} {R : Got A} → r ≡ q → Leaves ws w w' r R → Leaves ws w w' q R
  told {R = R} e h = subst (λ (x : Result (Unit {0}) Refusal). Leaves ws w w' x R) e h

-- a record before what is behind it
pub headed : {w w₁ w₂ w₃ : Writer} {start n : ℕ} (v : View) (rs : List Rec) → n ≡ suc (length rs) → Reserves w w₁ start → Writes w₁ w₂ (cut rs)
    → Begins w₂ w₃ start v
    → Writes w w₃ (cut (recOf v n ∷ rs))
headed {w} {w₃ = w₃} v rs e r p b =
    let h : recOf v (fit (suc (length (cut rs)))) ≡ cutRec (recOf v _) = ap (λ (k : ℕ). recOf v (fit k)) (ap suc (cut-length rs) ∙ sym e)
    ∙ sym (cut-view v _) in
    subst (λ (x : Rec). Writes w w₃ (x ∷ cut rs)) h (part-writes v (cut rs) r p b)

pub after : {w w₁ w₂ : Writer} (rs qs : List Rec) → Writes w w₁ (cut rs) → Writes w₁ w₂ (cut qs) → Writes w w₂ (cut (rs ++ qs))
after {w} {w₂ = w₂} rs qs p q = subst (Writes w w₂) (sym (cut-append rs qs)) (writes-then (cut rs) (cut qs) p q)

-- records, and then those of a walk: together they are a value's
pub behind : {A B : Type 0} {ws : A → List Rec} {ws' : B → List Rec} {w w₁ w₂ : Writer} {r : Result (Unit {0}) Refusal} {R : Got A} (f : A → B) (rs : List Rec)
    → ((a : A) → ws' (f a) ≡ rs ++ ws a) → Writes w w₁ (cut rs) → Leaves ws w₁ w₂ r R → Leaves ws' w w₂ r (R >>= λ a. got (f a))
behind {A} {ws = ws} {ws'} {w} {w₁} {w₂} {r} {R} f rs h p q = record { same = q.same ∙ p.same; says = go r R q.says }
  where
    go : (r : Result (Unit {0}) Refusal) (R : Got A) → LeavesOf ws w₁ w₂ r R → LeavesOf ws' w w₂ r (R >>= λ a. got (f a))
    go (Ok u) (got a) b = subst (λ (l : List Rec). Writes w w₂ (cut l)) (sym (h a)) (after rs (ws a) p b)
    go (Ok u) (refused k) b = b
    go (Err k) (got a) b = b
    go (Err k) (refused j) b = b

-- a type that is short is written as it is
pub short-writes : {w w' : Writer} {t u : Ty ℕ} → t ≡ u → size t ≤ 65_535 → Writes w w' (writeTy t) → Writes w w' (cut (writeTy u))
short-writes {w} {w'} {t} e n p = subst (λ (x : Ty ℕ). Writes w w' (cut (writeTy x))) e (subst (Writes w w') (sym (short-ty t n)) p)

-- a walk that stopped stops what goes on from it
pub halts : {A B : Type 0} {ws : A → List Rec} {ws' : B → List Rec} {w w₁ w₂ : Writer} {k : Refusal} {R : Got A} (f : A → Got B)
    → w₁.words.ghost_name ≡ w.words.ghost_name
    → Leaves ws w₁ w₂ (Err k) R → Leaves ws' w w₂ (Err k) (R >>= f)
halts f s p = stops (rw (stopped p)) (p.same ∙ s)

-- a record, and a value behind it
pub under : {A B : Type 0} {ws : A → List Rec} {ws' : B → List Rec} {w w₁ w₂ w₃ : Writer} {start : ℕ} {R : Got A} (f : A → B) (v : View)
    → ((a : A) → ws' (f a) ≡ recOf v (suc (length (ws a))) ∷ ws a) → Reserves w w₁ start → Leaves ws w₁ w₂ (Ok tt) R → Begins w₂ w₃ start v
    → Leaves ws' w w₃ (Ok tt) (R >>= λ a. got (f a))
under {ws = ws} {w = w} {w₃ = w₃} f v h r p b =
    on p (λ a i k. leaves (f a) (rw i) (subst (λ (l : List Rec). Writes w w₃ (cut l)) (sym (h a)) (headed v (ws a) refl r k b)))

-- ══ Sizes of parts ══

pub sizes-fields : (x : ℕ) (t : Ty ℕ) (fs gs : Fields ℕ) → field x t fs ≡ gs → suc (size t + sizeFields fs) ≡ sizeFields gs
unfolding sizeFields
sizes-fields x t fs gs e = ap sizeFields e

pub sizes-function : (ps : Tys ℕ) (t u : Ty ℕ) → fn ps t ≡ u → suc (sizeTys ps + size t) ≡ size u
unfolding size
sizes-function ps t u e = ap size e

pub sizes-struct : (x : ℕ) (ts : Tys ℕ) (fs : Fields ℕ) (u : Ty ℕ) → struct x ts fs ≡ u → suc (sizeTys ts + sizeFields fs) ≡ size u
unfolding size
sizes-struct x ts fs u e = ap size e

pub sizes-list : (t u : Ty ℕ) → list t ≡ u → suc (size t) ≡ size u
unfolding size
sizes-list t u e = ap size e

-- ══ The parts of a well formed type ══

module _ (pool table : List ℕ) where
  pub both : (a c : Bool) → a && c ≡ true → (a ≡ true) × (c ≡ true)
  both a c h = (and-eq-true_iff a c).0 h

  pub fn-good : (ps : Tys ℕ) (t : Ty ℕ) {u : Ty ℕ} → fn ps t ≡ u → GoodTy pool table u → GoodTys pool table ps × GoodTy pool table t
  unfolding goodTy
  fn-good ps t e h = both (goodTys _ _ _ ps) (goodTy _ _ _ t) (subst (GoodTy pool table) (sym e) h)

  pub struct-good : (n : ℕ) (ts : Tys ℕ) (fs : Fields ℕ) {u : Ty ℕ} → struct n ts fs ≡ u → GoodTy pool table u → GoodTys pool table ts
      × GoodFields pool table fs
  unfolding goodTy
  struct-good n ts fs e h =
      let a = both _ (rising (well.names pool table).order (fieldNames fs)) (subst (GoodTy pool table) (sym e) h) in
      let c = both _ (goodFields _ _ _ fs) a.0 in
      ((both (is_held (table_of pool table) n) (goodTys _ _ _ ts) c.0).1, c.1)

  pub list-good : (t : Ty ℕ) {u : Ty ℕ} → list t ≡ u → GoodTy pool table u → GoodTy pool table t
  unfolding goodTy
  list-good t e h = subst (GoodTy pool table) (sym e) h

  pub dim-good : (p : tree.Product ℕ) {u : Ty ℕ} → tree.dim p ≡ u → GoodTy pool table u → GoodProduct pool table p
  unfolding goodTy
  dim-good p e h = subst (GoodTy pool table) (sym e) h

  pub cons-good : (t : Ty ℕ) (ts : Tys ℕ) {us : Tys ℕ} → cons t ts ≡ us → GoodTys pool table us → GoodTy pool table t × GoodTys pool table ts
  unfolding goodTy
  cons-good t ts e h = both (goodTy _ _ _ t) (goodTys _ _ _ ts) (subst (GoodTys pool table) (sym e) h)

  pub field-good : (n : ℕ) (t : Ty ℕ) (fs : Fields ℕ) {gs : Fields ℕ} → field n t fs ≡ gs → GoodFields pool table gs → GoodTy pool table t
      × GoodFields pool table fs
  unfolding goodTy
  field-good n t fs e h =
      let a = both _ (goodFields _ _ _ fs) (subst (GoodFields pool table) (sym e) h) in
      ((both (is_held (table_of pool table) n) (goodTy _ _ _ t) a.0).1, a.1)

-- ══ What an open name becomes ══

open-rec : (o : names.Open) → recOf (view.Opened o) 1 ∷ [] ≡ writeTy (opened (openOf o))
unfolding writeTy
open-rec (names.TheVariants.Var x) = refl
open-rec (names.TheVariants.Quant i) = refl
open-rec (names.TheVariants.Par x) = refl

module _ (look : Look ℕ) (o : tree.Open ℕ) where
  pub becomes-short : ((t : Ty ℕ) → look o ≡ some t → size t ≤ 2048) → size (becomes look o) ≤ 65_535
  unfolding size
  becomes-short few = go (look o) refl
    where
      go : (m : Option (Ty ℕ)) → look o ≡ m → size (get_or m (opened o)) ≤ 65_535
      go none e = omega arith
      go (some t) e = omega (arith, few t e)

pub open-kept : (look : Look ℕ) (o : names.Open) {w w' : Writer} → none ≡ look (openOf o) → Writes w w' (recOf (view.Opened o) (fit 1) ∷ [])
    → Writes w w' (writeTy (becomes look (openOf o)))
open-kept look o {w} {w'} e p =
    subst (Writes w w') (ap (λ (k : ℕ). recOf (view.Opened o) k ∷ []) (fits 1 (omega arith)) ∙ open-rec o
    ∙ ap (λ (m : Option (Ty ℕ)). writeTy (get_or m (opened (openOf o)))) e) p

-- ══ Arm by arm ══

module _ (pool table : List ℕ) (look : Look ℕ) where
  abbrev pub Ty' : Ty ℕ → Got (Ty ℕ)
  Ty' t = replaceTy (well.names pool table) bounded look t

  abbrev pub Tys' : Tys ℕ → Got (Tys ℕ)
  Tys' ts = replaceTys (well.names pool table) bounded look ts

  abbrev pub Fields' : Fields ℕ → Got (Fields ℕ)
  Fields' fs = replaceFields (well.names pool table) bounded look fs

  tys-count : (ts : Tys ℕ) → Gives (Tys' ts) (λ us. count us ≡ count ts)
  unfolding replaceTy count
  tys-count nil = gives refl
  tys-count (cons t ts) = next (its_own (Ty' t)) (λ q i. next (tys-count ts) (λ qs j. gives (ap suc j)))

  fields-count : (fs : Fields ℕ) → Gives (Fields' fs) (λ gs. countFields gs ≡ countFields fs)
  unfolding replaceTy countFields
  fields-count noFields = gives refl
  fields-count (field n t fs) = next (its_own (Ty' t)) (λ q i. next (fields-count fs) (λ gs j. gives (ap suc j)))

  module _ {w : Writer} where
    pub open-here : {w' : Writer} {o : tree.Open ℕ} {t : Ty ℕ} → opened o ≡ t → size (becomes look o) ≤ 65_535
        → Writes w w' (writeTy (becomes look o)) → Leaves writeTy w w' (Ok tt) (Ty' t)
    unfolding replaceTy
    open-here {w'} {o} e n p = subst (λ (u : Ty ℕ). Leaves writeTy w w' (Ok tt) (Ty' u)) e (leaves (becomes look o) refl (short-writes refl n p))

    pub basic-here : {w' : Writer} {b : tree.Basic} {t : Ty ℕ} → basic b ≡ t → Writes w w' (writeTy t) → Leaves writeTy w w' (Ok tt) (Ty' t)
    unfolding replaceTy size
    basic-here {b = b} {t} e p = leaves t (subst (λ (u : Ty ℕ). Ty' u ≡ got u) e refl) (short-writes refl (omega (arith, ap size e)) p)

    pub list-here : {w₁ w₂ w₃ : Writer} {start : ℕ} {t u : Ty ℕ} → list t ≡ u → Reserves w w₁ start → Leaves writeTy w₁ w₂ (Ok tt) (Ty' t)
        → Begins w₂ w₃ start view.List
        → Leaves writeTy w w₃ (Ok tt) (Ty' u)
    unfolding replaceTy writeTy size
    list-here {w₃ = w₃} e r p b =
        subst (λ (u : Ty ℕ). Leaves writeTy w w₃ (Ok tt) (Ty' u)) e
        (on p (λ v i k. leaves (list v) (rw i) (headed view.List (writeTy v) (omega (arith, size-ty v)) r k b)))

    pub list-stop : {w₁ w₂ : Writer} {start : ℕ} {t u : Ty ℕ} {k : Refusal} → list t ≡ u → Reserves w w₁ start → Leaves writeTy w₁ w₂ (Err k) (Ty' t)
        → Leaves writeTy w w₂ (Err k) (Ty' u)
    unfolding replaceTy
    list-stop {w₂ = w₂} {k = k} e r p = subst (λ (u : Ty ℕ). Leaves writeTy w w₂ (Err k) (Ty' u)) e (stops (rw (stopped p)) (p.same ∙ r.same))

    pub function-here : {w₁ w₂ w₃ w₄ : Writer} {start n : ℕ} {ps : Tys ℕ} {t u : Ty ℕ} → fn ps t ≡ u → count ps ≡ n → Reserves w w₁ start
        → Leaves writeTys w₁ w₂ (Ok tt) (Tys' ps) → Leaves writeTy w₂ w₃ (Ok tt) (Ty' t) → Begins w₃ w₄ start (view.Function n)
        → Leaves writeTy w w₄ (Ok tt) (Ty' u)
    unfolding replaceTy writeTy size
    function-here {w₄ = w₄} {ps = ps} e c r p q b =
        subst (λ (u : Ty ℕ). Leaves writeTy w w₄ (Ok tt) (Ty' u)) e
        (on p (λ qs i k. on q (λ v j l.
        let d = sym ((tys-count ps).holds qs i ∙ c) in
        leaves (fn qs v) (rw (i, j))
        (headed (view.Function (count qs)) (writeTys qs ++ writeTy v) (omega (arith, length-append (writeTys qs) (writeTy v), size-tys qs, size-ty v)) r
        (after (writeTys qs) (writeTy v) k l) (rw d at b)))))

    pub function-stop : {w₁ w₂ : Writer} {start : ℕ} {ps : Tys ℕ} {t u : Ty ℕ} {k : Refusal} → fn ps t ≡ u → Reserves w w₁ start
        → Leaves writeTys w₁ w₂ (Err k) (Tys' ps)
        → Leaves writeTy w w₂ (Err k) (Ty' u)
    unfolding replaceTy
    function-stop {w₂ = w₂} {k = k} e r p = subst (λ (u : Ty ℕ). Leaves writeTy w w₂ (Err k) (Ty' u)) e (stops (rw (stopped p)) (p.same ∙ r.same))

    pub return-stop : {w₁ w₂ w₃ : Writer} {start : ℕ} {ps : Tys ℕ} {t u : Ty ℕ} {k : Refusal} → fn ps t ≡ u → Reserves w w₁ start
        → Leaves writeTys w₁ w₂ (Ok tt) (Tys' ps)
        → Leaves writeTy w₂ w₃ (Err k) (Ty' t) → Leaves writeTy w w₃ (Err k) (Ty' u)
    unfolding replaceTy
    return-stop {w₃ = w₃} {k = k} e r p q =
        subst (λ (u : Ty ℕ). Leaves writeTy w w₃ (Err k) (Ty' u)) e (on p (λ qs i l. stops (rw (i, stopped q)) (q.same ∙ p.same ∙ r.same)))

    pub struct-here : {w₁ w₂ w₃ w₄ : Writer} {start x n m : ℕ} {ts : Tys ℕ} {fs : Fields ℕ} {u : Ty ℕ} → struct x ts fs ≡ u → count ts ≡ n → countFields fs ≡ m
        → Reserves w w₁ start → Leaves writeTys w₁ w₂ (Ok tt) (Tys' ts) → Leaves writeFields w₂ w₃ (Ok tt) (Fields' fs) → Begins w₃ w₄ start (view.Struct x n m)
        → Leaves writeTy w w₄ (Ok tt) (Ty' u)
    unfolding replaceTy writeTy size
    struct-here {w₄ = w₄} {x = x} {ts = ts} {fs} e c c₂ r p q b =
        subst (λ (u : Ty ℕ). Leaves writeTy w w₄ (Ok tt) (Ty' u)) e
        (on p (λ us i k. on q (λ gs j l.
        let d = sym ((tys-count ts).holds us i ∙ c) in
        let d₂ = sym ((fields-count fs).holds gs j ∙ c₂) in
        leaves (struct x us gs) (rw (i, j))
        (headed (view.Struct x (count us) (countFields gs)) (writeTys us ++ writeFields gs)
        (omega (arith, length-append (writeTys us) (writeFields gs), size-tys us, size-fields gs)) r (after (writeTys us) (writeFields gs) k l)
        (rw (d, d₂) at b)))))

    pub struct-stop : {w₁ w₂ : Writer} {start x : ℕ} {ts : Tys ℕ} {fs : Fields ℕ} {u : Ty ℕ} {k : Refusal} → struct x ts fs ≡ u → Reserves w w₁ start
        → Leaves writeTys w₁ w₂ (Err k) (Tys' ts) → Leaves writeTy w w₂ (Err k) (Ty' u)
    unfolding replaceTy
    struct-stop {w₂ = w₂} {k = k} e r p = subst (λ (u : Ty ℕ). Leaves writeTy w w₂ (Err k) (Ty' u)) e (stops (rw (stopped p)) (p.same ∙ r.same))

    pub fields-stop : {w₁ w₂ w₃ : Writer} {start x : ℕ} {ts : Tys ℕ} {fs : Fields ℕ} {u : Ty ℕ} {k : Refusal} → struct x ts fs ≡ u → Reserves w w₁ start
        → Leaves writeTys w₁ w₂ (Ok tt) (Tys' ts) → Leaves writeFields w₂ w₃ (Err k) (Fields' fs) → Leaves writeTy w w₃ (Err k) (Ty' u)
    unfolding replaceTy
    fields-stop {w₃ = w₃} {k = k} e r p q =
        subst (λ (u : Ty ℕ). Leaves writeTy w w₃ (Err k) (Ty' u)) e (on p (λ qs i l. stops (rw (i, stopped q)) (q.same ∙ p.same ∙ r.same)))

    -- ══ Types and fields in a row ══

    pub none-here : {ts : Tys ℕ} → nil ≡ ts → Leaves writeTys w w (Ok tt) (Tys' ts)
    unfolding replaceTy writeTy
    none-here e = subst (λ (us : Tys ℕ). Leaves writeTys w w (Ok tt) (Tys' us)) e (leaves nil refl (writes-none w))

    pub some-here : {w₁ w₂ : Writer} {r : Result (Unit {0}) Refusal} {t : Ty ℕ} {ts us : Tys ℕ} → cons t ts ≡ us → Leaves writeTy w w₁ (Ok tt) (Ty' t)
        → Leaves writeTys w₁ w₂ r (Tys' ts) → Leaves writeTys w w₂ r (Tys' us)
    unfolding replaceTy writeTy
    some-here {w₂ = w₂} {r} e p q =
        subst (λ (us : Tys ℕ). Leaves writeTys w w₂ r (Tys' us)) e (on p (λ v i k. rw i (behind (cons v) (writeTy v) (λ us. refl) k q)))

    pub first-stop : {w₁ : Writer} {k : Refusal} {t : Ty ℕ} {ts us : Tys ℕ} → cons t ts ≡ us → Leaves writeTy w w₁ (Err k) (Ty' t)
        → Leaves writeTys w w₁ (Err k) (Tys' us)
    unfolding replaceTy
    first-stop {w₁} {k} e p = subst (λ (us : Tys ℕ). Leaves writeTys w w₁ (Err k) (Tys' us)) e (stops (rw (stopped p)) p.same)

    pub no-fields : {fs : Fields ℕ} → noFields ≡ fs → Leaves writeFields w w (Ok tt) (Fields' fs)
    unfolding replaceTy writeTy
    no-fields e = subst (λ (gs : Fields ℕ). Leaves writeFields w w (Ok tt) (Fields' gs)) e (leaves noFields refl (writes-none w))

    pub field-here : {w₁ w₂ w₃ w₄ : Writer} {start x : ℕ} {r : Result (Unit {0}) Refusal} {t : Ty ℕ} {fs gs : Fields ℕ} → field x t fs ≡ gs
        → Reserves w w₁ start
        → Leaves writeTy w₁ w₂ (Ok tt) (Ty' t) → Begins w₂ w₃ start (view.Field x) → Leaves writeFields w₃ w₄ r (Fields' fs)
        → Leaves writeFields w w₄ r (Fields' gs)
    unfolding replaceTy writeTy
    field-here {w₄ = w₄} {x = x} {r} e s p b q =
        subst (λ (gs : Fields ℕ). Leaves writeFields w w₄ r (Fields' gs)) e
        (on p (λ v i k.
        rw i (behind (field x v) (recOf (view.Field x) (suc (size v)) ∷ writeTy v) (λ gs. refl)
        (headed (view.Field x) (writeTy v) (omega (arith, size-ty v)) s k b) q)))

    pub field-stop : {w₁ w₂ : Writer} {start x : ℕ} {k : Refusal} {t : Ty ℕ} {fs gs : Fields ℕ} → field x t fs ≡ gs → Reserves w w₁ start
        → Leaves writeTy w₁ w₂ (Err k) (Ty' t)
        → Leaves writeFields w w₂ (Err k) (Fields' gs)
    unfolding replaceTy
    field-stop {w₂ = w₂} {k = k} e s p = subst (λ (gs : Fields ℕ). Leaves writeFields w w₂ (Err k) (Fields' gs)) e (stops (rw (stopped p)) (p.same ∙ s.same))
