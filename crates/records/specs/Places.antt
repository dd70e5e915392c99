-- The records from a place on, and the one that stands at a place.
use Rattle.std.specs.Prelude.{◌≡◌, Bool, eqb, drop}
use Rattle.std.proofs.Math.Path.{refl, sym, ap₂}
use Rattle.std.proofs.Common.{ap, subst, ◌∙◌}
use Rattle.std.proofs.Math.Bool.{true, false}
use mathlib.Core.List.{List, [], ◌∷◌, cons≢nil}
use Prim.Native.Nat.{ℕ, suc, ◌+◌, ◌*◌, ◌/◌, ◌≤◌, ◌<◌}
use Rattle.std.proofs.Math.Numerals.{add-one, add-two, add-three}
use native.Mathlib.Omega.{arith}
use borrow.Author.Tests.{eqb-true, ltb-true, ltb-false}
use Rattle.std.proofs.Math.Dec.{ltb}
use Rattle.std.proofs.Math.ListN.{length, get_or, length-drop}
use Rattle.std.proofs.Math.Seq.{drop-cons}
use Rattle.rules.specs.Base.{all}
use Rattle.rules.specs.Writing.{Rec, rec, head, kindIn, lengthIn}
use Rattle.laws.specs.Heads.{head-back, kind-head}
use Rattle.laws.specs.Written.{Zeros}
use Rattle.records.specs.Views.{either, plain, pick, view_of, recOf, longOf, recs, from, viewAt, longAt, boundTable, schemeTable, typeTable, otherTable}
use Rattle.records.specs.declared.Open as names
use Rattle.records.specs.declared.Atom as atoms
use Rattle.records.specs.declared.Basic as basics
use Rattle.records.specs.declared.View.{View}
use Rattle.records.specs.declared.View.TheVariants as view

-- a view other than Bad
abbrev pub Says : View → Type 0
Says (view.Opened o) = Unit {0}
Says (view.Basic b) = Unit {0}
Says (view.Dim n) = Unit {0}
Says (view.Function n) = Unit {0}
Says (view.Struct x n m) = Unit {0}
Says view.List = Unit {0}
Says (view.Field x) = Unit {0}
Says (view.Factor f n d) = Unit {0}
Says view.Equal = Unit {0}
Says view.IsDim = Unit {0}
Says view.IsScalar = Unit {0}
Says (view.HasField x) = Unit {0}
Says (view.Binding x) = Unit {0}
Says (view.Bound o) = Unit {0}
Says (view.Scheme n) = Unit {0}
Says view.Concrete = Unit {0}
Says view.Bad = ⊥

-- the lines of a table, one by one
infixr 2 ◌&◌
abbrev pub ◌&◌ : {A B : Type 0} → A → B → A × B
a & b = (a, b)

-- r is the record that says v, and its length, if v says anything
abbrev Told : Rec → View → Type 0
Told r v = Says v → recOf v (longOf r) ≡ r

module _ (r : Rec) where
  by-test : (b : Bool) (v w : View) → (b ≡ true → Told r v) → Told r w → Told r (either b v w)
  by-test true v w f g = f refl
  by-test false v w f g = g

  -- each line of a table, at its kind
  abbrev Lines : ℕ → List (ℕ × View) → Type 0
  Lines k [] = Unit {0}
  Lines k (x ∷ xs) = (k ≡ x.0 → Told r x.1) × Lines k xs

  by-kind : (k : ℕ) (xs : List (ℕ × View)) → Lines k xs → Told r (pick k xs)
  by-kind k [] h = λ a. absurd a
  by-kind k (x ∷ xs) h = by-test (eqb k x.0) x.1 (pick k xs) (λ e. h.0 (eqb-true k x.0 e)) (by-kind k xs h.1)

by-plain : (r : Rec) (ws : List ℕ) (v : View) → (Zeros ws → Told r v) → Told r (plain ws v)
unfolding plain all
by-plain r [] v f = f tt
by-plain r (w ∷ ws) v f = go (eqb w 0) refl (by-plain r ws v)
  where
    go : (b : Bool) → eqb w 0 ≡ b → ((Zeros ws → Told r v) → Told r (plain ws v)) → Told r (plain (w ∷ ws) v)
    go true e k = rw e (k (λ z. f (eqb-true w 0 e, z)))
    go false e k = rw e (λ a. absurd a)

kept : (u : ℕ) {k : ℕ} → kindIn u ≡ k → head k (lengthIn u) ≡ u
kept u e = ap (λ (k : ℕ). head k (lengthIn u)) (sym e) ∙ head-back u

-- a view that some record says: no bound is a parameter
abbrev pub IsBound : names.Open → Type 0
IsBound (names.TheVariants.Var x) = Unit {0}
IsBound (names.TheVariants.Quant i) = Unit {0}
IsBound (names.TheVariants.Par x) = ⊥

abbrev pub Written : View → Type 0
Written (view.Opened o) = Unit {0}
Written (view.Basic b) = Unit {0}
Written (view.Dim n) = Unit {0}
Written (view.Function n) = Unit {0}
Written (view.Struct x n m) = Unit {0}
Written view.List = Unit {0}
Written (view.Field x) = Unit {0}
Written (view.Factor f n d) = Unit {0}
Written view.Equal = Unit {0}
Written view.IsDim = Unit {0}
Written view.IsScalar = Unit {0}
Written (view.HasField x) = Unit {0}
Written (view.Binding x) = Unit {0}
Written (view.Bound o) = IsBound o
Written (view.Scheme n) = Unit {0}
Written view.Concrete = Unit {0}
Written view.Bad = ⊥

-- the record of a view says it
pub rec-view : (v : View) (n : ℕ) → Written v → view_of (recOf v n) ≡ v
unfolding view_of plain all
rec-view (view.Opened (names.TheVariants.Var x)) n a = rw (kind-head 1 n (omega arith))
rec-view (view.Opened (names.TheVariants.Quant i)) n a = rw (kind-head 14 n (omega arith))
rec-view (view.Opened (names.TheVariants.Par x)) n a = rw (kind-head 2 n (omega arith))
rec-view (view.Basic basics.TheVariants.Boolean) n a = rw (kind-head 4 n (omega arith))
rec-view (view.Basic basics.TheVariants.Text) n a = rw (kind-head 5 n (omega arith))
rec-view (view.Basic basics.TheVariants.Datetime) n a = rw (kind-head 6 n (omega arith))
rec-view (view.Dim m) n a = rw (kind-head 3 n (omega arith))
rec-view (view.Function m) n a = rw (kind-head 7 n (omega arith))
rec-view (view.Struct x l m) n a = rw (kind-head 8 n (omega arith))
rec-view view.List n a = rw (kind-head 10 n (omega arith))
rec-view (view.Field x) n a = rw (kind-head 9 n (omega arith))
rec-view (view.Factor (atoms.TheVariants.Free (names.TheVariants.Var x)) m d) n a = rw (kind-head 11 n (omega arith))
rec-view (view.Factor (atoms.TheVariants.Free (names.TheVariants.Quant i)) m d) n a = rw (kind-head 15 n (omega arith))
rec-view (view.Factor (atoms.TheVariants.Free (names.TheVariants.Par x)) m d) n a = rw (kind-head 12 n (omega arith))
rec-view (view.Factor (atoms.TheVariants.Base x) m d) n a = rw (kind-head 13 n (omega arith))
rec-view view.Equal n a = rw (kind-head 20 n (omega arith))
rec-view view.IsDim n a = rw (kind-head 21 n (omega arith))
rec-view view.IsScalar n a = rw (kind-head 22 n (omega arith))
rec-view (view.HasField x) n a = rw (kind-head 23 n (omega arith))
rec-view (view.Binding x) n a = rw (kind-head 24 n (omega arith))
rec-view (view.Bound (names.TheVariants.Var x)) n a = rw (kind-head 25 n (omega arith))
rec-view (view.Bound (names.TheVariants.Quant i)) n a = rw (kind-head 25 n (omega arith))
rec-view (view.Scheme m) n a = rw (kind-head 26 n (omega arith))
rec-view view.Concrete n a = rw (kind-head 26 n (omega arith))
rec-view (view.Bound (names.TheVariants.Par x)) n a = absurd a
rec-view view.Bad n a = absurd a

-- a view that says something comes, with the length, of one record only
pub view-rec : (r : Rec) → Says (view_of r) → recOf (view_of r) (longOf r) ≡ r
unfolding view_of longOf
view-rec (rec u a b c) =
    let r : Rec = rec u a b c in
    by-kind r (kindIn u) (typeTable a b c (otherTable a b c)) (
    (λ e. by-plain r (b ∷ c ∷ []) _ (λ z s. rw (kept u e, z.0, z.1.0)))
    & (λ e. by-plain r (b ∷ c ∷ []) _ (λ z s. rw (kept u e, z.0, z.1.0)))
    & (λ e. by-plain r (b ∷ c ∷ []) _ (λ z s. rw (kept u e, z.0, z.1.0)))
    & (λ e. by-plain r (b ∷ c ∷ []) _ (λ z s. rw (kept u e, z.0, z.1.0)))
    & (λ e. by-plain r (a ∷ b ∷ c ∷ []) _ (λ z s. rw (kept u e, z.0, z.1.0, z.1.1.0)))
    & (λ e. by-plain r (a ∷ b ∷ c ∷ []) _ (λ z s. rw (kept u e, z.0, z.1.0, z.1.1.0)))
    & (λ e. by-plain r (a ∷ b ∷ c ∷ []) _ (λ z s. rw (kept u e, z.0, z.1.0, z.1.1.0)))
    & (λ e. by-plain r (b ∷ c ∷ []) _ (λ z s. rw (kept u e, z.0, z.1.0)))
    & (λ e s. rw (kept u e))
    & (λ e. by-plain r (a ∷ b ∷ c ∷ []) _ (λ z s. rw (kept u e, z.0, z.1.0, z.1.1.0)))
    & (λ e. by-plain r (b ∷ c ∷ []) _ (λ z s. rw (kept u e, z.0, z.1.0)))
    & (λ e s. rw (kept u e))
    & (λ e s. rw (kept u e))
    & (λ e s. rw (kept u e))
    & (λ e s. rw (kept u e))
    & (λ e. by-plain r (a ∷ b ∷ c ∷ []) _ (λ z s. rw (kept u e, z.0, z.1.0, z.1.1.0)))
    & (λ e. by-plain r (a ∷ b ∷ c ∷ []) _ (λ z s. rw (kept u e, z.0, z.1.0, z.1.1.0)))
    & (λ e. by-plain r (a ∷ b ∷ c ∷ []) _ (λ z s. rw (kept u e, z.0, z.1.0, z.1.1.0)))
    & (λ e. by-plain r (b ∷ c ∷ []) _ (λ z s. rw (kept u e, z.0, z.1.0)))
    & (λ e. by-plain r (b ∷ c ∷ []) _ (λ z s. rw (kept u e, z.0, z.1.0)))
    & (λ e. by-kind r b (boundTable a c)
    ((λ f. by-plain r (c ∷ []) _ (λ z s. rw (kept u e, f, z.0))) & (λ f. by-plain r (c ∷ []) _ (λ z s. rw (kept u e, f, z.0))) & tt))
    & (λ e. by-plain r (c ∷ []) _ (λ z. by-kind r b (schemeTable a)
    ((λ f s. rw (kept u e, f, z.0)) & (λ f. by-plain r (a ∷ []) _ (λ y s. rw (kept u e, f, z.0, y.0))) & tt)))
    & tt)

-- ══ The records from a place on ══

pub recs-length : (s : List ℕ) → length (recs s) ≡ length s / 4
unfolding recs
recs-length [] = refl
recs-length (k ∷ []) = omega arith
recs-length (k ∷ a ∷ []) = omega arith
recs-length (k ∷ a ∷ b ∷ []) = omega arith
recs-length (k ∷ a ∷ b ∷ c ∷ ws) = omega (arith, recs-length ws)

recs-short : (l : List ℕ) → length l < 4 → recs l ≡ []
unfolding recs
recs-short [] h = refl
recs-short (k ∷ []) h = refl
recs-short (k ∷ a ∷ []) h = refl
recs-short (k ∷ a ∷ b ∷ []) h = refl
recs-short (k ∷ a ∷ b ∷ c ∷ l) h = absurd (omega arith)

module _ (s : List ℕ) (at : ℕ) where
  -- the record at a place, as it stands there
  abbrev pub recAt : Rec
  recAt = rec (get_or s (at * 4) 0) (get_or s (at * 4 + 1) 0) (get_or s (at * 4 + 2) 0) (get_or s (at * 4 + 3) 0)

  pub from-none : length s / 4 ≤ at → from s at ≡ []
  unfolding from
  from-none h = recs-short (drop (at * 4) s) (simp length-drop (omega arith))

  pub from_some : at < length s / 4 → from s at ≡ recAt ∷ from s (at + 1)
  unfolding from recs
  from_some h =
      let i : ℕ = at * 4 in
      let e : (at + 1) * 4 ≡ suc (suc (suc (suc i))) = omega arith in
      rw (
        add-one i,
        add-two i,
        add-three i,
        e,
        drop-cons s i 0 (omega arith),
        drop-cons s (suc i) 0 (omega arith),
        drop-cons s (suc (suc i)) 0 (omega arith),
        drop-cons s (suc (suc (suc i))) 0 (omega arith),
      )

  pub view-none : length s / 4 ≤ at → viewAt s at ≡ view.Bad
  unfolding viewAt
  view-none h = rw (from-none h)

  pub view-some : at < length s / 4 → viewAt s at ≡ view_of recAt
  unfolding viewAt
  view-some h = rw (from_some h)

  pub long-some : at < length s / 4 → longAt s at ≡ longOf recAt
  unfolding longAt
  long-some h = rw (from_some h)

module _ (s : List ℕ) where
  -- how many records there are from a place within on
  pub from-length : (at : ℕ) → at ≤ length s / 4 → at + length (from s at) ≡ length s / 4
  unfolding from
  from-length at h = rw (recs-length (drop (at * 4) s), length-drop (at * 4) s) (omega arith)

  -- a place whose record says something lies within
  pub seen-in : (at : ℕ) {v : View} → viewAt s at ≡ v → Says v → at < length s / 4
  seen-in at e a = go (ltb at (length s / 4)) refl
    where
      go : (b : Bool) → ltb at (length s / 4) ≡ b → at < length s / 4
      go true q = ltb-true at (length s / 4) q
      go false q = absurd (subst Says (sym e ∙ view-none s at (ltb-false at (length s / 4) q)) a)

  -- and its record is the one that says so
  pub seen : (at : ℕ) {v : View} {n : ℕ} → viewAt s at ≡ v → longAt s at ≡ n → Says v → from s at ≡ recOf v n ∷ from s (at + 1)
  seen at {v} {n} e l a =
      let h : at < length s / 4 = seen-in at e a in
      let q : v ≡ view_of (recAt s at) = sym e ∙ view-some s at h in
      let m : n ≡ longOf (recAt s at) = sym l ∙ long-some s at h in
      let r : recAt s at ≡ recOf v n = sym (view-rec (recAt s at) (subst Says q a)) ∙ ap₂ recOf (sym q) (sym m) in
      from_some s at h ∙ ap (λ (x : Rec). x ∷ from s (at + 1)) r

  -- the first of the records from a place on
  pub record First (at : ℕ) (r : Rec) (rs : List Rec) : Type 0 where
    pub inside : at < length s / 4
    pub this : recAt s at ≡ r
    pub view : viewAt s at ≡ view_of r
    pub long : longAt s at ≡ longOf r
    pub rest : rs ≡ from s (at + 1)

  pub first : (at : ℕ) (r : Rec) (rs : List Rec) → from s at ≡ r ∷ rs → First at r rs
  unfolding viewAt longAt
  first at r rs e = go (ltb at (length s / 4)) refl
    where
      go : (b : Bool) → ltb at (length s / 4) ≡ b → First at r rs
      go true q =
          let h = ltb-true at (length s / 4) q in
          let f : recAt s at ∷ from s (at + 1) ≡ r ∷ rs = sym (from_some s at h) ∙ e in
          record { inside = h; this = cc; view = rw e; long = rw e; rest = cc }
      go false q = absurd (cons≢nil (sym e ∙ from-none s at (ltb-false at (length s / 4) q)))
