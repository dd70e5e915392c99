-- What follows from the definitions of specs/Lists: lists and tests: what is in a list, and what a test says of it.
use Rattle.std.specs.Prelude.{◌≡◌, Bool, ◌&&◌, ◌||◌, ◌⊎◌, ℕ, suc, length}
use Rattle.std.proofs.Math.Path.{refl, ap}
use Rattle.std.proofs.Common.{◌∙◌, sym, inl, inr}
use Rattle.std.proofs.Math.Bool.{true, false, or-true}
use Rattle.std.proofs.Math.Option.{Option, none, some}
use mathlib.Core.List.Memᴰ
use mathlib.Core.List.{List, [], ◌∷◌, ◌++◌, map, Memᴰ, cons≢nil}
use Rattle.rules.specs.Base.{Got, got, refused, ◌>>=◌, allow, is_yes, any, all, each, keep, collect, to_list}
pub use Rattle.std.proofs.lemmas.Bool.{not-true, not-false}
use Rattle.laws.specs.Lists.{in_head, All, all_nil, all_cons, Every}

pub true≢false : true ≡ false → ⊥
true≢false e = cc

pub some≢none : {A : Type 0} {a : A} → some a ≡ none → ⊥
some≢none e = cc

pub got≢refused : {A : Type 0} {a : A} {n : ℕ} → got a ≡ refused n → ⊥
got≢refused e = cc

pub clash : {A B : Type 0} {n : ℕ} {b : B} → refused n ≡ got b → A
clash e = absurd (got≢refused (sym e))

-- a refusal tells its number
pub same-number : {A : Type 0} {i j : ℕ} → ◌≡◌ {A = Got A} (refused i) (refused j) → i ≡ j
same-number e = cc

-- what refuses, refuses before a value is made of it
pub refused-before : {A B : Type 0} (m : Got A) (g : A → B) (n : ℕ) → refused n ≡ (m >>= λ a. got (g a)) → m ≡ refused n
refused-before (got a) g n e = clash e
refused-before (refused k) g n e = ap refused (sym (same-number e))

-- two steps after one another, bracketed to the right
pub bracket : {A B C : Type 0} (m : Got A) (f : A → Got B) (g : B → Got C) → ((m >>= f) >>= g) ≡ (m >>= λ a. f a >>= g)
bracket (got a) f g = refl
bracket (refused n) f g = refl

pub same_after : {A B : Type 0} (m : Got A) (f g : A → Got B) → ((a : A) → f a ≡ g a) → (m >>= f) ≡ (m >>= g)
same_after (got a) f g h = h a
same_after (refused n) f g h = refl

pub alone : {A : Type 0} (m : Got A) → (m >>= λ a. got a) ≡ m
alone (got a) = refl
alone (refused n) = refl

pub allow-same : {A : Type 0} (b : Bool) (n : ℕ) (a v : A) → allow b n a ≡ got v → a ≡ v
allow-same true n a v e = cc
allow-same false n a v e = absurd (got≢refused (sym e))

pub and_both : {a b : Bool} → a ≡ true → b ≡ true → (a && b) ≡ true
and_both p q = rw (p, q)

pub yes-is : {A : Type 0} (d : Dec A) → is_yes d ≡ true → A
yes-is (yes a) e = a
yes-is (no f) e = absurd (true≢false (sym e))

pub is-yes : {A : Type 0} (d : Dec A) → A → is_yes d ≡ true
is-yes (yes a) b = refl
is-yes (no f) b = absurd (f b)

pub no-is : {A : Type 0} (d : Dec A) → is_yes d ≡ false → A → ⊥
no-is (yes a) e b = true≢false e
no-is (no f) e b = f b

pub is-no : {A : Type 0} (d : Dec A) → ¬ A → is_yes d ≡ false
is-no (yes a) f = absurd (f a)
is-no (no g) f = refl

module _ {A : Type 0} where
  pub all_append : (P : A → Type 0) (xs : List A) {ys : List A} → All P xs → All P ys → All P (xs ++ ys)
  all_append P xs {ys} p q a m = go (Memᴰ.append_cases xs m)
    where
      go : Memᴰ a xs ⊎ Memᴰ a ys → P a
      go (inl i) = p a i
      go (inr i) = q a i

  -- none is kept: none passes
  pub keep-none : (p : A → Bool) (xs : List A) → keep p xs ≡ [] → All (λ a. p a ≡ false) xs
  unfolding keep
  keep-none p [] e = all_nil (λ a. p a ≡ false)
  keep-none p (x ∷ xs) e = go (p x) refl (keep-none p xs)
    where
      go : (b : Bool) → p x ≡ b → (keep p xs ≡ [] → All (λ a. p a ≡ false) xs) → All (λ a. p a ≡ false) (x ∷ xs)
      go true i r = let z : x ∷ keep p xs ≡ [] = rw (i, keep) at e in absurd (cons≢nil z)
      go false i r = all_cons (λ a. p a ≡ false) i (r (rw (i, keep) at e))

  pub every-all : (P : A → Type 0) (xs : List A) → Every P xs → All P xs
  every-all P [] h = all_nil P
  every-all P (x ∷ xs) h = all_cons P h.0 (every-all P xs h.1)

  pub every_append : (P : A → Type 0) (xs ys : List A) → Every P xs → Every P ys → Every P (xs ++ ys)
  every_append P [] ys p q = q
  every_append P (x ∷ xs) ys p q = (p.0, every_append P xs ys p.1 q)

  pub every-left : (P : A → Type 0) (xs ys : List A) → Every P (xs ++ ys) → Every P xs
  every-left P [] ys h = tt
  every-left P (x ∷ xs) ys h = (h.0, every-left P xs ys h.1)

  pub every-right : (P : A → Type 0) (xs ys : List A) → Every P (xs ++ ys) → Every P ys
  every-right P [] ys h = h
  every-right P (x ∷ xs) ys h = every-right P xs ys h.1

  pub every-as : {P Q : A → Type 0} → ((a : A) → P a → Q a) → (xs : List A) → Every P xs → Every Q xs
  every-as f [] p = tt
  every-as f (x ∷ xs) p = (f x p.0, every-as f xs p.1)

  -- part by part
  pub append-parts : {a : A} (xs xs' ys ys' : List A) → (Memᴰ a xs → Memᴰ a xs') → (Memᴰ a ys → Memᴰ a ys') → Memᴰ a (xs ++ ys) → Memᴰ a (xs' ++ ys')
  append-parts {a} xs xs' ys ys' f g m = go (Memᴰ.append_cases xs m)
    where
      go : Memᴰ a xs ⊎ Memᴰ a ys → Memᴰ a (xs' ++ ys')
      go (inl i) = Memᴰ.append_left ys' (f i)
      go (inr i) = Memᴰ.append_right xs' (g i)

  -- a list without elements
  pub none_in : (xs : List A) → ((a : A) → Memᴰ a xs → ⊥) → xs ≡ []
  none_in [] h = refl
  none_in (x ∷ xs) h = absurd (h x in_head)

  pub to-list : (o : Option A) (a : A) → Memᴰ a (to_list o) → o ≡ some a
  to-list none a m = absurd (Memᴰ.not-nil m)
  to-list (some b) a m = ap some (sym (Memᴰ.eq_of_singleton m))

  pub is_all : (p : A → Bool) (xs : List A) → All (λ a. p a ≡ true) xs → all p xs ≡ true
  unfolding all
  is_all p [] h = refl
  is_all p (x ∷ xs) h = and_both (h x in_head) (is_all p xs (λ a m. h a (Memᴰ.tail m)))

  -- a test of some element
  pub record Some (P : A → Type 0) (xs : List A) : Type 0 where
    pub one : A
    pub within : Memᴰ one xs
    pub fits : P one

  pub any-is : (p : A → Bool) (xs : List A) → any p xs ≡ true → Some (λ a. p a ≡ true) xs
  unfolding any
  any-is p [] e = absurd (true≢false (sym e))
  any-is p (x ∷ xs) e = go (p x) refl (any-is p xs)
    where
      go : (b : Bool) → p x ≡ b → (any p xs ≡ true → Some (λ a. p a ≡ true) xs) → Some (λ a. p a ≡ true) (x ∷ xs)
      go true i r = record { one = x; within = in_head; fits = i }
      go false i r = let s = r (rw (i, any) at e) in record { one = s.one; within = Memᴰ.tail s.within; fits = s.fits }

  pub is_any : (p : A → Bool) (xs : List A) (a : A) → Memᴰ a xs → p a ≡ true → any p xs ≡ true
  unfolding any
  is_any p [] a m e = absurd (Memᴰ.not-nil m)
  is_any p (x ∷ xs) a m e = go (Memᴰ.cases_cons m) (is_any p xs a)
    where
      go : (a ≡ x) ⊎ Memᴰ a xs → (Memᴰ a xs → p a ≡ true → any p xs ≡ true) → (p x || any p xs) ≡ true
      go (inl i) r = rw (sym (ap p i) ∙ e)
      go (inr i) r = rw (r i e) (or-true (p x))

module _ {A B : Type 0} where
  -- what a list that was collected has
  pub record Origin (f : A → List B) (b : B) (xs : List A) : Type 0 where
    pub one : A
    pub within : Memᴰ one xs
    pub from : Memᴰ b (f one)

  pub collect-from : (f : A → List B) (xs : List A) (b : B) → Memᴰ b (collect f xs) → Origin f b xs
  unfolding collect
  collect-from f [] b m = absurd (Memᴰ.not-nil m)
  collect-from f (x ∷ xs) b m = go (Memᴰ.append_cases (f x) m) (collect-from f xs b)
    where
      go : Memᴰ b (f x) ⊎ Memᴰ b (collect f xs) → (Memᴰ b (collect f xs) → Origin f b xs) → Origin f b (x ∷ xs)
      go (inl i) r = record { one = x; within = in_head; from = i }
      go (inr i) r = let o = r i in record { one = o.one; within = Memᴰ.tail o.within; from = o.from }

  pub collect-to : (f : A → List B) (xs : List A) (a : A) (b : B) → Memᴰ a xs → Memᴰ b (f a) → Memᴰ b (collect f xs)
  unfolding collect
  collect-to f [] a b m i = absurd (Memᴰ.not-nil m)
  collect-to f (x ∷ xs) a b m i = go (Memᴰ.cases_cons m) (λ n. collect-to f xs a b n i)
    where
      go : (a ≡ x) ⊎ Memᴰ a xs → (Memᴰ a xs → Memᴰ b (collect f xs)) → Memᴰ b (f x ++ collect f xs)
      go (inl e) r = Memᴰ.append_left (collect f xs) (rw e at i)
      go (inr n) r = Memᴰ.append_right (f x) (r n)

  -- what became of each element, and where each came from
  pub record Went (f : A → Got B) (a : A) (ys : List B) : Type 0 where
    pub to : B
    pub within : Memᴰ to ys
    pub by : f a ≡ got to

  pub record Came (f : A → Got B) (b : B) (xs : List A) : Type 0 where
    pub of : A
    pub within : Memᴰ of xs
    pub by : f of ≡ got b

  -- the parts of two steps, one after the other
  pub record Two {C : Type 0} (m : Got A) (n : A → Got B) (c : C) (f : A → B → C) : Type 0 where
    pub first : A
    pub second : B
    pub gave : m ≡ got first
    pub then : n first ≡ got second
    pub both : f first second ≡ c

  pub record One (m : Got A) (b : B) (f : A → B) : Type 0 where
    pub value : A
    pub gave : m ≡ got value
    pub is : f value ≡ b

  pub one-step : (m : Got A) (f : A → B) (b : B) → (m >>= λ a. got (f a)) ≡ got b → One m b f
  one-step (got a) f b e = record { value = a; gave = refl; is = cc }
  one-step (refused n) f b e = absurd (got≢refused (sym e))

pub two_steps : {A B C : Type 0} (m : Got A) (n : A → Got B) (f : A → B → C) (c : C) → (m >>= λ a. n a >>= λ b. got (f a b)) ≡ got c → Two m n c f
two_steps (refused k) n f c e = absurd (got≢refused (sym e))
two_steps (got a) n f c e = go (n a) refl
  where
    go : (r : Got _) → n a ≡ r → Two (got a) n c f
    go (refused k) i = let z : refused k ≡ got c = rw i at e in absurd (got≢refused (sym z))
    go (got b) i = let z : got (f a b) ≡ got c = rw i at e in record { first = a; second = b; gave = refl; then = i; both = cc }

pub bound-step : {A B : Type 0} (m : Got A) (f : A → Got B) (b : B) → (m >>= f) ≡ got b → (a : A) × (m ≡ got a) × (f a ≡ got b)
bound-step (got a) f b e = (a, refl, e)
bound-step (refused n) f b e = absurd (got≢refused (sym e))

module _ {A B : Type 0} (f : A → Got B) where
  pub each-parts : (x : A) (xs : List A) (ys : List B) → each f (x ∷ xs) ≡ got ys → Two (f x) (λ y. each f xs) ys (λ y zs. y ∷ zs)
  unfolding each
  each-parts x xs ys e = two_steps (f x) (λ y. each f xs) (λ y zs. y ∷ zs) ys e

  pub each-length : (xs : List A) (ys : List B) → each f xs ≡ got ys → length ys ≡ length xs
  unfolding each
  each-length [] ys e = let z : [] ≡ ys = cc in rw (← z)
  each-length (x ∷ xs) ys e = let t = each-parts x xs ys e in rw (← t.both) (ap suc (each-length xs t.second t.then))

  pub each-went : (xs : List A) (ys : List B) → each f xs ≡ got ys → (a : A) → Memᴰ a xs → Went f a ys
  each-went [] ys e a m = absurd (Memᴰ.not-nil m)
  each-went (x ∷ xs) ys e a m =
      let t = each-parts x xs ys e in
      go t (Memᴰ.cases_cons m) (λ n. each-went xs t.second t.then a n)
    where
      go : (t : Two (f x) (λ y. each f xs) ys (λ y zs. y ∷ zs)) → (a ≡ x) ⊎ Memᴰ a xs → (Memᴰ a xs → Went f a t.second) → Went f a ys
      go t (inl i) r = record { to = t.first; within = rw (sym t.both) in_head; by = ap f i ∙ t.gave }
      go t (inr i) r = let w = r i in record { to = w.to; within = rw (sym t.both) (Memᴰ.tail w.within); by = w.by }

  pub each-came : (xs : List A) (ys : List B) → each f xs ≡ got ys → (b : B) → Memᴰ b ys → Came f b xs
  unfolding each
  each-came [] ys e b m = let q : [] ≡ ys = cc in absurd (Memᴰ.not-nil (rw (sym q) at m))
  each-came (x ∷ xs) ys e b m =
      let t = each-parts x xs ys e in
      go t (Memᴰ.cases_cons (rw (sym t.both) at m)) (λ n. each-came xs t.second t.then b n)
    where
      go : (t : Two (f x) (λ y. each f xs) ys (λ y zs. y ∷ zs)) → (b ≡ t.first) ⊎ Memᴰ b t.second → (Memᴰ b t.second → Came f b xs) → Came f b (x ∷ xs)
      go t (inl i) r = record { of = x; within = in_head; by = t.gave ∙ ap got (sym i) }
      go t (inr i) r = let w = r i in record { of = w.of; within = Memᴰ.tail w.within; by = w.by }

pub record Image {A B : Type 0} (f : A → B) (b : B) (xs : List A) : Type 0 where
  pub one : A
  pub within : Memᴰ one xs
  pub is : b ≡ f one

pub map-from : {A B : Type 0} (f : A → B) (xs : List A) (b : B) → Memᴰ b (map f xs) → Image f b xs
map-from f [] b m = absurd (Memᴰ.not-nil m)
map-from f (x ∷ xs) b m = go (Memᴰ.cases_cons m) (map-from f xs b)
  where
    go : (b ≡ f x) ⊎ Memᴰ b (map f xs) → (Memᴰ b (map f xs) → Image f b xs) → Image f b (x ∷ xs)
    go (inl i) r = record { one = x; within = in_head; is = i }
    go (inr i) r = let o = r i in record { one = o.one; within = Memᴰ.tail o.within; is = o.is }

pub map-to : {A B : Type 0} (f : A → B) (xs : List A) (a : A) → Memᴰ a xs → Memᴰ (f a) (map f xs)
map-to f [] a m = absurd (Memᴰ.not-nil m)
map-to f (x ∷ xs) a m = go (Memᴰ.cases_cons m) (map-to f xs a)
  where
    go : (a ≡ x) ⊎ Memᴰ a xs → (Memᴰ a xs → Memᴰ (f a) (map f xs)) → Memᴰ (f a) (f x ∷ map f xs)
    go (inl i) r = Memᴰ.head (ap f i)
    go (inr i) r = Memᴰ.tail (r i)
