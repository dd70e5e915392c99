-- What follows from the definitions of specs/Written: what was read is what is written there: the records that were read are those of the tree.
use Rattle.std.specs.Prelude.{◌≡◌, refl, Bool, true, false, List, [], ◌∷◌, ◌++◌, map, length, ltb}
use Rattle.std.proofs.Common.{ap, ◌∙◌, sym, append_assoc, arith, length-append}
use Rattle.std.proofs.Math.Option.{Option, none, some}
use Prim.Native.Nat.{ℕ, zero, suc, ◌+◌, ◌<◌}
use Rattle.std.proofs.lemmas.List.{length-map}
use Rattle.rules.specs.Trees.{var, quant, par, Ty, opened, basic, fn, struct, list, boolean, string, datetime, size, count, countFields}
use Rattle.rules.specs.Writing.{Rec, rec, head, kindIn, lengthIn, twos, signed, by_sign, writeFactor, writeProduct, writeTy, writeTys, writeFields}
use Rattle.rules.specs.Reading.{
  Reader,
  pass,
  give,
  next,
  factorTable,
  factorKinds,
  readFactors,
  readTys,
  readFields,
  readField,
  fieldTable,
  fieldKinds,
  readDim,
  readFn,
  readStruct,
  readList,
  typeTable,
  typeKinds,
  readTy,
}
use Rattle.laws.specs.Heads.{head-back}
use Rattle.laws.proofs.Size.{size-ty}
use Rattle.laws.specs.Written.{Reads, nothing, given, picked, plain, Small, Is, lasting-read}

pub then : {A B : Type 0} {o : Option (A × List Rec)} {f : A → Reader B} {P : A → List Rec → Type 0} {Q : B → List Rec → Type 0} → Reads o P
    → ((a : A) (s : List Rec) → P a s → Reads (f a s) Q) → Reads (pass o f) Q
then {o} {f} {P} {Q} h k = go o refl
  where
    go : (p : Option _) → o ≡ p → Reads (pass p f) Q
    go none e = nothing
    go (some r) e = k r.0 r.1 (h.holds r.0 r.1 e)

back_by : (b : Bool) (w : ℕ) → w < 4_294_967_296 → ltb w 2_147_483_648 ≡ b → twos (by_sign b w) ≡ w
unfolding by_sign twos
back_by true w h e = refl
back_by false w h e = omega arith

pub unsigned : (w : ℕ) → w < 4_294_967_296 → twos (signed w) ≡ w
unfolding signed
unsigned w h = back_by (ltb w 2_147_483_648) w h refl

-- a part w begins with a record of kind k, and its body stands in rs before the rest
pub record Begins (k a b c : ℕ) (rs w rest : List Rec) : Type 0 where
  pub body : List Rec
  pub is : w ≡ rec (head k (suc (length body))) a b c ∷ body
  pub stands : rs ≡ body ++ rest
  pub small : Small rest

-- then w stands there, if it lasts as long as it says
pub begun : (u a b c : ℕ) (rs w rest : List Rec) → Begins (kindIn u) a b c rs w rest → lengthIn u + length rest ≡ suc (length rs) → Is (rec u a b c ∷ rs) w rest
begun u a b c rs w rest g e =
    let n : lengthIn u ≡ suc (length g.body) = omega (arith, e, length-append g.body rest, ap length g.stands) in
    let h : head (kindIn u) (suc (length g.body)) ≡ u = ap (head (kindIn u)) (sym n) ∙ head-back u in
    (ap (rec u a b c ∷◌) g.stands ∙ ap (◌++ rest) (sym (g.is ∙ ap (λ (x : ℕ). rec x a b c ∷ g.body) h)), g.small)

-- a part is read by its first record
pub first_read : {A : Type 0} (w : A → List Rec) (f : ℕ → ℕ → ℕ → ℕ → Reader A) (u a b c : ℕ) (rs : List Rec)
    → Reads (f (kindIn u) a b c rs) (λ x rest. Begins (kindIn u) a b c rs (w x) rest)
    → Reads (next f (rec u a b c ∷ rs)) (λ x rest. Is (rec u a b c ∷ rs) (w x) rest)
first_read w f u a b c rs h =
    record {
      holds = λ x rest e. let i = (lasting-read (lengthIn u) (suc (length rs)) (f (kindIn u) a b c rs) h).holds x rest e
          in begun u a b c rs (w x) rest i.0 i.1;
    }

-- a leaf: one record
leaf : (k a b c : ℕ) (rs w : List Rec) → w ≡ rec (head k 1) a b c ∷ [] → Small rs → Begins k a b c rs w rs
leaf k a b c rs w e h = record { body = []; is = e; stands = refl; small = h }

factor-read : (s : List Rec) → Small s → Reads (next factorKinds s) (λ f rest. Is s (writeFactor f ∷ []) rest)
unfolding writeFactor
factor-read [] h = nothing
factor-read (rec u a b c ∷ rs) h = first_read (λ f. writeFactor f ∷ []) factorKinds u a b c rs (picked (kindIn u) rs (factorTable a b c) (
  (λ e. given (leaf (kindIn u) a b c rs _ (rw (e, unsigned b h.0) refl) h.1)),
  (
    (λ e. given (leaf (kindIn u) a b c rs _ (rw (e, unsigned b h.0) refl) h.1)),
    (
      (λ e. given (leaf (kindIn u) a b c rs _ (rw (e, unsigned b h.0) refl) h.1)),
      ((λ e. given (leaf (kindIn u) a b c rs _ (rw (e, unsigned b h.0) refl) h.1)), tt),
    ),
  ),
))

pub factors-read : (n : ℕ) (s : List Rec) → Small s → Reads (readFactors n s) (λ p rest. Is s (map writeFactor p) rest × (length p ≡ n))
unfolding readFactors
factors-read zero s h = given ((refl, h), refl)
factors-read (suc n) s h =
    then (factor-read s h) (λ f s' i.
    then (factors-read n s' i.1) (λ p s'' j.
    given ((i.0 ∙ ap (writeFactor f ∷◌) j.0.0, j.0.1), ap suc j.1)))

-- what a reader of types is to do
abbrev pub Types-read : Reader (Ty ℕ) → Type 0
Types-read ty = (s : List Rec) → Small s → Reads (ty s) (λ t rest. Is s (writeTy t) rest)

-- one part after another
pub after : (s s' w v rest : List Rec) → s ≡ w ++ s' → s' ≡ v ++ rest → s ≡ (w ++ v) ++ rest
after s s' w v rest i j = i ∙ ap (w ++◌) j ∙ sym (append_assoc w v rest)

tys-read : (ty : Reader (Ty ℕ)) → Types-read ty → (n : ℕ) (s : List Rec) → Small s
    → Reads (readTys ty n s) (λ ts rest. Is s (writeTys ts) rest × (count ts ≡ n))
unfolding readTys writeTy count
tys-read ty r zero s h = given ((refl, h), refl)
tys-read ty r (suc n) s h =
    then (r s h) (λ t s' i.
    then (tys-read ty r n s' i.1) (λ ts s'' j.
    given ((after s s' (writeTy t) (writeTys ts) s'' i.0 j.0.0, j.0.1), ap suc j.1)))

-- a field alone
abbrev writeField : ℕ × Ty ℕ → List Rec
writeField f = rec (head 9 (suc (size f.1))) f.0 0 0 ∷ writeTy f.1

field-read : (ty : Reader (Ty ℕ)) → Types-read ty → (s : List Rec) → Small s → Reads (next (fieldKinds ty) s) (λ f rest. Is s (writeField f) rest)
field-read ty r [] h = nothing
field-read ty r (rec u a b c ∷ rs) h = first_read writeField (fieldKinds ty) u a b c rs (picked (kindIn u) rs (fieldTable ty a b c) (
  (λ e. plain (b ∷ c ∷ []) (readField ty a) rs (λ z.
      then (r rs h.1) (λ t s i. given (record { body = writeTy t; is = rw (e, z.0, z.1.0, size-ty t) refl; stands = i.0; small = i.1 })))),
  tt,
))

fields_read : (ty : Reader (Ty ℕ)) → Types-read ty → (n : ℕ) (s : List Rec) → Small s
    → Reads (readFields ty n s) (λ fs rest. Is s (writeFields fs) rest × (countFields fs ≡ n))
unfolding readFields writeTy countFields
fields_read ty r zero s h = given ((refl, h), refl)
fields_read ty r (suc n) s h =
    then (field-read ty r s h) (λ f s' i.
    then (fields_read ty r n s' i.1) (λ fs s'' k.
    given ((after s s' (writeField f) (writeFields fs) s'' i.0 k.0.0, k.0.1), ap suc k.1)))

-- the records of a type follow the record that begins it
abbrev Body : ℕ → ℕ → ℕ → ℕ → List Rec → Option (Ty ℕ × List Rec) → Type 0
Body k a b c rs o = Reads o (λ t rest. Begins k a b c rs (writeTy t) rest)

leaf-read : (t : Ty ℕ) (k a b c : ℕ) (rs : List Rec) → writeTy t ≡ rec (head k 1) a b c ∷ [] → Small rs → Body k a b c rs (give t rs)
leaf-read t k a b c rs e h = given (leaf k a b c rs (writeTy t) e h)

dim-read : (a : ℕ) (rs : List Rec) → Small rs → Body 3 a 0 0 rs (readDim a rs)
unfolding writeTy writeProduct
dim-read a rs h = then (factors-read a rs h)
    (λ p s i. given (record { body = map writeFactor p; is = rw (length-map p writeFactor, i.1) refl; stands = i.0.0; small = i.0.1 }))

module _ (ty : Reader (Ty ℕ)) (r : Types-read ty) where
  fn-read : (a : ℕ) (rs : List Rec) → Small rs → Body 7 a 0 0 rs (readFn ty a rs)
  unfolding writeTy
  fn-read a rs h =
      then (tys-read ty r a rs h) (λ ps s i.
      then (r s i.0.1) (λ t s' j.
      let n : suc (length (writeTys ps ++ writeTy t)) ≡ size (fn ps t) = size-ty (fn ps t) in
      given (record { body = writeTys ps ++ writeTy t; is = rw (n, i.1) refl; stands = after rs s (writeTys ps) (writeTy t) s' i.0.0 j.0; small = j.1 })))

  struct-read : (a b c : ℕ) (rs : List Rec) → Small rs → Body 8 a b c rs (readStruct ty a b c rs)
  unfolding writeTy
  struct-read a b c rs h =
      then (tys-read ty r b rs h) (λ as' s i.
      then (fields_read ty r c s i.0.1) (λ fs s' j.
      let n : suc (length (writeTys as' ++ writeFields fs)) ≡ size (struct a as' fs) = size-ty (struct a as' fs) in
      given (record {
        body = writeTys as' ++ writeFields fs;
        is = rw (n, i.1, j.1) refl;
        stands = after rs s (writeTys as') (writeFields fs) s' i.0.0 j.0.0;
        small = j.0.1;
      })))

  list_read : (rs : List Rec) → Small rs → Body 10 0 0 0 rs (readList ty rs)
  unfolding writeTy
  list_read rs h =
      then (r rs h) (λ t s i.
      let n : suc (length (writeTy t)) ≡ size (list t) = size-ty (list t) in
      given (record { body = writeTy t; is = rw n refl; stands = i.0; small = i.1 }))

  -- by the kind of its first record
  first-type : (k a b c : ℕ) (rs : List Rec) → Small rs → Body k a b c rs (typeKinds ty k a b c rs)
  unfolding writeTy
  first-type k a b c rs h = picked k rs (typeTable ty a b c) (
    (λ e. plain (b ∷ c ∷ []) (give (opened (var a))) rs (λ z. leaf-read (opened (var a)) k a b c rs (rw (e, z.0, z.1.0) refl) h)),
    (
      (λ e. plain (b ∷ c ∷ []) (give (opened (par a))) rs (λ z. leaf-read (opened (par a)) k a b c rs (rw (e, z.0, z.1.0) refl) h)),
      (
        (λ e. plain (b ∷ c ∷ []) (give (opened (quant a))) rs (λ z. leaf-read (opened (quant a)) k a b c rs (rw (e, z.0, z.1.0) refl) h)),
        (
          (λ e. plain (b ∷ c ∷ []) (readDim a) rs (λ z. rw (e, z.0, z.1.0) (dim-read a rs h))),
          (
            (λ e. plain (a ∷ b ∷ c ∷ []) (give (basic boolean)) rs (λ z. leaf-read (basic boolean) k a b c rs (rw (e, z.0, z.1.0, z.1.1.0) refl) h)),
            (
              (λ e. plain (a ∷ b ∷ c ∷ []) (give (basic string)) rs (λ z. leaf-read (basic string) k a b c rs (rw (e, z.0, z.1.0, z.1.1.0) refl) h)),
              (
                (λ e. plain (a ∷ b ∷ c ∷ []) (give (basic datetime)) rs (λ z. leaf-read (basic datetime) k a b c rs (rw (e, z.0, z.1.0, z.1.1.0) refl) h)),
                (
                  (λ e. plain (b ∷ c ∷ []) (readFn ty a) rs (λ z. rw (e, z.0, z.1.0) (fn-read a rs h))),
                  (
                    (λ e. rw e (struct-read a b c rs h)),
                    ((λ e. plain (a ∷ b ∷ c ∷ []) (readList ty) rs (λ z. rw (e, z.0, z.1.0, z.1.1.0) (list_read rs h))), tt),
                  ),
                ),
              ),
            ),
          ),
        ),
      ),
    ),
  )

pub ty-read : (d : ℕ) → Types-read (readTy d)
unfolding readTy
ty-read zero s h = nothing
ty-read (suc d) [] h = nothing
ty-read (suc d) (rec u a b c ∷ rs) h = first_read writeTy (typeKinds (readTy d)) u a b c rs (first-type (readTy d) (ty-read d) (kindIn u) a b c rs h.1)
