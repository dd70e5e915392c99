-- What follows from the definitions of specs/ReadLists: constraints, bindings, bounds and whole lists: what was written is read back, and what was read is
-- what stands there.
-- So a list of words holds one list of trees at the most.
use Rattle.std.specs.Prelude.{◌≡◌, length}
use Rattle.std.proofs.Math.Path.{refl, ap}
use Rattle.std.proofs.Common.{◌∙◌, sym, subst, arith}
use Rattle.std.proofs.Math.Option.{Option, none, some}
use mathlib.Core.List.{List, [], ◌∷◌, ◌++◌, map, append_assoc}
use Prim.Native.Nat.{ℕ, zero, suc, ◌≤◌, ◌<◌}
use Rattle.std.proofs.Math.ListN.{length-append}
use Rattle.std.proofs.lemmas.List.{length-map}
use Rattle.rules.specs.Base.{all, collect}
use Rattle.rules.specs.Trees.{
  Open,
  var,
  quant,
  par,
  Product,
  Con,
  equal,
  isDim,
  is_scalar,
  hasField,
  Binding,
  ◌≔◌,
  sizeCon,
  sizeBinding,
  depthCon,
  depthBinding,
}
use Rattle.rules.specs.Writing.{Rec, rec, kindIn, lengthIn, words, writeFactor, writeProduct, writeTy, writeCon, writeBinding, writeBound}
use Rattle.rules.specs.Reading.{
  Reader,
  give,
  pick,
  next,
  readTy,
  scalarTable,
  scalarKinds,
  conTable,
  conKinds,
  readEqual,
  readIsDim,
  readScalar,
  readHasField,
  readBoundTo,
  readCon,
  bindingTable,
  bindingKinds,
  readBinding,
  boundTable,
  boundKinds,
  readBound,
  read_all,
  records,
}
pub use Rattle.laws.specs.Lists.{Every}
use Rattle.laws.proofs.Reading.{read-factors, read-ty}
use Rattle.laws.specs.Written.{Reads, nothing, given, picked, plain, Small, Is, lasting-read}
use Rattle.laws.proofs.Written.{then, Begins, begun, first_read, after, factors-read, ty-read}
use Rattle.laws.specs.Heads.{next-back}
use Rattle.laws.proofs.Heads.{head-length}
use Rattle.laws.proofs.Size.{size-con, size-binding}
use Rattle.laws.specs.ReadLists.{FitsCon, FitsBinding, IsBound, Words, Writable}

pub read-con : (c : Con ℕ) (rest : List Rec) → FitsCon c → depthCon c ≤ 64 → readCon (writeCon c ++ rest) ≡ some (c, rest)
unfolding readCon writeCon writeProduct all depthCon
read-con (equal l r) rest f h =
    next-back (conKinds (readTy 64)) 20 (sizeCon (equal l r)) 0 0 0 ((writeTy l ++ writeTy r) ++ rest) rest _ (omega arith)
    (rw (append_assoc (writeTy l) (writeTy r) rest, read-ty l 63 (writeTy r ++ rest) f.0 (omega arith), read-ty r 63 rest f.1 (omega arith)))
    (head-length (writeTy l ++ writeTy r) rest (sizeCon (equal l r)) (size-con (equal l r)))
read-con (isDim t) rest f h =
    next-back (conKinds (readTy 64)) 21 (sizeCon (isDim t)) 0 0 0 (writeTy t ++ rest) rest _ (omega arith) (rw (read-ty t 63 rest f h))
    (head-length (writeTy t) rest (sizeCon (isDim t)) (size-con (isDim t)))
read-con (is_scalar p) rest f h =
    let one : next scalarKinds (writeProduct p ++ rest) ≡ some (is_scalar p, rest) =
    next-back scalarKinds 3 (suc (length p)) (length p) 0 0 (map writeFactor p ++ rest) rest _ (omega arith) (rw (read-factors p rest f))
    (head-length (map writeFactor p) rest (suc (length p)) (ap suc (length-map p writeFactor))) in
    next-back (conKinds (readTy 64)) 22 (sizeCon (is_scalar p)) 0 0 0 (writeProduct p ++ rest) rest _ (omega arith) one
    (head-length (writeProduct p) rest (sizeCon (is_scalar p)) (size-con (is_scalar p)))
read-con (hasField n s t) rest f h =
    next-back (conKinds (readTy 64)) 23 (sizeCon (hasField n s t)) n 0 0 ((writeTy s ++ writeTy t) ++ rest) rest _ (omega arith)
    (rw (append_assoc (writeTy s) (writeTy t) rest, read-ty s 63 (writeTy t ++ rest) f.0 (omega arith), read-ty t 63 rest f.1 (omega arith)))
    (head-length (writeTy s ++ writeTy t) rest (sizeCon (hasField n s t)) (size-con (hasField n s t)))

pub read-binding : (b : Binding ℕ) (rest : List Rec) → FitsBinding b → depthBinding b ≤ 64 → readBinding (writeBinding b ++ rest) ≡ some (b, rest)
unfolding readBinding writeBinding all depthBinding
read-binding (x ≔ t) rest f h =
    next-back bindingKinds 24 (sizeBinding (x ≔ t)) x 0 0 (writeTy t ++ rest) rest _ (omega arith) (rw (read-ty t 63 rest f h))
    (head-length (writeTy t) rest (sizeBinding (x ≔ t)) (size-binding (x ≔ t)))

pub read-bound : (o : Open ℕ) (rest : List Rec) → IsBound o → readBound (writeBound o ∷ rest) ≡ some (o, rest)
unfolding readBound writeBound all
read-bound (var x) rest h = next-back boundKinds 25 1 x 0 0 rest rest _ (omega arith) refl (omega arith)
read-bound (quant i) rest h = next-back boundKinds 25 1 i 1 0 rest rest _ (omega arith) refl (omega arith)
read-bound (par x) rest h = absurd h

-- one more read in front of what is read behind it
abbrev before : {A : Type 0} → A → Option (List A) → Option (List A)
before a none = none
before a (some as') = some (a ∷ as')

module _ {A : Type 0} (r : Reader A) where
  read_one : (s : List Rec) (n : ℕ) (a : A) (rest : List Rec) → 1 ≤ length s → r s ≡ some (a, rest) → read_all r (suc n) s ≡ before a (read_all r n rest)
  unfolding read_all
  read_one [] n a rest h e = absurd (omega arith)
  read_one (x ∷ xs) n a rest h e = rw (e, read_all) (go (read_all r n rest))
    where
      go : (o : Option (List A)) → elim o [ none ↦ none | some vs ↦ some (a ∷ vs) ] ≡ before a o
      go none = refl
      go (some vs) = refl

  -- a list that was written is read back
  module _ (w : A → List Rec) (P : A → Type 0) (some-record : (a : A) → 1 ≤ length (w a))
      (back : (a : A) (rest : List Rec) → P a → r (w a ++ rest) ≡ some (a, rest)) where
    pub read-all : (as' : List A) (n : ℕ) → length (collect w as') ≤ n → Every P as' → read_all r n (collect w as') ≡ some as'
    unfolding collect read_all
    read-all [] zero h p = refl
    read-all [] (suc n) h p = refl
    read-all (a ∷ as') zero h p = absurd (omega (arith, some-record a, length-append (w a) (collect w as')))
    read-all (a ∷ as') (suc n) h p =
        read_one (w a ++ collect w as') n a (collect w as') (omega (arith, some-record a, length-append (w a) (collect w as'))) (back a (collect w as') p.0)
        ∙ ap (before a) (read-all as' n (omega (arith, some-record a, length-append (w a) (collect w as'))) p.1)

pub words_back : (rs : List Rec) → records (words rs) ≡ some rs
unfolding records words
words_back [] = refl
words_back (rec k a b c ∷ rs) = rw (words_back rs)

-- ══ Read, so it stands there ══

-- the records of a constraint follow the record that begins it
abbrev Body : ℕ → ℕ → List Rec → Option (Con ℕ × List Rec) → Type 0
Body k a rs o = Reads o (λ c rest. Begins k a 0 0 rs (writeCon c) rest)

equal-read : (rs : List Rec) → Small rs → Body 20 0 rs (readEqual (readTy 64) rs)
unfolding writeCon
equal-read rs h =
    then (ty-read 64 rs h) (λ l s i.
    then (ty-read 64 s i.1) (λ r s' j.
    let n : suc (length (writeTy l ++ writeTy r)) ≡ sizeCon (equal l r) = size-con (equal l r) in
    given (record { body = writeTy l ++ writeTy r; is = rw n refl; stands = after rs s (writeTy l) (writeTy r) s' i.0 j.0; small = j.1 })))

dim-read : (rs : List Rec) → Small rs → Body 21 0 rs (readIsDim (readTy 64) rs)
unfolding writeCon
dim-read rs h =
    then (ty-read 64 rs h) (λ t s i.
    let n : suc (length (writeTy t)) ≡ sizeCon (isDim t) = size-con (isDim t) in
    given (record { body = writeTy t; is = rw n refl; stands = i.0; small = i.1 }))

-- an equal-scalar is read by its product
pub record Product-begins (k a b c : ℕ) (rs : List Rec) (x : Con ℕ) (rest : List Rec) : Type 0 where
  pub product : Product ℕ
  pub is : x ≡ is_scalar product
  pub begins : Begins k a b c rs (writeProduct product) rest

factors-there : (a : ℕ) (rs : List Rec) → Small rs → Reads (readScalar a rs) (Product-begins 3 a 0 0 rs)
unfolding writeProduct
factors-there a rs h =
    then (factors-read a rs h) (λ p s i.
    given (record {
      product = p;
      is = refl;
      begins = record { body = map writeFactor p; is = rw (length-map p writeFactor, i.1) refl; stands = i.0.0; small = i.0.1 };
    }))

scalar-begins : (s rest : List Rec) (x : Con ℕ) (p : Product ℕ) → x ≡ is_scalar p → Is s (writeProduct p) rest → Begins 22 0 0 0 s (writeCon x) rest
unfolding writeCon
scalar-begins s rest x p e i =
    let n : suc (length (writeProduct p)) ≡ sizeCon (is_scalar p) = size-con (is_scalar p) in
    rw e (record { body = writeProduct p; is = rw n refl; stands = i.0; small = i.1 })

scalar_read : (rs : List Rec) → Small rs → Body 22 0 rs (next scalarKinds rs)
scalar_read [] h = nothing
scalar_read (rec u a b c ∷ rs) h =
    let r : Reads (scalarKinds (kindIn u) a b c rs) (Product-begins (kindIn u) a b c rs) =
    picked (kindIn u) rs (scalarTable a b c) ((λ e. plain (b ∷ c ∷ []) (readScalar a) rs (λ z. rw (e, z.0, z.1.0) (factors-there a rs h.1))), tt) in
    record {
      holds = λ x rest e.
          let i = (lasting-read (lengthIn u) (suc (length rs)) (scalarKinds (kindIn u) a b c rs) r).holds x rest e in
          let g = i.0 in
          scalar-begins (rec u a b c ∷ rs) rest x g.product g.is (begun u a b c rs (writeProduct g.product) rest g.begins i.1);
    }

field-read : (n : ℕ) (rs : List Rec) → Small rs → Body 23 n rs (readHasField (readTy 64) n rs)
unfolding writeCon
field-read n rs h =
    then (ty-read 64 rs h) (λ l s i.
    then (ty-read 64 s i.1) (λ r s' j.
    let m : suc (length (writeTy l ++ writeTy r)) ≡ sizeCon (hasField n l r) = size-con (hasField n l r) in
    given (record { body = writeTy l ++ writeTy r; is = rw m refl; stands = after rs s (writeTy l) (writeTy r) s' i.0 j.0; small = j.1 })))

first-con : (k a b c : ℕ) (rs : List Rec) → Small rs → Reads (conKinds (readTy 64) k a b c rs) (λ x rest. Begins k a b c rs (writeCon x) rest)
first-con k a b c rs h = picked k rs (conTable (readTy 64) a b c) (
  (λ e. plain (a ∷ b ∷ c ∷ []) (readEqual (readTy 64)) rs (λ z. rw (e, z.0, z.1.0, z.1.1.0) (equal-read rs h))),
  (
    (λ e. plain (a ∷ b ∷ c ∷ []) (readIsDim (readTy 64)) rs (λ z. rw (e, z.0, z.1.0, z.1.1.0) (dim-read rs h))),
    (
      (λ e. plain (a ∷ b ∷ c ∷ []) (next scalarKinds) rs (λ z. rw (e, z.0, z.1.0, z.1.1.0) (scalar_read rs h))),
      ((λ e. plain (b ∷ c ∷ []) (readHasField (readTy 64) a) rs (λ z. rw (e, z.0, z.1.0) (field-read a rs h))), tt),
    ),
  ),
)

pub con-read : (s : List Rec) → Small s → Reads (readCon s) (λ c rest. Is s (writeCon c) rest)
unfolding readCon
con-read [] h = nothing
con-read (rec u a b c ∷ rs) h = first_read writeCon (conKinds (readTy 64)) u a b c rs (first-con (kindIn u) a b c rs h.1)

bound-to : (x : ℕ) (rs : List Rec) → Small rs → Reads (readBoundTo x rs) (λ b rest. Begins 24 x 0 0 rs (writeBinding b) rest)
unfolding writeBinding
bound-to x rs h =
    then (ty-read 64 rs h) (λ t s i.
    let n : suc (length (writeTy t)) ≡ sizeBinding (x ≔ t) = size-binding (x ≔ t) in
    given (record { body = writeTy t; is = rw n refl; stands = i.0; small = i.1 }))

pub binding-read : (s : List Rec) → Small s → Reads (readBinding s) (λ b rest. Is s (writeBinding b) rest)
unfolding readBinding
binding-read [] h = nothing
binding-read (rec u a b c ∷ rs) h = first_read writeBinding bindingKinds u a b c rs
    (picked (kindIn u) rs (bindingTable a b c) ((λ e. plain (b ∷ c ∷ []) (readBoundTo a) rs (λ z. rw (e, z.0, z.1.0) (bound-to a rs h.1))), tt))

pub bound-read : (s : List Rec) → Small s → Reads (readBound s) (λ o rest. Is s (writeBound o ∷ []) rest)
unfolding readBound writeBound
bound-read [] h = nothing
bound-read (rec u a b c ∷ rs) h = first_read (λ o. writeBound o ∷ []) boundKinds u a b c rs (picked (kindIn u) rs ((25, pick b (boundTable a c)) ∷ []) (
  (λ e. picked b rs (boundTable a c) (
    (λ f. plain (c ∷ []) (give (var a)) rs (λ z. given (record { body = []; is = rw (e, f, z.0) refl; stands = refl; small = h.1 }))),
    ((λ f. plain (c ∷ []) (give (quant a)) rs (λ z. given (record { body = []; is = rw (e, f, z.0) refl; stands = refl; small = h.1 }))), tt),
  )),
  tt,
))

-- a list that was read: the records are those of its parts, one after another
module _ {A : Type 0} (w : A → List Rec) where
  record Lists (o : Option (List A)) (s : List Rec) : Type 0 where
    same : (as' : List A) → o ≡ some as' → s ≡ collect w as'

  none_read : (s : List Rec) → Lists none s
  none_read s = record { same = λ as' e. absurd (cc) }

  this-read : (as' : List A) (s : List Rec) → s ≡ collect w as' → Lists (some as') s
  this-read as' s e = record { same = λ bs f. let g : as' ≡ bs = cc in e ∙ ap (collect w) g }

  one_more : (a : A) (s rest : List Rec) (o : Option (List A)) → s ≡ w a ++ rest → Lists o rest → Lists (elim o [ none ↦ none | some vs ↦ some (a ∷ vs) ]) s
  unfolding collect
  one_more a s rest none e k = none_read s
  one_more a s rest (some vs) e k = this-read (a ∷ vs) s (e ∙ ap (w a ++◌) (k.same vs refl))

  module _ (r : Reader A) (stands : (s : List Rec) → Small s → Reads (r s) (λ a rest. Is s (w a) rest)) where
    step : (n : ℕ) (x : Rec) (xs : List Rec) (o : Option (A × List Rec)) → r (x ∷ xs) ≡ o → Small (x ∷ xs)
        → ((s : List Rec) → Small s → Lists (read_all r n s) s) → Lists (read_all r (suc n) (x ∷ xs)) (x ∷ xs)
    unfolding read_all
    step n x xs none e h k = rw (e, read_all) (none_read (x ∷ xs))
    step n x xs (some v) e h k =
        let i = (stands (x ∷ xs) h).holds v.0 v.1 e in
        rw (e, read_all) (one_more v.0 (x ∷ xs) v.1 (read_all r n v.1) i.0 (k v.1 i.1))

    lists : (n : ℕ) (s : List Rec) → Small s → Lists (read_all r n s) s
    unfolding read_all collect
    lists zero [] h = this-read [] [] refl
    lists zero (x ∷ xs) h = none_read (x ∷ xs)
    lists (suc n) [] h = this-read [] [] refl
    lists (suc n) (x ∷ xs) h = step n x xs (r (x ∷ xs)) refl h (lists n)

    pub all_read : (n : ℕ) (s : List Rec) (as' : List A) → Small s → read_all r n s ≡ some as' → s ≡ collect w as'
    all_read n s as' h e = (lists n s h).same as' e

-- what words were taken as has these words, and its words are small
pub record Taken (ws : List ℕ) (o : Option (List Rec)) : Type 0 where
  pub back : (rs : List Rec) → o ≡ some rs → (words rs ≡ ws) × Small rs

none-taken : (ws : List ℕ) → Taken ws none
none-taken ws = record { back = λ rs e. absurd (cc) }

this-taken : (ws : List ℕ) (rs : List Rec) → words rs ≡ ws → Small rs → Taken ws (some rs)
this-taken ws rs e h = record { back = λ rs' f. let g : rs ≡ rs' = cc in (ap words (sym g) ∙ e, subst Small g h) }

four-taken : (k a b c : ℕ) (ws : List ℕ) (o : Option (List Rec)) → b < 4_294_967_296 → Taken ws o
    → Taken (k ∷ a ∷ b ∷ c ∷ ws) (elim o [ none ↦ none | some rs ↦ some (rec k a b c ∷ rs) ])
unfolding words
four-taken k a b c ws none h t = none-taken (k ∷ a ∷ b ∷ c ∷ ws)
four-taken k a b c ws (some rs) h t = this-taken (k ∷ a ∷ b ∷ c ∷ ws) (rec k a b c ∷ rs) (ap (λ v. k ∷ a ∷ b ∷ c ∷ v) (t.back rs refl).0)
    (h, (t.back rs refl).1)

pub taken : (ws : List ℕ) → Words ws → Taken ws (records ws)
unfolding records words
taken [] h = this-taken [] [] refl tt
taken (k ∷ []) h = none-taken (k ∷ [])
taken (k ∷ a ∷ []) h = none-taken (k ∷ a ∷ [])
taken (k ∷ a ∷ b ∷ []) h = none-taken (k ∷ a ∷ b ∷ [])
taken (k ∷ a ∷ b ∷ c ∷ ws) h = four-taken k a b c ws (records ws) h.1.1.0 (taken ws h.1.1.1.1)

-- ══ A list of words holds one set at the most ══

con-records : (c : Con ℕ) → 1 ≤ length (writeCon c)
unfolding writeCon
con-records (equal l r) = omega arith
con-records (isDim t) = omega arith
con-records (is_scalar p) = omega arith
con-records (hasField n s t) = omega arith

pub read_set : (cs : List (Con ℕ)) → Every Writable cs → read_all readCon (length (collect writeCon cs)) (collect writeCon cs) ≡ some cs
read_set cs h = read-all readCon writeCon Writable con-records (λ c rest w. read-con c rest w.0 w.1) cs (length (collect writeCon cs)) (omega arith) h

pub one_set : (cs ds : List (Con ℕ)) → Every Writable cs → Every Writable ds → words (collect writeCon cs) ≡ words (collect writeCon ds) → cs ≡ ds
one_set cs ds h k e =
    let f : collect writeCon cs ≡ collect writeCon ds = let g : ◌≡◌ {A = Option (List Rec)} (some (collect writeCon cs))
    (some (collect writeCon ds)) = sym (words_back (collect writeCon cs)) ∙ ap records e ∙ words_back (collect writeCon ds) in cc in
    let g : ◌≡◌ {A = Option (List (Con ℕ))} (some cs) (some ds) = sym (read_set cs h) ∙ ap (λ rs. read_all readCon (length rs) rs) f ∙ read_set ds k in
    cc
