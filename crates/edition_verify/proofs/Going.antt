-- What holds while files and sheets are gone over, one after another.
use Rattle.std.specs.Prelude.{◌≡◌, refl, Bool, true, false, not, ℕ, ◌+◌, ◌≤◌, ◌<◌, List, [], ◌∷◌, ◌++◌, length, drop, get_or}
use Rattle.std.specs.Prelude.{Some, None, Result, Ok, Err, IfOk, OnOk}
use Rattle.std.proofs.Common.{sym, ap, ◌∙◌, arith, append-nil, append_assoc}
use Rattle.std.specs.Prelude.{nat_eq}
use Rattle.std.specs.Cmp.Lexicographic.{pointwise, same_text, other_text}
use Rattle.std.proofs.lemmas.List.{at_drop_more, at_drop_all, length-map}
use Rattle.rules.specs.Base.{any, collect, oneIf}
use Rattle.rules.specs.Names.{Bytes, sameBytes}
use Rattle.laws.specs.Lists.{Every}
use Rattle.laws.proofs.NameTable.{same-no, same-yes}
use Rattle.laws.proofs.Numbers.{one_at_most}
use Rattle.edition.specs.Files.{files_of}
use Rattle.edition.specs.declared.model.File.{File}
use Rattle.edition_certificate_file.specs.declared.Entry.{Entry}
use Rattle.edition_verify.specs.Verifying.{CertifiedBy, Had, TrueBy, YesIsTrue, findEntry, isNamed, isYes, word, wordBy, wordOf}
use Rattle.edition_verify.specs.Verifying.{fileText, otherText, othersIn, verifiedIn}
use Rattle.edition_verify.specs.declared.Answer.{Answer}
use Rattle.edition_certificate_file.specs.Files.{writtenName}
use Rattle.edition_verify.specs.Files.{had}

-- ══ The same bytes ══

pub same-told : (a b : Bytes) (r : Bool) → r ≡ pointwise nat_eq a b → r ≡ sameBytes a b
same-told a b true e = sym (same-yes a b (same_text a b e))
same-told a b false e = sym (same-no a b (other_text a b e))

-- ══ A list from a place on ══

module _ {A B : Type 0} (f : List A → B) (xs : List A) (i : ℕ) (x d : A) (h : i < length xs) (q : x ≡ get_or xs i d) where
  pub at-item : f (drop i xs) ≡ f (x ∷ drop (i + 1) xs)
  at-item = at_drop_more f xs i d h ∙ ap (λ (y : A). f (y ∷ drop (i + 1) xs)) (sym q)

module _ (name : Bytes) (es : List Entry) (i : ℕ) (e d : Entry) (h : i < length es) (q : e ≡ get_or es i d)
    (k : findEntry name (drop i es) ≡ findEntry name es) where
  pub found-here : sameBytes e.name.items name ≡ true → Some e ≡ findEntry name es
  unfolding findEntry
  found-here s = rw s at (sym (at-item (findEntry name) es i e d h q) ∙ k)

  pub found-later : sameBytes e.name.items name ≡ false → findEntry name (drop (i + 1) es) ≡ findEntry name es
  unfolding findEntry
  found-later s = rw s at (sym (at-item (findEntry name) es i e d h q) ∙ k)

pub found-nowhere : (name : Bytes) (es : List Entry) (i : ℕ) → length es ≤ i → findEntry name (drop i es) ≡ findEntry name es → None ≡ findEntry name es
unfolding findEntry
found-nowhere name es i h k = sym (at_drop_all (findEntry name) es i h) ∙ k

-- ══ Lines and counts ══

-- lines are put for the first i, and they count n
pub record SoFar {A : Type 0} (put : List A → Bytes) (count : List A → ℕ) (xs : List A) (i n : ℕ) (old new : Bytes) : Type 0 where
  pub text : new ++ put (drop i xs) ≡ old ++ put xs
  pub counted : n + count (drop i xs) ≡ count xs
  pub few : n ≤ i

module _ {A : Type 0} (put : List A → Bytes) (count : List A → ℕ) (xs : List A) (old : Bytes) where
  pub begun : SoFar put count xs 0 0 old old
  begun = record { text = refl; counted = omega arith; few = omega arith }

  pub one-told : {mid new : Bytes} (i n : ℕ) (x d : A) → i < length xs → x ≡ get_or xs i d → SoFar put count xs i n old mid
      → (b : Bytes) → ((r : List A) → put (x ∷ r) ≡ b ++ put r) → (m : ℕ) → ((r : List A) → count (x ∷ r) ≡ m + count r) → m ≤ 1
      → new ≡ mid ++ b → SoFar put count xs (i + 1) (n + m) old new
  one-told {mid} {new} i n x d h q s b p m c small t =
      let rest = drop (i + 1) xs in
      let here : put (drop i xs) ≡ b ++ put rest = at-item put xs i x d h q ∙ p rest in
      let all : count (drop i xs) ≡ m + count rest = at-item count xs i x d h q ∙ c rest in
      record {
        text = ap (λ (z : Bytes). z ++ put rest) t ∙ append_assoc mid b (put rest) ∙ ap (mid ++◌) (sym here) ∙ s.text;
        counted = omega (arith, all, s.counted);
        few = omega (arith, small, s.few);
      }

  pub all-told : {new : Bytes} (i n : ℕ) → length xs ≤ i → put [] ≡ [] → SoFar put count xs i n old new → new ≡ old ++ put xs
  all-told {new} i n h e s = sym (ap (new ++◌) (at_drop_all put xs i h ∙ e) ∙ append-nil new) ∙ s.text

  pub all-counted : {new : Bytes} (i n : ℕ) → length xs ≤ i → count [] ≡ 0 → SoFar put count xs i n old new → n ≡ count xs
  all-counted i n h e s = let k = at_drop_all count xs i h in omega (arith, k, e, s.counted)

module _ (p : Had → Bool) (fs : List File) (i : ℕ) (f d : File) (h : i < length fs) (q : f ≡ get_or fs i d)
    (k : any p (files_of (drop i fs)) ≡ any p (files_of fs)) where
  pub any-here : p (had f) ≡ true → true ≡ any p (files_of fs)
  unfolding any had
  any-here e = rw e at (sym (at-item (λ (xs : List File). any p (files_of xs)) fs i f d h q) ∙ k)

  pub any-later : p (had f) ≡ false → any p (files_of (drop (i + 1) fs)) ≡ any p (files_of fs)
  unfolding any had
  any-later e = rw e at (sym (at-item (λ (xs : List File). any p (files_of xs)) fs i f d h q) ∙ k)

pub any-nowhere : (p : Had → Bool) (fs : List File) (i : ℕ) → length fs ≤ i → any p (files_of (drop i fs)) ≡ any p (files_of fs) → false ≡ any p (files_of fs)
unfolding any
any-nowhere p fs i h k = sym (at_drop_all (λ (xs : List File). any p (files_of xs)) fs i h) ∙ k

module _ (P : Had → Type 0) (fs : List File) (i : ℕ) where
  pub every-more : (f d : File) → i < length fs → f ≡ get_or fs i d → P (had f) → (Every P (files_of (drop i fs)) → Every P (files_of fs))
      → Every P (files_of (drop (i + 1) fs)) → Every P (files_of fs)
  unfolding had
  every-more f d h q px k later = k (rw (at-item (λ (xs : List File). xs) fs i f d h q) (px, later))

  pub every-one : length fs ≤ i → (Every P (files_of (drop i fs)) → Every P (files_of fs)) → Every P (files_of fs)
  every-one h k = k (rw (at_drop_all (λ (xs : List File). xs) fs i h) tt)

-- ══ Yes ══

module _ {E : Type 0} (es : List Entry) (h : Had) (e : Entry) where
  pub yes-true : (r : Result Answer E) → findEntry (writtenName h.0) es ≡ Some e → IfOk r (λ a. word a ≡ wordBy e h.1)
      → IfOk r (λ a. isYes (word a) ≡ true → CertifiedBy e h.1) → OnOk r (YesIsTrue es h)
  unfolding wordOf
  yes-true (Ok a) f i t = λ y. record { entry = e; kept = f; certified = t (ap isYes i ∙ rw f at y) }
  yes-true (Err z) f i t = tt

module _ (es : List Entry) (fs : List File) (old : Bytes) where
  pub file-told : {mid new : Bytes} (i n : ℕ) (x d : File) → i < length fs → x ≡ get_or fs i d
      → SoFar (λ (xs : List File). collect (fileText es) (files_of xs)) (λ (xs : List File). verifiedIn es (files_of xs)) fs i n old mid
      → (b : Bool) → b ≡ isYes (wordOf es (had x)) → new ≡ mid ++ fileText es (had x)
      → SoFar (λ (xs : List File). collect (fileText es) (files_of xs)) (λ (xs : List File). verifiedIn es (files_of xs)) fs (i + 1) (n + oneIf b) old new
  unfolding collect had
  file-told i n x d h q s b y t = one-told (λ (xs : List File). collect (fileText es) (files_of xs)) (λ (xs : List File). verifiedIn es (files_of xs)) fs old
      i n x d h q s (fileText es (had x)) (λ r. refl) (oneIf b) (λ r. rw y refl) (one_at_most b) t

module _ (hs : List Had) (es : List Entry) (old : Bytes) where
  pub other-told : {mid new : Bytes} (i n : ℕ) (x : Entry) → i < length es → x ≡ get_or es i x
      → SoFar (collect (otherText hs)) (othersIn hs) es i n old mid → (b : Bool) → b ≡ isNamed hs x → new ≡ mid ++ otherText hs x
      → SoFar (collect (otherText hs)) (othersIn hs) es (i + 1) (n + oneIf (not b)) old new
  unfolding collect
  other-told i n x h q s b y t = one-told (collect (otherText hs)) (othersIn hs) es old i n x x h q s (otherText hs x) (λ r. refl) (oneIf (not b))
      (λ r. rw y refl) (one_at_most (not b)) t

-- where as many are verified as there are files, all of them are
module _ (es : List Entry) where
  at-most : (hs : List Had) → verifiedIn es hs ≤ length hs
  at-most [] = omega arith
  at-most (h ∷ hs) = go (isYes (wordOf es h)) (at-most hs)
    where
      go : (b : Bool) → verifiedIn es hs ≤ length hs → oneIf b + verifiedIn es hs ≤ length (h ∷ hs)
      go true k = omega (arith, k)
      go false k = omega (arith, k)

  pub all-yes : (hs : List Had) → Every (YesIsTrue es) hs → length hs ≤ verifiedIn es hs → Every (TrueBy es) hs
  all-yes [] k n = tt
  all-yes (h ∷ hs) k n = go (isYes (wordOf es h)) refl n (all-yes hs k.1)
    where
      go : (b : Bool) → isYes (wordOf es h) ≡ b → length (h ∷ hs) ≤ oneIf b + verifiedIn es hs → (length hs ≤ verifiedIn es hs → Every (TrueBy es) hs)
          → Every (TrueBy es) (h ∷ hs)
      go true e n r = (k.0 e, r (omega (arith, n)))
      go false e n r = let m = at-most hs in absurd (omega (arith, m, n))

-- no more are counted than there are
pub as-many : (fs : List File) → length (files_of fs) ≡ length fs
as-many fs = length-map fs _

module _ (hs : List Had) where
  pub few-others : (es : List Entry) → othersIn hs es ≤ length es
  few-others [] = omega arith
  few-others (e ∷ es) = go (not (isNamed hs e)) (few-others es)
    where
      go : (b : Bool) → othersIn hs es ≤ length es → oneIf b + othersIn hs es ≤ length (e ∷ es)
      go true k = omega (arith, k)
      go false k = omega (arith, k)
