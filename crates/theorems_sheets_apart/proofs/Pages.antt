-- What is told of a finding, by what is found, with names in place of numbers.
use Rattle.std.specs.Prelude.{◌≡◌, Bool, true, false}
use Rattle.std.proofs.Math.Path.{refl, ap, ap₂}
use mathlib.Core.List.{List, [], ◌∷◌, ◌++◌, map}
use Prim.Native.Nat.{ℕ}
use Rattle.rules.specs.Base.{collect}
use Rattle.rules.specs.Trees.{var, Con, Binding, ◌≔◌}
use Rattle.rules.specs.Grammar.{ascii}
use Rattle.rules.specs.Names.{Bytes, Table, table_of}
use Rattle.rules.specs.TextWriting.{nameText, namesIn}
use Rattle.rules.specs.Offices.{Name, bytesIn, nameNo, mapCon, mapBinding}
use Rattle.rules.specs.Reports.{Finding, unseen, unread, agrees, denied, unjudged, remains, stops, isAccepted, quantity, refusedText, placeText}
use Rattle.rules.specs.Reports.{bindingLine, boundLine, remainingLine, findingText}
use Rattle.rules.specs.Apart.{Found, accepts, leaves, says, found}
use Rattle.laws.specs.NameTable.{Good}
use Rattle.theorems_offices.proofs.Texts.{openShown, tyShown, conShown, name-shown, open-shown, ty-shown, con-shown}

-- ══ What is found, as text ══

abbrev bindingShown : Binding Name → Bytes
bindingShown (x ≔ t) = ascii "  " ++ (openShown (var x) ++ (ascii " ~ " ++ (tyShown t ++ ascii "\n")))

abbrev boundShown : Name → Bytes
boundShown x = ascii "  " ++ (nameText (bytesIn x) ++ ascii ": DType\n")

abbrev remainingShown : Con Name → Bytes
remainingShown c = ascii "  " ++ (conShown c ++ ascii "\n")

-- others hold no name
pub foundText : Bytes → ℕ → ℕ → Found → Bytes
foundText text cs new (accepts bs ns k) = ascii "accepted: " ++ (quantity cs (ascii " constraint") ++ (ascii ", " ++ (quantity k (ascii " round")
    ++ (ascii ", " ++ (quantity new (ascii " new name") ++ (ascii "\n" ++ (collect bindingShown bs ++ collect boundShown ns)))))))
foundText text cs new (leaves ds k) = refusedText 5 ++ (ascii " after " ++ (quantity k (ascii " round") ++ (ascii "\n" ++ collect remainingShown ds)))
foundText text cs new (says f) = findingText (λ x. []) text cs new f

pub foundPlace : Bytes → Found → Bytes
foundPlace text (accepts bs ns k) = []
foundPlace text (leaves ds k) = []
foundPlace text (says f) = placeText text f

pub foundAccepted : Found → Bool
foundAccepted (accepts bs ns k) = true
foundAccepted (leaves ds k) = false
foundAccepted (says f) = isAccepted f

-- ══ A finding's text is that of what is found ══

module _ {pool table : List ℕ} (good : Good pool table) where
  abbrev t : Table
  t = table_of pool table

  abbrev g : ℕ → Bytes
  g = namesIn t

  abbrev ν : ℕ → Name
  ν = nameNo t

  bindings-shown : (bs : List (Binding ℕ)) → collect (bindingLine g) bs ≡ collect bindingShown (map (mapBinding ν) bs)
  unfolding collect mapBinding
  bindings-shown [] = refl
  bindings-shown (x ≔ u ∷ bs) = one (open-shown good (var x)) (ty-shown good u) (bindings-shown bs)
    where
      one : {a a' b b' c c' : Bytes} → a ≡ a' → b ≡ b' → c ≡ c'
          → (ascii "  " ++ (a ++ (ascii " ~ " ++ (b ++ ascii "\n")))) ++ c ≡ (ascii "  " ++ (a' ++ (ascii " ~ " ++ (b' ++ ascii "\n")))) ++ c'
      one e f h = rw (e, f, h)

  bounds-shown : (ns : List ℕ) → collect (boundLine g) ns ≡ collect boundShown (map ν ns)
  unfolding collect
  bounds-shown [] = refl
  bounds-shown (n ∷ ns) = ap₂ (λ (a b : Bytes). (ascii "  " ++ (a ++ ascii ": DType\n")) ++ b) (name-shown good n) (bounds-shown ns)

  remaining-shown : (cs : List (Con ℕ)) → collect (remainingLine g) cs ≡ collect remainingShown (map (mapCon ν) cs)
  unfolding collect
  remaining-shown [] = refl
  remaining-shown (c ∷ cs) = ap₂ (λ (a b : Bytes). (ascii "  " ++ (a ++ ascii "\n")) ++ b) (con-shown good c) (remaining-shown cs)

  pub text-found : (text : Bytes) (cs new : ℕ) (f : Finding) → findingText g text cs new f ≡ foundText text cs new (found t f)
  unfolding findingText found foundText
  text-found text cs new (unseen u) = refl
  text-found text cs new (unread n l c) = refl
  text-found text cs new (agrees bs ns k) =
      ap₂ (λ (a b : Bytes). ascii "accepted: " ++
      (quantity cs (ascii " constraint") ++
      (ascii ", " ++ (quantity k (ascii " round") ++ (ascii ", " ++ (quantity new (ascii " new name") ++ (ascii "\n" ++ (a ++ b))))))))
      (bindings-shown bs) (bounds-shown ns)
  text-found text cs new (denied i) = refl
  text-found text cs new (unjudged n) = refl
  text-found text cs new (remains ds k) = ap (λ (a : Bytes). refusedText 5 ++ (ascii " after " ++ (quantity k (ascii " round") ++ (ascii "\n" ++ a))))
      (remaining-shown ds)
  text-found text cs new (stops n k) = refl

pub place-found : (t : Table) (text : Bytes) (f : Finding) → placeText text f ≡ foundPlace text (found t f)
unfolding placeText found foundPlace
place-found t text (unseen u) = refl
place-found t text (unread n l c) = refl
place-found t text (agrees bs ns k) = refl
place-found t text (denied i) = refl
place-found t text (unjudged n) = refl
place-found t text (remains ds k) = refl
place-found t text (stops n k) = refl

pub accepted-found : (t : Table) (f : Finding) → isAccepted f ≡ foundAccepted (found t f)
unfolding found foundAccepted
accepted-found t (unseen u) = refl
accepted-found t (unread n l c) = refl
accepted-found t (agrees bs ns k) = refl
accepted-found t (denied i) = refl
accepted-found t (unjudged n) = refl
accepted-found t (remains ds k) = refl
accepted-found t (stops n k) = refl
