-- Reading and replacing keep how many types there are.
use Rattle.std.specs.Prelude.{◌≡◌, Bool}
use Rattle.std.proofs.Math.Path.{refl, ap, subst}
use Rattle.std.proofs.Common.{sym}
use Prim.Native.Nat.{suc}
use Rattle.rules.specs.Base.{got, Limits}
use Rattle.rules.specs.Trees.{Names, Tys, nil, cons, count}
use Rattle.rules.specs.Plain.{plain, plainTys}
use Rattle.rules.specs.Replacing.{Look, replaceTy, replaceTys}
use Rattle.laws.proofs.Lists.{two_steps}

module _ {N : Type 0} where
  pub plain-count : (ts : Tys N) (k : Bool) → count (plainTys ts k) ≡ count ts
  unfolding plain count
  plain-count nil k = refl
  plain-count (cons t ts) k = ap suc (plain-count ts k)

  pub replaced-count : (ν : Names N) (l : Limits) (look : Look N) (ts us : Tys N) → replaceTys ν l look ts ≡ got us → count us ≡ count ts
  unfolding replaceTy count
  replaced-count ν l look nil us e = let z : nil ≡ us = cc in ap count (sym z)
  replaced-count ν l look (cons t ts) us e =
      let w = two_steps (replaceTy ν l look t) (λ _. replaceTys ν l look ts) cons us e in
      subst (λ (vs : Tys N). count vs ≡ count (cons t ts)) w.both (ap suc (replaced-count ν l look ts w.second w.then))
