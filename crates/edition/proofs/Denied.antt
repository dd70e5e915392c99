-- Why the judge says no only to a set outside the premise, and to the constraint that is named.
use Rattle.std.specs.Prelude.{◌≡◌, refl, Bool, true, false, List, [], ◌∷◌, ℕ, suc, ◌+◌, drop}
use mathlib.Core.List.Memᴰ
use mathlib.Core.List.{Memᴰ}
use Rattle.std.proofs.Common.{sym, ap, subst, ◌∙◌, arith, inl, inr}
use Rattle.std.proofs.Math.Option.{Option, none, some}
use Rattle.rules.specs.Base.{Got, got, refused, ◌>>=◌, bounded, need, collect, is_none}
use Rattle.rules.specs.Calls.{shortLists, tableKept, setGiven, solvedSet, apart}
use Rattle.rules.specs.Contents.{unmixed}
use Rattle.rules.specs.Judging.{judge, judgeCon, failing}
use Rattle.rules.specs.Meaning.{TrueUnder, Premise}
use Rattle.rules.specs.Names.{Bytes, Table, table_of, numbersOf, is_held}
use Rattle.rules.specs.Reports.{denied, judgedBy, finding, findingOf, Content, holding, refusing, lacking, Page}
use Rattle.rules.specs.Solving.{Answer, accepted, remaining, stopped, solve}
use Rattle.rules.specs.Trees.{Names, Con, Binding, opensCon}
use Rattle.rules.specs.Writing.{words, writeCon}
use Rattle.laws.proofs.Checks.{need-passed}
use Rattle.laws.proofs.Given.{set-read}
use Rattle.laws.proofs.Lists.{bound-step, true≢false, some≢none, got≢refused}
use Rattle.laws.specs.NameTable.{Good}
use Rattle.text_columns.proofs.Left.{read-back}
use Rattle.theorems_soundness.specs.Claims.{Given, YesOrLimits, Fails}
use Rattle.theorems_soundness.proofs.Soundness.{own-answer, no-fails}
use Rattle.theorems_soundness.proofs.Words.{numbers-ordered}
use Rattle.judge_trials.proofs.Failing.{none-fails}
use Rattle.edition.specs.Theorems.{DeniedBy, DeniedOn, DeniedWithoutPremise, DeniedOnlyWithoutPremise}
use Rattle.edition.proofs.Origins.{Rooted, RootedPage, on-pages}

-- ══ The constraint that fails ══

module _ (ν : Names ℕ) (bs : List (Binding ℕ)) (ns : List ℕ) where
  pub record FailsAt (cs : List (Con ℕ)) (j : ℕ) : Type 0 where
    pub constraint : Con ℕ
    pub there : drop j cs ≡ constraint ∷ drop (suc j) cs
    pub untrue : ¬ (TrueUnder ν bs ns constraint)

  one-false : (c : Con ℕ) → judgeCon ν bounded bs ns c ≡ got false → judge ν bounded bs ns (c ∷ []) ≡ got false
  unfolding judge
  one-false c e = rw (e, judge) refl

  untrue-con : (c : Con ℕ) → judgeCon ν bounded bs ns c ≡ got false → ¬ (TrueUnder ν bs ns c)
  untrue-con c e t = go (no-fails ν (c ∷ []) bs ns (one-false c e))
    where
      go : Fails ν (c ∷ []) bs ns → ⊥
      go f = which f.given
        where
          which : Memᴰ f.constraint (c ∷ []) → ⊥
          which (Memᴰ.head q) = f.fails (subst (λ (d : Con ℕ). TrueUnder ν bs ns d) (sym q) t)
          which (Memᴰ.tail m) = absurd (Memᴰ.not-nil m)

  pub fails-at : (cs : List (Con ℕ)) (k i : ℕ) → failing ν bounded bs ns k cs ≡ got (some i) → (j : ℕ) × ((i ≡ k + j) × FailsAt cs j)
  unfolding failing
  fails-at [] k i e = let z : none ≡ some i = cc e in absurd (some≢none (sym z))
  fails-at (c ∷ cs) k i e = go (judgeCon ν bounded bs ns c) refl (fails-at cs (suc k) i) e
    where
      go : (m : Got Bool) → judgeCon ν bounded bs ns c ≡ m → (failing ν bounded bs ns (suc k) cs ≡ got (some i) → (j : ℕ) × ((i ≡ suc k + j) × FailsAt cs j))
          → (m >>= λ b. elim b [ true ↦ failing ν bounded bs ns (suc k) cs | false ↦ got (some k) ]) ≡ got (some i) → (j : ℕ)
          × ((i ≡ k + j) × FailsAt (c ∷ cs) j)
      go (got true) q f e =
          let r = f e in
          (suc r.0, (omega (arith, r.1.0), record { constraint = r.1.1.constraint; there = r.1.1.there; untrue = r.1.1.untrue }))
      go (got false) q f e = let z : k ≡ i = cc e in (0, (omega (arith, z), record { constraint = c; there = refl; untrue = untrue-con c q }))
      go (refused n) q f e = absurd (got≢refused (sym e))

-- ══ A set ══

module _ (pool table : List ℕ) (good : Good pool table) (cs : List (Con ℕ))
    (back : (t : Table) (ds : List (Con ℕ)) → setGiven t (words (collect writeCon cs)) ≡ got ds → ds ≡ cs) where
  abbrev t : Table
  t = table_of pool table

  abbrev ν : Names ℕ
  ν = numbersOf t

  no-premise : (bs : List (Binding ℕ)) (ns : List ℕ) (k : ℕ) → solvedSet t (words (collect writeCon cs)) ≡ got (accepted bs ns k)
      → judge ν bounded bs ns cs ≡ got false → ¬ (Premise ν cs bs)
  unfolding solvedSet apart
  no-premise bs ns k e j premise =
      let ws = words (collect writeCon cs) in
      let p = bound-step (shortLists (ws ∷ [])) _ (accepted bs ns k) e in
      let q = bound-step (tableKept t) _ (accepted bs ns k) p.2 in
      let c = bound-step (setGiven t ws) _ (accepted bs ns k) q.2 in
      let d = bound-step (need (unmixed ν (collect opensCon c.0)) 4) _ (accepted bs ns k) c.2 in
      let z = back t c.0 c.1 in
      let given : Given ν (is_held t) c.0 = record { well-formed = (set-read t ws c.0 c.1).0; apart = need-passed (unmixed ν (collect opensCon c.0)) 4 d.1 } in
      let s : solve ν bounded c.0 ≡ accepted bs ns k = cc d.2 in
      let y = own-answer ν (is_held t) (numbers-ordered pool table good) c.0 given bs ns k s (subst (λ (l : List (Con ℕ)). Premise ν l bs) (sym z) premise) in
      neither (subst (λ (l : List (Con ℕ)). YesOrLimits (judge ν bounded bs ns l)) z y)
    where
      neither : YesOrLimits (judge ν bounded bs ns cs) → ⊥
      neither (inl y) = let w : false ≡ true = cc (sym j ∙ y) in absurd (true≢false (sym w))
      neither (inr (inl y)) = absurd (got≢refused (sym (sym y ∙ j)))
      neither (inr (inr y)) = absurd (got≢refused (sym (sym y ∙ j)))

  pub set-denied : (i : ℕ) → finding ν cs (solvedSet t (words (collect writeCon cs))) ≡ denied i → DeniedBy t cs i
  unfolding finding
  set-denied i e = go (solvedSet t (words (collect writeCon cs))) refl e
    where
      go : (m : Got (Answer ℕ)) → solvedSet t (words (collect writeCon cs)) ≡ m → finding ν cs m ≡ denied i → DeniedBy t cs i
      go (refused n) q e = cc e
      go (got (remaining ds k)) q e = cc e
      go (got (stopped n k)) q e = cc e
      go (got (accepted bs ns k)) q e = by (failing ν bounded bs ns 0 cs) refl e
        where
          by : (j : Got (Option ℕ)) → failing ν bounded bs ns 0 cs ≡ j → judgedBy j bs ns k ≡ denied i → DeniedBy t cs i
          by (got none) f e = cc e
          by (refused n) f e = cc e
          by (got (some h)) f e =
              let z : h ≡ i = cc e in
              let r = fails-at ν bs ns cs 0 h f in
              let w : r.0 ≡ i = omega (arith, r.1.0, z) in
              let x = subst (λ (j : ℕ). FailsAt ν bs ns cs j) w r.1.1 in
              record {
                binds = bs;
                bounds = ns;
                rounds = k;
                solved = q;
                constraint = x.constraint;
                there = x.there;
                untrue = x.untrue;
                without = no-premise bs ns k q (none-fails ν bounded bs ns 0 cs ∙ ap (λ (m : Got (Option ℕ)). m >>= λ o. got (is_none o)) f);
              }

-- ══ An edition ══

content-denied : (pool table : List ℕ) → Good pool table → (text : Bytes) (c : Content) → Rooted text c → (i : ℕ)
    → findingOf (table_of pool table) c ≡ denied i → DeniedOn (table_of pool table) c i
unfolding findingOf
content-denied pool table g text (holding cs) r i e = set-denied pool table g cs (λ t ds h. read-back r.pool r.table text r.is t ds h) i e
content-denied pool table g text (refusing n l c) r i e = cc e
content-denied pool table g text (lacking u) r i e = cc e

page-denied : (pool table : List ℕ) → Good pool table → (p : Page) → RootedPage p → DeniedWithoutPremise (table_of pool table) p
page-denied pool table g p r i e = content-denied pool table g p.text p.content r i e

pub edition-denied : DeniedOnlyWithoutPremise
edition-denied = on-pages DeniedWithoutPremise page-denied
