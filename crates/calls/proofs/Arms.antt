-- What a call's arm comes to, from what the call itself says.
use mathlib.Core.Path.{◌≡◌, ap, ◌∙◌}
use mathlib.Core.Bool.{Bool}
use mathlib.Core.List.{List}
use Prim.Native.Nat.{ℕ}
use Rattle.rules.specs.Base.{Got}
use Rattle.rules.specs.Calls.{Listed, Written, Solved, Solution, Judged}
use Rattle.calls_defined.specs.Saying.{askedAs, countedAs, writtenAs, solvedAs}
use Rattle.calls_defined.specs.Dispatch.{Shown, Done, Named, shown, done, named, served}
use Rattle.calls_defined.specs.declared.told.Told.{Told}

module _ {pool table result work : List ℕ} where
  pub said : {t u : Told} → t ≡ u → served t pool table result work ≡ served u pool table result work
  said f = ap (λ (t : Told). served t pool table result work) f

  -- an answer, as the rules have it
  pub told : {A : Type 0} (say : Got A → Told) {t : Told} {m n : Got A} → t ≡ say m → m ≡ n
      → served t pool table result work ≡ served (say n) pool table result work
  told say f g = said (f ∙ ap say g)

module _ {pool table : List ℕ} where
  pub shows : {work : List ℕ} {t : Told} {res : List ℕ} {s : Shown} → shown t res ≡ s → served t pool table res work ≡ served s.told pool table s.result work
  shows {work} f = ap (λ (s : Shown). served s.told pool table s.result work) f

  pub does : {t : Told} {res work' : List ℕ} {s : Done} → done t res work' ≡ s → served t pool table res work' ≡ served s.told pool table s.result s.work
  does f = ap (λ (s : Done). served s.told pool table s.result s.work) f

  pub lists : {work : List ℕ} {t : Told} {m : Got ℕ} {res : List ℕ} {l : Listed} → t ≡ countedAs m
      → ◌≡◌ {A = Listed} (record { answer = m; result = res }) l → served t pool table res work ≡ served (countedAs l.answer) pool table l.result work
  lists {work} {res = res} f g =
      ap (λ (t : Told). served t pool table res work) f ∙ ap (λ (l : Listed). served (countedAs l.answer) pool table l.result work) g

  pub writes : {t : Told} {m : Got ℕ} {res work' : List ℕ} {w : Written} → t ≡ writtenAs m
      → ◌≡◌ {A = Written} (record { answer = m; result = res; work = work' }) w
      → served t pool table res work' ≡ served (writtenAs w.answer) pool table w.result w.work
  writes {res = res} {work' = work'} f g =
      ap (λ (t : Told). served t pool table res work') f ∙ ap (λ (w : Written). served (writtenAs w.answer) pool table w.result w.work) g

  pub solves : {t : Told} {m : Solved} {res work' : List ℕ} {s : Solution} → t ≡ solvedAs m
      → ◌≡◌ {A = Solution} (record { answer = m; result = res; work = work' }) s
      → served t pool table res work' ≡ served (solvedAs s.answer) pool table s.result s.work
  solves {res = res} {work' = work'} f g =
      ap (λ (t : Told). served t pool table res work') f ∙ ap (λ (s : Solution). served (solvedAs s.answer) pool table s.result s.work) g

  pub judges : {result : List ℕ} {t : Told} {m : Got Bool} {work' : List ℕ} {j : Judged} → t ≡ askedAs m
      → ◌≡◌ {A = Judged} (record { answer = m; work = work' }) j → served t pool table result work' ≡ served (askedAs j.answer) pool table result j.work
  judges {result} {work' = work'} f g =
      ap (λ (t : Told). served t pool table result work') f ∙ ap (λ (j : Judged). served (askedAs j.answer) pool table result j.work) g

pub enters : {work : List ℕ} {t : Told} {p' t' res : List ℕ} {s : Named} → named t p' t' res ≡ s
    → served t p' t' res work ≡ served s.told s.pool s.table s.result work
enters {work} f = ap (λ (s : Named). served s.told s.pool s.table s.result work) f
