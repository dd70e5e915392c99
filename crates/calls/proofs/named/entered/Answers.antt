-- `entered` meets its contract.
use mathlib.Core.Path.{refl, ap, ◌∙◌}
use mathlib.Core.List.{List}
use Prim.Native.Nat.{ℕ}
use native.Mathlib.Omega.{arith}
use Rattle.rules.specs.Names.{enter}
use Rattle.calls.proofs.Front.{name-bytes, front-words}
use Rattle.calls.proofs.Entered.{changes-told, entered-as}
use Rattle.calls.proofs.named.entered.Goals as goal

pub returns : goal.returns
returns c =
    let a = c.args in
    let p = c.enter-answer.auto.pool in
    let t = c.enter-answer.auto.table in
    let m = c.min-bytes.ensures in
    let n = c.min-words.ensures in
    let p₁ = front-words a.pool.now _ _ (omega arith) (omega arith) c.fill_words.ensures in
    let p₂ = front-words c.enter-answer.new.pool _ _ (omega arith) (omega arith) c.fill_words-2.ensures in
    let t₁ = front-words a.table.now _ _ (omega arith) (omega arith) c.fill.ensures in
    let u = c.put_changes-next.ensures in
    let v = c.put_changes-count.ensures in
    let told = changes-told _ _ _ _ _ _ _ _ _ m n p t p₁ p₂ t₁ refl _ _ _ _ _ _ u.written u.past c.put.ensures v.written v.past in
    let name = name-bytes a.b.now _ _ refl c.min.ensures c.fill_low.ensures in
    let e = c.enter-answer.ensures ∙ ap (λ (name : List ℕ). enter a.pool.now a.table.now name) name in
    entered-as a.pool.now a.table.now a.b.now _ _ _ _ _ _ e c.numbered.ensures told.0 told.1
