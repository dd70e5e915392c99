-- `record_of` meets its contract: a view's kind is below 65,536.
use Rattle.records.specs.Cut.{fit}
use Rattle.records.proofs.Places.{kind_of, bare-kind}
use Rattle.records.specs.Views.{lengthened}
use Rattle.rules.specs.Writing.{Rec, rec}
use Prim.Native.Nat.{ℕ, ◌<◌}
use mathlib.Core.Path.{sym, ap, subst, ◌∙◌}
use Rattle.records.proofs.seen.record_of.Goals as goal

pub head_of-kind-requires : goal.head_of-kind-requires
head_of-kind-requires c = subst (λ (r : Rec). kind_of r < 65_536) (sym c.words_of-w.ensures) (bare-kind c.args.v)

pub returns : goal.returns
returns c =
    let w = c.words_of-w.result in
    ap (λ (x : ℕ). rec x w.a w.b w.c) c.head_of-kind.ensures ∙ ap (lengthened (fit c.args.n)) c.words_of-w.ensures
