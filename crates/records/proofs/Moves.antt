-- What follows from the definitions of specs/Moves: a part that was found is not empty, and lies within; and it has one end.
use Rattle.std.specs.Prelude.{◌≡◌, List, ℕ, ◌+◌, ◌/◌, ◌≤◌, ◌<◌, length}
use Rattle.std.proofs.Math.Path.{sym}
use Rattle.std.proofs.Common.{ap, ◌∙◌, arith}
use Rattle.rules.specs.Trees.{Con, equal, isDim, is_scalar, hasField, Binding, ◌≔◌, sizeCon, sizeBinding}
use Rattle.records.proofs.ByView.{con-in, binding-in}
use Rattle.records.specs.Parsed.{only-con, only-binding}
use Rattle.records.specs.Good.{GoodCon, GoodBinding}
use Rattle.records.specs.Readers.{Tree, PartAt}
use Rattle.records.specs.declared.reader.Reader.{Reader}
use Rattle.records.specs.declared.reader.Part.{Part}
use Rattle.records.specs.declared.reader.Part.TheVariants as part
use Rattle.records.specs.Moves.{bound-moves}

module _ (pool table : List ℕ) (q : ℕ) (s : List ℕ) (at : ℕ) where
  pub con-moves : (a : Con ℕ) (e : ℕ) → GoodCon pool table q s at a e → (at < e) × (e ≤ length s / 4)
  unfolding sizeCon
  con-moves (equal l r) e g = (omega (arith, g.past), omega (arith, g.past, con-in s (equal l r) at g.held))
  con-moves (isDim t) e g = (omega (arith, g.past), omega (arith, g.past, con-in s (isDim t) at g.held))
  con-moves (is_scalar p) e g = (omega (arith, g.past), omega (arith, g.past, con-in s (is_scalar p) at g.held))
  con-moves (hasField x l r) e g = (omega (arith, g.past), omega (arith, g.past, con-in s (hasField x l r) at g.held))

  pub binding-moves : (a : Binding ℕ) (e : ℕ) → GoodBinding pool table q s at a e → (at < e) × (e ≤ length s / 4)
  unfolding sizeBinding
  binding-moves (x ≔ t) e g = (omega (arith, g.past), omega (arith, g.past, binding-in s (x ≔ t) at g.held))

-- and there is one end
module _ (pool table : List ℕ) (q : ℕ) (s : List ℕ) (at : ℕ) where
  pub one-con : (a b : Con ℕ) (e f : ℕ) → GoodCon pool table q s at a e → GoodCon pool table q s at b f → e ≡ f
  one-con a b e f g h = g.past ∙ ap (λ (c : Con ℕ). at + sizeCon c) (only-con s a b at g.held h.held) ∙ sym h.past

  pub one-binding : (a b : Binding ℕ) (e f : ℕ) → GoodBinding pool table q s at a e → GoodBinding pool table q s at b f → e ≡ f
  one-binding a b e f g h = g.past ∙ ap (λ (c : Binding ℕ). at + sizeBinding c) (only-binding s a b at g.held h.held) ∙ sym h.past

module _ (r : Reader) where
  pub part-moves : (k : Part) (at : ℕ) (a : Tree k) (e : ℕ) → PartAt r k at a e → (at < e) × (e ≤ length r.words.now / 4)
  part-moves part.Constraint at a e g = con-moves r.names.pool.now r.names.table.now r.quantified r.words.now at a e g
  part-moves part.Binding at a e g = binding-moves r.names.pool.now r.names.table.now r.quantified r.words.now at a e g
  part-moves part.Bound at a e g = bound-moves r.names.pool.now r.names.table.now r.quantified r.words.now at a e g

  pub one-part : (k : Part) (at : ℕ) (a b : Tree k) (e f : ℕ) → PartAt r k at a e → PartAt r k at b f → e ≡ f
  one-part part.Constraint at a b e f g h = one-con r.names.pool.now r.names.table.now r.quantified r.words.now at a b e f g h
  one-part part.Binding at a b e f g h = one-binding r.names.pool.now r.names.table.now r.quantified r.words.now at a b e f g h
  one-part part.Bound at a b e f g h = g.past ∙ sym h.past
