use Rattle.std.proofs.Common.{arith, sym, ◌∙◌, ◌*◌}
use Rattle.laws.proofs.Entering.{drop-take}
use Rattle.records.specs.ByView.{ends-in}
use Rattle.types.proofs.Puts.{type-words}
use Rattle.types.proofs.Type.record_words.Goals as goal

pub overflow_mul-result : goal.overflow_mul-result
overflow_mul-result c = let s = c.args.self in omega (arith, s.near, ends-in s.words.now s.tree.0 s.at s.tree.1)

pub overflow_mul-result-2 : goal.overflow_mul-result-2
overflow_mul-result-2 c = let s = c.args.self in omega (arith, s.near, c.end.ensures, ends-in s.words.now s.tree.0 s.at s.tree.1)

pub offset_bounds-self-self : goal.offset_bounds-self-self
offset_bounds-self-self c = let s = c.args.self in omega (arith, s.near, ends-in s.words.now s.tree.0 s.at s.tree.1)

pub slice_bounds-result-end : goal.slice_bounds-result-end
slice_bounds-result-end c = let s = c.args.self in omega (arith, c.end.ensures, ends-in s.words.now s.tree.0 s.at s.tree.1)

pub returns : goal.returns
returns c = let s = c.args.self in sym (drop-take (s.at * 4) (c.end.result * 4) s.words.now) ∙ type-words s.words.now s.at _ s.tree c.end.ensures
