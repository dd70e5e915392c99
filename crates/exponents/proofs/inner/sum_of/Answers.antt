use lib.IntN.{pos, ◌*ℤ◌, ◌+ℤ◌}
use mir.Syntax.{w32, w64}
use mir.Val.{SFits}
use Rattle.std.proofs.Common.{rules}
use Rattle.std.proofs.lemmas.Int.{to_z-of_z}
use Rattle.rules.specs.Exponents.{sum, plus}
use Rattle.laws.proofs.Ranges.{Good, good}
use Rattle.exponents.proofs.Steps.{product-fits, sum-fits}
use Rattle.exponents.proofs.inner.sum_of.Goals as goal

pub overflow_add-left : goal.overflow_add-left
overflow_add-left c =
    let n = c.args.a.num in
    let m = c.args.b.num in
    let g : Good n c.args.a.den = good _ _ c.requires.0 in
    let k : Good m c.args.b.den = good _ _ c.requires.1 in
    let f1 : SFits w32 n = search rules in
    let f2 : SFits w32 m = search rules in
    let f3 : SFits w64 n = search rules in
    let f4 : SFits w64 m = search rules in
    let p : SFits w64 (n *ℤ pos c.args.b.den) = product-fits n (pos c.args.b.den) g.num k.den in
    let q : SFits w64 (m *ℤ pos c.args.a.den) = product-fits m (pos c.args.a.den) k.num g.den in
    let d : SFits w64 (pos c.args.a.den) = search rules in
    let e : SFits w64 (pos c.args.b.den) = search rules in
    simp (c.from.ensures, c.from-2.ensures, c.from-3.ensures, c.from-4.ensures, to_z-of_z) (sum-fits g k)

pub returns : goal.returns
unfolding sum plus
returns c =
    let n = c.args.a.num in
    let m = c.args.b.num in
    let g : Good n c.args.a.den = good _ _ c.requires.0 in
    let k : Good m c.args.b.den = good _ _ c.requires.1 in
    let f1 : SFits w32 n = search rules in
    let f2 : SFits w32 m = search rules in
    let f3 : SFits w64 n = search rules in
    let f4 : SFits w64 m = search rules in
    let p : SFits w64 (n *ℤ pos c.args.b.den) = product-fits n (pos c.args.b.den) g.num k.den in
    let q : SFits w64 (m *ℤ pos c.args.a.den) = product-fits m (pos c.args.a.den) k.num g.den in
    let d : SFits w64 (pos c.args.a.den) = search rules in
    let e : SFits w64 (pos c.args.b.den) = search rules in
    let s : SFits w64 (n *ℤ pos c.args.b.den +ℤ m *ℤ pos c.args.a.den) = sum-fits g k in
    (simp (c.from.ensures, c.from-2.ensures, c.from-3.ensures, c.from-4.ensures, c.from-5.ensures, c.from-6.ensures, to_z-of_z) at c.reduced.ensures)
