-- `inner::put_words` meets its contract: the loop says what is left to write.
use mathlib.Core.List.{[]}
use Prim.Native.Nat.{ℕ, ◌+◌, ◌*◌, ◌-◌}
use mathlib.Core.Path.{◌≡◌, refl, sym, ap, ◌∙◌}
use native.Mathlib.Omega.{arith}
use lib.Seq.{sets, slice, slice_empty}
use Rattle.rules.specs.Rescue.{bytes_of}
use Rattle.rescue.proofs.Steps.{bytes-step, no_bytes}
use Rattle.rescue.proofs.inner.put_words.Goals as goal

pub loop-i-init : goal.loop-i-init
loop-i-init c =
    let a = c.args in
    let z : a.out + (a.b - a.b) * 4 ≡ a.out = omega arith in
    (refl, ap (λ (o : ℕ). sets a.dst.now o (bytes_of (slice a.b a.e a.s.now))) z)

pub loop-i-preserved : goal.loop-i-preserved
loop-i-preserved c =
    let a = c.args in
    let l = c.loop-i in
    let p = c.put_word in
    let o : a.out + (l.i + 1 - a.b) * 4 ≡ a.out + (l.i - a.b) * 4 + 4 = omega (arith, l.auto.i) in (
      p.auto.dst ∙ l.invariant.0,
      ap (λ (o : ℕ). sets p.new.dst o (bytes_of (slice (l.i + 1) a.e a.s.now))) o
          ∙ bytes-step a.s.now l.dst p.new.dst l.i (a.out + (l.i - a.b) * 4) a.e (omega arith) (omega arith) p.ensures l.invariant.1,
    )

pub shape_of-dst : goal.shape_of-dst
shape_of-dst c = c.loop-i.invariant.0

pub returns : goal.returns
returns c =
    let l = c.loop-i in
    let a = c.args in
    let e : l.i ≡ a.e = omega arith in
    let none : bytes_of (slice l.i a.e a.s.now) ≡ [] = ap (λ (k : ℕ). bytes_of (slice k a.e a.s.now)) e ∙ ap bytes_of (slice_empty a.e a.s.now) ∙ no_bytes in
    sym (ap (sets l.dst (a.out + (l.i - a.b) * 4)) none) ∙ l.invariant.1
