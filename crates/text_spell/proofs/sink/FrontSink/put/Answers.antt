-- The front of a buffer takes bytes as its contract says.
use Rattle.std.proofs.Common.{◌≡◌, ◌+◌, ◌-◌, ◌≤◌, ◌++◌, refl, sym, ap, ◌∙◌, arith, length, take}
use Rattle.std.proofs.lemmas.List.{drop-drop}
use Rattle.std.proofs.lemmas.Slice.{take-put_mid, drop-put_mid}
use Rattle.text_spell.proofs.Sinks.{behind}
use Rattle.text_spell.proofs.sink.FrontSink.put.Goals as goal

pub returns : goal.returns
returns c =
    let l = c.args.self.now.len in
    let xs = c.args.self.now.bytes.now in
    let bs = c.args.bytes.now in
    let ys = c.copy_from_slice.new.self in
    let e : ys ≡ bs = c.copy_from_slice.ensures.after in
    let k : length ys ≡ length bs = ap length e in
    let h : l ≤ length xs = omega arith in
    let p = take-put_mid l (l + length bs - l) xs ys (l + length bs) (omega (arith, k)) h ∙ ap (take l xs ++◌) e in
    record {
      puts = p;
      rest = drop-put_mid l (l + length bs - l) xs ys (l + length bs) (omega arith) h (omega (arith, k)) ∙ sym (drop-drop (length bs) l xs);
      full = tt;
      kept = behind _ _ bs p;
      same = refl;
    }
