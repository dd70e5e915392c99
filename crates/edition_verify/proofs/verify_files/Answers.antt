use Rattle.std.proofs.Common.{◌≡◌, ◌≤◌, refl, arith, append_assoc, length}
use Rattle.edition.specs.Files.{files_of}
use Rattle.edition_verify.specs.Verifying.{verifiedText, othersIn}
use Rattle.edition_verify.proofs.Going.{all-yes, as-many, few-others}
use Rattle.edition_verify.proofs.verify_files.Goals as goal

pub overflow_add-sheets : goal.overflow_add-sheets
overflow_add-sheets c =
    let few : othersIn (files_of c.args.files.now) c.args.entries.now ≤ length c.args.entries.now = few-others (files_of c.args.files.now) c.args.entries.now in
    omega (arith, few, c.in_ok-others.ensures.counted)

pub returns-clause-told : goal.returns-clause-told
unfolding verifiedText
returns-clause-told c =
    let many : length (files_of c.args.files.now) ≡ length c.args.files.now = as-many c.args.files.now in
    rw (
      c.in_ok-put_last.ensures,
      c.in_ok-others.ensures.told,
      c.in_ok-verified.ensures.told,
      c.in_ok-others.ensures.counted,
      c.in_ok-verified.ensures.counted,
      many,
    ) (simp append_assoc refl)

pub returns-clause-all : goal.returns-clause-all
returns-clause-all c = λ n.
    let many : length (files_of c.args.files.now) ≡ length c.args.files.now = as-many c.args.files.now in
    all-yes c.args.entries.now (files_of c.args.files.now) c.in_ok-verified.ensures.truth
    (let k = c.in_ok-verified.ensures.counted in omega (arith, k, n, many))
