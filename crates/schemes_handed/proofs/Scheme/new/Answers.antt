-- `Scheme::new` meets its contract.
use Rattle.std.specs.Prelude.{Ok}
use Rattle.std.proofs.Common.{sym, ◌∙◌, arith}
use Rattle.std.proofs.lemmas.Result.{err_from_is_err_and}
use Rattle.rules.specs.Calls.{schemeGiven}
use Rattle.records.specs.Found.{Words32}
use Rattle.types.proofs.Tested.{whole, comes-to, not-passed}
use Rattle.schemes_handed.proofs.Tested.{over-short, few, scheme-test, concrete-there, concrete-is, scheme-there, bounds-behind, scheme-is, neither}
use Rattle.schemes_handed.proofs.Scheme.new.Goals as goal

pub invariant_of-result : goal.invariant_of-result
invariant_of-result c =
    let word : Words32 c.args.words.now = record { word = λ i. (c.type_inv.words i).fits } in
    let f = whole _ _ c.in_ok-passed.ensures in
    record {
      near = omega (arith, few c.args.names _ c.in_ok-short.ensures);
      tree = (concrete-there _ _ _ word _ c.args.names.good c.scheme_good.ensures f (sym c.view_at.ensures ∙ c.in-Concrete.is)).0;
    }

pub returns-in-Concrete : goal.returns-in-Concrete
returns-in-Concrete c =
    let word : Words32 c.args.words.now = record { word = λ i. (c.type_inv.words i).fits } in
    let f = whole _ _ c.in_ok-passed.ensures in
    comes-to _ schemeGiven (Ok c.args.names) _ (over-short _ _ c.in_ok-short.ensures)
    (concrete-is _ _ _ word _ c.args.names.good c.scheme_good.ensures f (sym c.view_at.ensures ∙ c.in-Concrete.is) _ (search))

pub invariant_of-of : goal.invariant_of-of
invariant_of-of c =
    let word : Words32 c.args.words.now = record { word = λ i. (c.type_inv.words i).fits } in
    let f = whole _ _ c.in_ok-passed.ensures in
    let x = scheme-there _ _ _ word _ c.args.names.good c.scheme_good.ensures f _ (sym c.view_at.ensures ∙ c.in-Scheme.is) in
    record { near = omega (arith, few c.args.names _ c.in_ok-short.ensures); tree = x.type }

pub invariant_of-result-in-Scheme : goal.invariant_of-result-in-Scheme
invariant_of-result-in-Scheme c =
    let word : Words32 c.args.words.now = record { word = λ i. (c.type_inv.words i).fits } in
    let f = whole _ _ c.in_ok-passed.ensures in
    record {
      listed = bounds-behind _ _ _ word _ c.args.names.good c.scheme_good.ensures f _ (sym c.view_at.ensures ∙ c.in-Scheme.is) _
          c.end-at.ensures (search);
    }

pub returns-in-Scheme : goal.returns-in-Scheme
returns-in-Scheme c =
    let word : Words32 c.args.words.now = record { word = λ i. (c.type_inv.words i).fits } in
    let f = whole _ _ c.in_ok-passed.ensures in
    comes-to _ schemeGiven (Ok c.args.names) _ (over-short _ _ c.in_ok-short.ensures)
    (scheme-is _ _ _ word _ c.args.names.good c.scheme_good.ensures f _ (sym c.view_at.ensures ∙ c.in-Scheme.is) _
    c.end-at.ensures (search) _ (search) _ (search))

pub unreachable-requires : goal.unreachable-requires
unreachable-requires c =
    let word : Words32 c.args.words.now = record { word = λ i. (c.type_inv.words i).fits } in
    neither _ _ _ word _ c.args.names.good c.scheme_good.ensures (whole _ _ c.in_ok-passed.ensures) (λ e. c.in_default.not-Concrete (c.view_at.ensures ∙ e))
    (λ n e. c.in_default.not-Scheme n (c.view_at.ensures ∙ e))

pub returns-in_err-passed : goal.returns-in_err-passed
returns-in_err-passed c =
    let word : Words32 c.args.words.now = record { word = λ i. (c.type_inv.words i).fits } in
    let p = err_from_is_err_and c.from_residual-in_err-passed.result c.from_residual-in_err-passed.ensures.1 in
    rw (p.1, p.2) (not-passed _ schemeGiven (Ok c.args.names) _ (over-short _ _ c.in_ok-short.ensures) _
    (scheme-test _ _ _ word _ c.args.names.good c.scheme_good.ensures (few c.args.names _ c.in_ok-short.ensures)) c.in_err-passed.ensures)
