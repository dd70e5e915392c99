-- `tell_asked` meets its contract: a page, and its why behind it.
use Rattle.std.proofs.Common.{rules, ◌≡◌, Err}
use Rattle.edition.proofs.Told.{asked-cut, asked-plain, asked-why}
use Rattle.edition.proofs.telling.tell_asked.Goals as goal

pub returns-in_err-outcome : goal.returns-in_err-outcome
returns-in_err-outcome g c =
    let r : c.from_residual.result ≡ Err c.in_err-outcome.field-0.0 = search rules in
    record {
      told = λ p h. rw r (asked-cut _ _ p c.args.how.why (c.in_err-outcome.ensures.told p h));
      found = λ p h. rw r tt;
    }

pub returns-then-not-how : goal.returns-then-not-how
returns-then-not-how g c =
    let a = c.in_ok-outcome.ensures in
    record {
      told = λ p h. asked-plain c.args.how.shown _ p c.args.how.why (search rules) (a.told p h);
      found = λ p h. c.is_accepted-accepted.ensures _ _ (a.found p h);
    }

pub returns-in_err-tell_why : goal.returns-in_err-tell_why
returns-in_err-tell_why g c =
    let a = c.in_ok-outcome.ensures in
    let r : c.from_residual-in_err-tell_why.result ≡ Err c.in_err-tell_why.field-0.0 = search rules in
    record {
      told = λ p h. rw r (asked-why c.args.how.shown _ p c.args.how.why (search rules) (a.told p h) _ (c.in_err-tell_why.ensures p h _ (a.found p h)));
      found = λ p h. rw r tt;
    }

pub returns : goal.returns
returns g c =
    let a = c.in_ok-outcome.ensures in
    record {
      told = λ p h. asked-why c.args.how.shown _ p c.args.how.why (search rules) (a.told p h) _ (c.in_ok-tell_why.ensures p h _ (a.found p h));
      found = λ p h. c.is_accepted-accepted.ensures _ _ (a.found p h);
    }
