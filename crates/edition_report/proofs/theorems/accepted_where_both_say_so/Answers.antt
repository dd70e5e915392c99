use Rattle.edition_report.proofs.Promise.{report-only, report-there}
use Rattle.edition_report.proofs.theorems.accepted_where_both_say_so.Goals as goal

pub returns : goal.returns
returns c = record {
  only = λ names name text n new ν cs a. report-only names name text n new ν cs a;
  there = λ names name text n new ν cs a. report-there names name text n new ν cs a;
}
