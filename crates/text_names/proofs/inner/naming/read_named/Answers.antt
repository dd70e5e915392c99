-- `inner::naming::read_named` meets its contract.
use Rattle.rules.specs.Grammar.{name}
use Rattle.rules.specs.TextReading.{named}
use Rattle.text_grammar.specs.Points.{Any}
use Rattle.text_grammar.proofs.Points.{stays}
use Rattle.text_grammar.specs.Factors.{noName}
use Rattle.text_grammar.proofs.Factors.{name-past}
use Rattle.text_names.proofs.Effects.{only-reads, elsewhere}
use Rattle.text_names.proofs.inner.naming.read_named.Goals as goal

pub enter_at-requires : goal.enter_at-requires
enter_at-requires c = record { within = rw c.in-At.is at c.requires.within; good = c.requires.good; room = c.requires.room _ _ c.in-Ok.is }

pub returns-in_default : goal.returns-in_default
returns-in_default c = λ dst. only-reads named c.requires.good c.in_default.is c.read_name-at.ensures

pub returns : goal.returns
returns c = λ dst. rw (c.in-At.is, c.in-Ok.is) (c.enter_at.ensures dst)

pub returns-in_default-at : goal.returns-in_default-at
returns-in_default-at c = let n = c.in_default-at.not-At in
    λ dst. elsewhere {P = Any} c.args.from.at named c.requires n (stays c.args.from.at name noName name-past tt n)
