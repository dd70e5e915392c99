-- What the answer of the code says.
use Rattle.rules.specs.Ceiling.{Ceiling}
use Rattle.solve_ceiling.specs.declared.Most.{Most}

abbrev pub toldMost : Most → Ceiling
toldMost m = record { variables = m.variables; rounds = m.rounds }
