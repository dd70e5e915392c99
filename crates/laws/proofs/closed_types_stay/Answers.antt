use Rattle.laws.proofs.Untouched.{closed_same}
use Rattle.laws.proofs.closed_types_stay.Goals as goal

pub returns : goal.returns
returns g c = λ ν l look t e. closed_same ν l look t e
