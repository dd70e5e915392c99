-- `inner::is_unmixed` meets its contract: the second run is empty.
use mathlib.Core.Path.{ap, ◌∙◌}
use native.Mathlib.Omega.{arith}
use mathlib.Core.List.{◌++◌, append-nil}
use Rattle.rules.specs.Names.{numbered}
use Rattle.rules.specs.Contents.{unmixed}
use Rattle.queries.specs.Scans.{opensIn}
use Rattle.queries.proofs.ScanLaws.{opens-none}
use Rattle.queries.proofs.inner.is_unmixed.Goals as goal

pub apart-requires : goal.apart-requires
apart-requires c =
    let a = c.args in
    rw (opens-none a.s.now 0 0 (omega arith), append-nil (opensIn a.s.now a.b a.e)) c.requires

pub returns : goal.returns
returns c =
    let a = c.args in
    let os = opensIn a.s.now a.b a.e in
    λ names. c.apart.ensures names ∙ ap (unmixed (numbered names)) (ap (os ++◌) (opens-none a.s.now 0 0 (omega arith)) ∙ append-nil os)
