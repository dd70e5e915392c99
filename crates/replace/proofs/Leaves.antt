-- What follows from the definitions of specs/Leaves: what a walk leaves behind a writer.
use Rattle.std.specs.Prelude.{ℕ}
use Rattle.rules.specs.Trees.{sizeTys, sizeFields}
use Rattle.replace.specs.declared.inner.walk.Parts.{Parts}
use Rattle.replace.specs.declared.inner.walk.Parts.TheVariants as parts

-- how many records they have
abbrev pub sizeParts : Parts → ℕ
sizeParts (parts.Types ts) = sizeTys ts.trees.0
sizeParts (parts.Fields fs) = sizeFields fs.trees.0
