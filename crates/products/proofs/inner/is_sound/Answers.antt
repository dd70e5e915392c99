-- `products::inner::is_sound` meets its contract.
use mathlib.Core.Path.{sym, ◌∙◌}
use Rattle.products.proofs.OnKinds.{fine-by}
use Rattle.products.proofs.inner.is_sound.Goals as goal

pub returns-then-is_named : goal.returns-then-is_named
returns-then-is_named c ν = rw (fine-by ν, sym (c.is_named.ensures ν) ∙ c.if-is_named.true) c.is_stored.ensures

pub returns-else-is_named : goal.returns-else-is_named
returns-else-is_named c ν = rw (fine-by ν, sym (c.is_named.ensures ν) ∙ c.if-is_named.false)
