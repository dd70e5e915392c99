use Rattle.edition_certificate_file.proofs.ReadWritable.{none-writable}
use Rattle.edition_checks.proofs.keeping.Keeping.new.Goals as goal

pub invariant_of-result : goal.invariant_of-result
invariant_of-result c = record { writable = rw c.new.ensures.items none-writable }
