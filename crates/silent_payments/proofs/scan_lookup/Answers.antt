-- `silent_payments::scan_lookup` meets its contract.
use Rattle.std.proofs.Common.{rules}
use Rattle.format.specs.Fields.{scan_lookup}
use Rattle.lookup.specs.Finds.{length_of}
use Rattle.silent_payments.proofs.scan_lookup.Goals as goal

pub returns : goal.returns
unfolding scan_lookup length_of
returns c = search rules
