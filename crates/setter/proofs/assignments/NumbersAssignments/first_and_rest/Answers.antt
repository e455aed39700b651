-- `first_and_rest` over numbers meets its contract.
use Rattle.setter.proofs.Records.{records_none, records_some}
use Rattle.setter.proofs.assignments.NumbersAssignments.first_and_rest.Goals as goal

pub returns-in_default : goal.returns-in_default
returns-in_default c = records_none _ c.in_default.len_below

pub returns : goal.returns
returns c = records_some _ c.in-len3-up.len_at_least
