-- `is_few` over numbers meets its contract: a record takes three of them.
use Rattle.std.proofs.Common.{rules}
use Rattle.setter.proofs.Records.{records_fit}
use Rattle.setter.proofs.assignments.NumbersAssignments.is_few.Goals as goal

pub returns : goal.returns
returns c q = search (rules, records_fit)
