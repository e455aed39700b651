-- `setter::put_entry` meets its contract.
use Rattle.std.proofs.Common.{rules}
use Rattle.setter.proofs.Fills.{puts_entry}
use Rattle.setter.proofs.put_entry.Goals as goal

pub put_given-requires : goal.put_given-requires
put_given-requires g c = search (rules, puts_entry)

pub returns-in-None : goal.returns-in-None
returns-in-None g c = search (rules, puts_entry)

pub returns-in-Some : goal.returns-in-Some
returns-in-Some g c = search (rules, puts_entry)
