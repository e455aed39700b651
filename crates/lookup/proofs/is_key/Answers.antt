-- `lookup::is_key` meets its contract.
use Rattle.std.proofs.Common.{rules}
use Rattle.lookup.proofs.Finds.{keys}
use Rattle.lookup.proofs.is_key.Goals as goal

pub returns-then-key-key_type : goal.returns-then-key-key_type
returns-then-key-key_type c = search (rules, keys)

pub returns-else-key-key_type : goal.returns-else-key-key_type
returns-else-key-key_type c = search (rules, keys)

pub returns-else-key-key_data : goal.returns-else-key-key_data
returns-else-key-key_data c = search (rules, keys)
