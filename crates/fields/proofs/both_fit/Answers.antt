-- `fields::both_fit` meets its contract: each way out has its law.
use Rattle.std.proofs.Common.{rules}
use Rattle.fields.proofs.Rows.{row}
use Rattle.fields.proofs.both_fit.Goals as goal

pub returns-then-key_data_len-row : goal.returns-then-key_data_len-row
returns-then-key_data_len-row c = search (rules, row)

pub returns-else-key_data_len-row : goal.returns-else-key_data_len-row
returns-else-key_data_len-row c = search (rules, row)
