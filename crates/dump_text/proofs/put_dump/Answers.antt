-- `dump_text::put_dump` meets its contract.
use Rattle.std.proofs.Common.{rules}
use Rattle.dump_text.proofs.Wholes.{by_length}
use Rattle.dump_text.proofs.put_dump.Goals as goal

pub returns-then-file-gt-LONGEST : goal.returns-then-file-gt-LONGEST
returns-then-file-gt-LONGEST c = search (rules, by_length)

pub returns : goal.returns
returns c = search (rules, by_length)
