-- `dump_text::put_parsed` meets its contract.
use Rattle.std.proofs.Common.{rules}
use Rattle.dump_text.proofs.Wholes.{by_parse}
use Rattle.dump_text.proofs.put_parsed.Goals as goal

pub returns-in-Accepted : goal.returns-in-Accepted
returns-in-Accepted c = search (rules, by_parse)

pub returns-in-Refused : goal.returns-in-Refused
returns-in-Refused c = search (rules, by_parse)
