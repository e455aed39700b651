-- `dump_text::put_counts` meets its contract.
use Rattle.std.proofs.Common.{rules}
use Rattle.dump_text.specs.Lines.{counts_text}
use Rattle.text.proofs.Chains.{chain5}
use Rattle.dump_text.proofs.put_counts.Goals as goal

pub returns : goal.returns
unfolding counts_text
returns c = search (rules, chain5)
