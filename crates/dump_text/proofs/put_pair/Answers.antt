-- `dump_text::put_pair` meets its contract.
use Rattle.std.proofs.Common.{rules}
use Rattle.dump_text.specs.Lines.{pair_text}
use Rattle.text.proofs.Chains.{chain4}
use Rattle.dump_text.proofs.put_pair.Goals as goal

pub returns : goal.returns
unfolding pair_text
returns c = search (rules, chain4)
