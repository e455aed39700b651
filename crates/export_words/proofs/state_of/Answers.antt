-- `export_words::state_of` meets its contract.
use Rattle.std.proofs.Common.{rules}
use Rattle.export_words.specs.Words.{state_of}
use Rattle.export_words.proofs.state_of.Goals as goal

pub returns : goal.returns
unfolding state_of
returns c = search rules
