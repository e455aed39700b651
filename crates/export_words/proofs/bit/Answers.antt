-- `export_words::bit` meets its contract.
use Rattle.std.proofs.Common.{rules}
use Rattle.export_words.proofs.Words.{bits}
use Rattle.export_words.proofs.bit.Goals as goal

pub returns : goal.returns
returns c = search (rules, bits)
