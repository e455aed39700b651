-- `export_words::put_refusal` meets its contract.
use Rattle.std.proofs.Common.{rules}
use Rattle.export_words.proofs.Answers.{refusals}
use Rattle.export_words.proofs.put_refusal.Goals as goal

pub returns : goal.returns
returns c = search (rules, refusals)
