-- `heed_lines::put_heed_text` meets its contract.
use Rattle.std.proofs.Common.{rules}
use Rattle.heed_lines.proofs.Laws.{texts}
use Rattle.heed_lines.specs.Heeds.{heed_text}
use Rattle.heed_lines.proofs.put_heed_text.Goals as goal

pub returns-in-Ignored : goal.returns-in-Ignored
unfolding heed_text
returns-in-Ignored c = search (rules, texts)

pub returns-in-By : goal.returns-in-By
unfolding heed_text
returns-in-By c = search (rules, texts)
