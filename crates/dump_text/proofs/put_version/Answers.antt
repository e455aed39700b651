-- `dump_text::put_version` meets its contract.
use Rattle.std.proofs.Common.{rules}
use Rattle.dump_text.proofs.Pieces.{version_text_lem}
use Rattle.dump_text.proofs.put_version.Goals as goal

pub returns : goal.returns
returns c = search (rules, version_text_lem)
