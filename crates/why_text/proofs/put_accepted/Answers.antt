-- `why_text::put_accepted` meets its contract.
use Rattle.std.proofs.Common.{rules}
use Rattle.why_text.proofs.Wholes.{accepted_text_lem}
use Rattle.why_text.proofs.put_accepted.Goals as goal

pub returns : goal.returns
returns c = search (rules, accepted_text_lem)
