-- `reasons::put_refused` meets its contract.
use Rattle.std.proofs.Common.{rules}
use Rattle.reasons.proofs.Meanings.{refused_line_lem}
use Rattle.reasons.proofs.put_refused.Goals as goal

pub returns : goal.returns
returns c = search (rules, refused_line_lem)
