-- `why_text::put_inputs` meets its contract.
use Rattle.std.proofs.Common.{rules}
use Rattle.why_text.proofs.Wholes.{asking}
use Rattle.why_text.proofs.put_inputs.Goals as goal

pub loop-i-preserved : goal.loop-i-preserved
loop-i-preserved c = search (rules, asking)

pub returns : goal.returns
returns c = search (rules, asking)
