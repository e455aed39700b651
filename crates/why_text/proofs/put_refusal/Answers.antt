-- `why_text::put_refusal` meets its contract.
use Rattle.std.proofs.Common.{rules}
use Rattle.text.proofs.Chains.{chain2}
use Rattle.why_text.specs.Why.{refused_text}
use Rattle.why_text.proofs.put_refusal.Goals as goal

pub returns : goal.returns
unfolding refused_text
returns c = search (rules, chain2)
