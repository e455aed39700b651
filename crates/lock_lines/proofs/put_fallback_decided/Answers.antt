-- `lock_lines::put_fallback_decided` meets its contract.
use Rattle.std.proofs.Common.{rules}
use Rattle.lock_lines.specs.Lines.{fallback_decided}
use Rattle.text.proofs.Chains.{chain2}
use Rattle.lock_lines.proofs.put_fallback_decided.Goals as goal

pub returns : goal.returns
unfolding fallback_decided
returns c = search (rules, chain2)
