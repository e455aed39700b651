-- `parsed_map::key_at` meets its contract: the key is taken behind its length.
use Rattle.std.proofs.Common.{rules}
use Rattle.format.proofs.Answers.{handed_on}
use Rattle.parsed_map.proofs.Fronts.{heads}
use Rattle.parsed_map.proofs.key_at.Goals as goal

pub returns-in_err-value : goal.returns-in_err-value
returns-in_err-value c = handed_on _ _ c.in_err-value.field-0.0 c.from_residual.ensures.1 (search (rules, heads, c.in_err-value.was))

pub returns-then-klen-eq0 : goal.returns-then-klen-eq0
returns-then-klen-eq0 c = search (rules, heads, c.in_ok-value.was)

pub returns-in_err-key : goal.returns-in_err-key
returns-in_err-key c = handed_on _ _ c.in_err-key.field-0.0 c.from_residual-in_err-key.ensures.1 (search (rules, heads, c.in_ok-value.was, c.in_err-key.was))

pub returns : goal.returns
returns c = search (rules, heads, c.in_ok-value.was, c.in_ok-key.was)
