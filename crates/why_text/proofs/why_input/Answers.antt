-- `why_text::why_input` meets its contract: the text that is written is `why`.
use Rattle.std.proofs.Common.{rules}
use Rattle.why_text.specs.Why.{why}
use Rattle.why_text.proofs.why_input.Goals as goal

pub returns-clause-ok : goal.returns-clause-ok
returns-clause-ok g c = c.write_put.ensures.ok why (λ a b r d l p. search rules)

pub returns-clause-err : goal.returns-clause-err
returns-clause-err g c = c.write_put.ensures.err why (λ a b r d l p. search rules)
