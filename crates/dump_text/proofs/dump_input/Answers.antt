-- `dump_text::dump_input` meets its contract: the text that is written is `dump`.
use Rattle.std.proofs.Common.{rules}
use Rattle.dump_text.specs.Dump.{dump}
use Rattle.dump_text.proofs.dump_input.Goals as goal

pub returns-clause-ok : goal.returns-clause-ok
returns-clause-ok g c = c.write_put.ensures.ok dump (λ a b r d l p. search rules)

pub returns-clause-err : goal.returns-clause-err
returns-clause-err g c = c.write_put.ensures.err dump (λ a b r d l p. search rules)
