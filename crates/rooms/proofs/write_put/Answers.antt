-- `rooms::write_put` meets its contract: what was read is the input, as far as there is room, and its whole text is written, or the front of it.
use Rattle.std.proofs.Common.{rules, ◌+◌}
use Rattle.rooms.specs.Limits.{longest}
use Rattle.rooms.proofs.Inputs.{input_is, text_written, front_written}
use Rattle.rooms.proofs.write_put.Goals as goal

pub returns-clause-ok : goal.returns-clause-ok
returns-clause-ok g c text is =
    text_written _ _ _ _ text (longest + 1) _ _ _ (search rules) (input_is _ _ _ _ c.in_ok-got.ensures.bound c.in_ok-got.ensures.bytes c.in_ok-got.ensures.end)
    (is _ _ _ _ (search rules) c.put-end.ensures) c.write_full.ensures.ok

pub returns-clause-err : goal.returns-clause-err
returns-clause-err g c text is =
    front_written _ _ _ _ text (longest + 1) _ _ _ (search rules) (input_is _ _ _ _ c.in_ok-got.ensures.bound c.in_ok-got.ensures.bytes c.in_ok-got.ensures.end)
    (is _ _ _ _ (search rules) c.put-end.ensures) c.write_full.ensures.err
