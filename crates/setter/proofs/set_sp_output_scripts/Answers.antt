-- `setter::set_sp_output_scripts` meets its contract: what its numbers give is what they are as assignments.
use Rattle.std.proofs.Common.{ap, ◌∙◌}
use Rattle.format.specs.Tables.{view}
use Rattle.format.specs.Scripts.{Given, set_scripts}
use Rattle.format.specs.Told.{told_set_out}
use Rattle.setter.proofs.Rights.{flat_given}
use Rattle.setter.proofs.set_sp_output_scripts.Goals as goal

pub returns : goal.returns
returns c =
    c.set_assigned.ensures
    ∙ ap
    (λ (given : Given).
    told_set_out (set_scripts (view c.args.file.now c.args.pairs.now c.args.maps.now c.args.psbt)
    c.args.psbt given c.args.buffer.now c.args.state c.args.scripts.now))
    (flat_given c.args.list.now)
