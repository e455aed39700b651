-- `psbt::has_magic` meets its contract.
use Rattle.std.proofs.Common.{rules}
use Rattle.format.specs.Keys.{same}
use Rattle.psbt.proofs.Parses.{magics}
use Rattle.wire.proofs.Leads.{front_length}
use Rattle.psbt.proofs.has_magic.Goals as goal

pub returns-then-file-lt5 : goal.returns-then-file-lt5
returns-then-file-lt5 c = search (rules, magics, front_length)

pub returns : goal.returns
unfolding same
returns c = search (rules, magics)
