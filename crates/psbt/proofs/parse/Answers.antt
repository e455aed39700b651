-- `psbt::parse` is the definition's parse, as the paper tells it. The code's limit is the definition's, by computation.
use Rattle.std.proofs.Common.{rules}
use Rattle.format.specs.Reading.{limit}
use Rattle.psbt.proofs.Parses.{parses}
use Rattle.psbt.proofs.parse.Goals as goal

pub returns-then-file-gt-LIMIT : goal.returns-then-file-gt-LIMIT
unfolding limit
returns-then-file-gt-LIMIT c = search (rules, parses)

pub returns-then-not-has_magic : goal.returns-then-not-has_magic
unfolding limit
returns-then-not-has_magic c = search (rules, parses)

pub read_maps-requires : goal.read_maps-requires
unfolding limit
read_maps-requires c = search (rules, parses)

pub returns : goal.returns
unfolding limit
returns c = search (rules, parses)
