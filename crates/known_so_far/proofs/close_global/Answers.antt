-- `known_so_far::close_global` ends the global map.
use Rattle.std.proofs.Common.{rules}
use Rattle.format.proofs.Answers.{handed_on}
use Rattle.known_so_far.proofs.Ends.{close_globals}
use Rattle.known_so_far.proofs.close_global.Goals as goal

pub returns-in_err-check_globals : goal.returns-in_err-check_globals
returns-in_err-check_globals c =
    handed_on _ _ c.in_err-check_globals.field-0.0 c.from_residual.ensures.1 (search (rules, close_globals, c.in_err-check_globals.was))

pub returns : goal.returns
returns c = search (rules, close_globals, c.in_ok-check_globals.was)
