-- `lock_lines::put_refused_end` meets its contract.
use Rattle.std.proofs.Common.{rules}
use Rattle.format.specs.Refusals.{number_of}
use Rattle.text.specs.Spelled.{decimal, decimal_in, digit}
use Rattle.lock_lines.proofs.put_refused_end.Goals as goal

pub returns : goal.returns
unfolding digit decimal_in decimal number_of
returns c = search rules
