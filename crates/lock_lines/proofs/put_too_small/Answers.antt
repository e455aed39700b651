-- `lock_lines::put_too_small` meets its contract.
use Rattle.std.proofs.Common.{rules}
use Rattle.lock_lines.specs.Lines.{too_small_line}
use Rattle.text.specs.Spelled.{decimal, decimal_in, digit}
use Rattle.lock_lines.proofs.put_too_small.Goals as goal

pub returns : goal.returns
unfolding digit decimal_in decimal too_small_line
returns c = search rules
