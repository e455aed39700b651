-- `text::put_hex_byte` meets its contract.
use Rattle.std.proofs.Common.{rules}
use Rattle.text.proofs.Lays.{hex_byte_lem}
use Rattle.text.proofs.put_hex_byte.Goals as goal

pub returns : goal.returns
returns c = search (rules, hex_byte_lem)
