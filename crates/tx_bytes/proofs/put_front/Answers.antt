-- `tx_bytes::put_front` meets its contract.
use Rattle.std.proofs.Common.{rules}
use mathlib.Core.Path.{refl}
use Rattle.tx_bytes.proofs.Wholes.{front_is}
use Rattle.tx_bytes.proofs.put_front.Goals as goal

pub returns : goal.returns
returns c = search (rules, refl, front_is)
