-- `tx_bytes::put_rest` meets its contract.
use Rattle.std.proofs.Common.{rules}
use Rattle.tx_bytes.proofs.Wholes.{rest_lock, rest_is}
use Rattle.tx_bytes.proofs.put_rest.Goals as goal

pub put_le-requires : goal.put_le-requires
put_le-requires c = search (rest_lock, c.put_outputs-end.ensures, c.put_size.ensures, c.size_len.ensures, c.requires)

pub returns : goal.returns
returns c = search (rules, rest_is)
