-- `wire::u32_from_le_bytes` meets its contract: a number of 4 bytes fits 32 bits.
use Rattle.std.proofs.Common.{rules}
use Rattle.wire.proofs.Leads.{leads}
use Rattle.wire.proofs.u32_from_le_bytes.Goals as goal

pub overflow_cast-result : goal.overflow_cast-result
overflow_cast-result c = search (rules, leads)
