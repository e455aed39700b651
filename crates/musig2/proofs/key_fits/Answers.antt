-- `musig2::key_fits` meets its contract.
use Rattle.std.proofs.Common.{rules}
use Rattle.musig2.proofs.Joins.{key_lengths}
use Rattle.musig2.proofs.key_fits.Goals as goal

pub returns-then-aggregate-eq-PUBKEY_LEN : goal.returns-then-aggregate-eq-PUBKEY_LEN
returns-then-aggregate-eq-PUBKEY_LEN c = search (rules, key_lengths)

pub returns-else-aggregate-eq-PUBKEY_LEN : goal.returns-else-aggregate-eq-PUBKEY_LEN
returns-else-aggregate-eq-PUBKEY_LEN c = search (rules, key_lengths)
