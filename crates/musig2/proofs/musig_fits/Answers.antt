-- `musig2::musig_fits` meets its contract.
use Rattle.std.proofs.Common.{rules}
use Rattle.musig2.proofs.Joins.{key_lengths}
use Rattle.musig2.proofs.musig_fits.Goals as goal

pub returns-then-participant-eq-PUBKEY_LEN : goal.returns-then-participant-eq-PUBKEY_LEN
returns-then-participant-eq-PUBKEY_LEN c = search (rules, key_lengths)

pub returns-else-participant-eq-PUBKEY_LEN : goal.returns-else-participant-eq-PUBKEY_LEN
returns-else-participant-eq-PUBKEY_LEN c = search (rules, key_lengths)
