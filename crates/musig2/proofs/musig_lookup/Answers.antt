-- `musig2::musig_lookup` meets its contract: the lengths first, and then the lookup.
use Rattle.std.proofs.Common.{rules}
use Rattle.musig2.proofs.Joins.{musigs}
use Rattle.musig2.proofs.musig_lookup.Goals as goal

pub returns-then-not-musig_fits : goal.returns-then-not-musig_fits
returns-then-not-musig_fits c = search (rules, musigs)

pub joined_lookup-requires-clause-short : goal.joined_lookup-requires-clause-short
joined_lookup-requires-clause-short c = search (rules, musigs)

pub returns : goal.returns
returns c = search (rules, musigs)
