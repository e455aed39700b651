-- `lookup::find_place` meets its contract: what it finds is the first of the map's entries that has the key.
use Rattle.std.proofs.Common.{Ok, ◌∙◌, ap, sym, rules, tests}
use Rattle.std.proofs.lemmas.Iterator.Consumers.{YieldsList-from_first}
use Rattle.std.proofs.lemmas.Iterator.Search.{find_from_yields_List}
use Rattle.format.specs.Keys.{key_of, same}
use Rattle.format.specs.Entries.{key_in_def}
use Rattle.entries.specs.Walks.{pairs_left}
use Rattle.fitness.specs.Fits.{entries_of, run}
use Rattle.lookup.proofs.Finds.{found_entry, found_is}
use Rattle.lookup.proofs.find_place.Goals as goal

pub returns-in-Some : goal.returns-in-Some
unfolding entries_of run
returns-in-Some c =
    ap (λ x. Ok (found_entry x)) (sym c.in-Some.is)
    ∙ found_is _ _ _ c.find-found.result (find_from_yields_List (λ e. same (key_of c.args.key_type c.args.key_data.now)
    (key_in_def c.args.file.now e)) _ _ c.find-found.result
    c.find-found.ensures.ran (YieldsList-from_first (λ e. e) pairs_left _ c.pairs_of.ensures) (λ x b q k. search (rules, tests)))

pub returns-in-None : goal.returns-in-None
unfolding entries_of run
returns-in-None c =
    ap (λ x. Ok (found_entry x)) (sym c.in-None.is)
    ∙ found_is _ _ _ c.find-found.result
    (find_from_yields_List (λ e. same (key_of c.args.key_type c.args.key_data.now) (key_in_def c.args.file.now e)) _ _ c.find-found.result
    c.find-found.ensures.ran (YieldsList-from_first (λ e. e) pairs_left _ c.pairs_of.ensures) (λ x b q k. search (rules, tests)))
