-- What a file's reading and its transaction are made of, opened at once; and what is told of a whole file, of its parse and of its transaction.
use Rattle.std.specs.Prelude.{ℕ, List, [], ◌∷◌, replicate, pos}
use Rattle.format.specs.Refusals.{number_of}
use Rattle.format.specs.Tests.{only, every}
use Rattle.format.specs.Numbers.{le, bytes_of, signed, unsigned}
use Rattle.format.specs.Compact.{long, size_by, size, shortest, count_by_def, count}
use Rattle.format.specs.Keys.{type_of, data_of, key_of, order, below, same}
use Rattle.format.specs.Rules.{value_fits, is_row, row_rule, sizes_in, sizes, count_rule, bare_rule, and_then, rule}
use Rattle.format.specs.Content.{find, field, present, number, maybe, size_value, counted, psbt_of}
use Rattle.format.specs.Content.{global_rule, modifiable, output_by, output_rule, outputs_rule}
use Rattle.format.specs.Reading.{limit, ruled, valued, risen, keyed, item_by_def, item, front, turn, items, mapped, pair_events}
use Rattle.format.specs.Reading.{map_events, maps_events, unless, lastly, global_then, events_of, events}
use Rattle.format.specs.Entries.{has_room_def, pair_entry_words, map_entry_words, put_pair, put_map, pair_entries, map_entries, entry_of, width, key_in_def}
use Rattle.format.specs.Entries.{value_in_def, shown}
use Rattle.format.specs.Parse.{ParseOut, out, cut, parsed}
use Rattle.format.specs.Tables.{in_file, fit, fitted, held_by_def, maps_reported, held, view_of, view, gather_by, gather}
use Rattle.format.specs.Locks.{sized_to, in_of, asked_by_def, along, heights, times, is_misfit, misfit_by, misfits, greatest}
use Rattle.format.specs.Locks.{height_lock, time_lock, decide_by, well_formed, decide, lock_of}
use Rattle.format.specs.Scripts.{out_of, reported_by, reported, taproot}
use Rattle.format.specs.Transaction.{entry_fits, scripts_fit, table_fits, set_so_far, set_script, script_of, ahead}
use Rattle.format.specs.Transaction.{needs, or_final, input_then, inputs_then, needs_script, output_then, outputs_then}
use Rattle.format.specs.Transaction.{tx_with, tx_by, transaction, tx_reported, written, unsigned_tx_def}
use Rattle.format.specs.Told.{Value, int, nat, maybe_value, Told, told, told_parsed, told_tx, ToldOut, told_tx_out}
use Rattle.format.specs.ExampleFiles.{fresh}
use Rattle.format.specs.declared.Parsed.TheVariants as R

-- what is told of a file in ample room: the refusal of its parse; or its parse, and its transaction with the buffer
pub data Answers : Type 0 where
  stops : Told → Answers
  goes : Told → ToldOut → Answers

-- by the parse
unfoldable pub answers_to : List ℕ → ParseOut → Answers
answers_to f (out (R.Refused e p m) P M) = stops (told_parsed (R.Refused e p m))
answers_to f (out (R.Accepted s p m) P M) = goes (told_parsed (R.Accepted s p m)) (told_tx_out (unsigned_tx_def (view f P M s) s fresh [] (replicate 64 0)))

-- of a file
unfoldable pub answers : List ℕ → Answers
answers f = answers_to f (parsed f (replicate 48 0) (replicate 8 0))

-- all that a file's reading and its transaction are made of
unfoldable pub computes : List ℕ → Answers
unfolding number_of only every le bytes_of signed unsigned long size_by size shortest count_by_def count type_of data_of key_of order
    below same value_fits is_row row_rule sizes_in sizes count_rule bare_rule and_then rule find field present number maybe size_value
    counted psbt_of global_rule modifiable output_by output_rule outputs_rule limit ruled valued risen keyed item_by_def item front turn items mapped
    pair_events map_events maps_events unless lastly global_then events_of events has_room_def pair_entry_words map_entry_words put_pair put_map pair_entries
    map_entries entry_of width key_in_def value_in_def shown cut parsed in_file fit fitted held_by_def maps_reported held view_of view gather_by gather sized_to
    in_of asked_by_def along heights times is_misfit misfit_by misfits greatest height_lock time_lock decide_by well_formed decide lock_of out_of
    reported_by reported taproot entry_fits scripts_fit table_fits set_so_far set_script script_of ahead needs or_final input_then inputs_then needs_script
    output_then outputs_then tx_with tx_by transaction tx_reported written unsigned_tx_def maybe_value told_parsed told_tx told_tx_out answers_to answers
computes = answers

-- a refused parse: its number, and the pairs and maps used
abbrev pub refused_with : ℕ → ℕ → ℕ → Told
refused_with n p m = told n (nat p ∷ nat m ∷ [])

-- an accepted parse of transaction version 2: fallback, modifiable byte, both counts, and the pairs and maps used
abbrev pub accepted_with : Value → Value → ℕ → ℕ → ℕ → ℕ → Told
accepted_with f b i o p m = told 0 (int (pos 2) ∷ f ∷ b ∷ nat i ∷ nat o ∷ nat p ∷ nat m ∷ [])
