-- What the examples of rules, tables and lookups have to unfold.
use Rattle.std.specs.Prelude.{ℕ, List}
use Rattle.format.specs.Refusals.{number_of}
use Rattle.format.specs.Tests.{only, every}
use Rattle.format.specs.Numbers.{le, bytes_of, signed}
use Rattle.format.specs.Compact.{long, size_by, size, shortest, count_by_def, count}
use Rattle.format.specs.Keys.{type_of, data_of, key_of, order, below, same}
use Rattle.format.specs.Rules.{span, within, listed_types, listed, value_fits, is_row, row_rule, sizes_in, sizes, count_rule, bare_rule, and_then, rule}
use Rattle.format.specs.Content.{maps_of, pair_bytes, pairs_bytes, map_bytes, maps_bytes, bytes, find, field, present, number, maybe}
use Rattle.format.specs.Content.{size_value, counted, psbt_of, global_rule, modifiable, output_by, output_rule, outputs_rule}
use Rattle.format.specs.Entries.{has_room_def, pair_entry_words, map_entry_words, put_pair, put_map, pair_entries, map_entries, entry_of, width, key_in_def}
use Rattle.format.specs.Entries.{value_in_def, shown}
use Rattle.format.specs.Tables.{Held, in_file, fit, fitted, held_by_def, maps_reported, held, held_input, held_output, view_of, view, gather_by, gather}
use Rattle.format.specs.Lookups.{place, length_fits, of_length_def, asked, look, part, number_at, listing, before, list, nth_of, nth, key_part, value_part}
use Rattle.format.specs.Fields.{part_field_def, number_field, non_witness_utxo, witness_utxo_def, sighash_type, redeem_script, witness_script}
use Rattle.format.specs.Fields.{final_scriptsig, final_scriptwitness, previous_txid, output_index, sequence, required_time_locktime}
use Rattle.format.specs.Fields.{required_height_locktime, sp_tweak, out_redeem_script, out_witness_script, amount, script, sp_v0_info, sp_v0_label}
use Rattle.format.specs.Fields.{scan_lookup, global_share, global_proof, input_share, input_proof, leaf_fits, musig_lookup, pub_nonce, partial_sig}
use Rattle.format.specs.Fields.{input_participants, output_participants, participant_count, participant, utxo_of, utxo_by, get_witness_utxo}
use Rattle.format.specs.Fields.{utxo_part}
use Rattle.format.specs.Told.{maybe_value, told_parsed, told_looked, told_numbered, told_listing, told_nth, told_utxo}
use Rattle.format.specs.Answers.{Utxo}

-- all that rules, tables and lookups are made of
unfoldable pub lookups : List ℕ → Held → Utxo
unfolding number_of only every le bytes_of signed long size_by size shortest count_by_def count type_of data_of key_of order below same
    span within listed_types listed value_fits is_row row_rule sizes_in sizes count_rule bare_rule and_then rule maps_of pair_bytes pairs_bytes map_bytes
    maps_bytes bytes find field present number maybe size_value counted psbt_of global_rule modifiable output_by output_rule outputs_rule has_room_def
    pair_entry_words map_entry_words put_pair put_map pair_entries map_entries entry_of width key_in_def value_in_def shown in_file fit fitted held_by_def
    maps_reported held held_input held_output view_of view gather_by gather place length_fits of_length_def asked look part number_at listing before list nth_of
    nth key_part value_part part_field_def number_field non_witness_utxo witness_utxo_def sighash_type redeem_script witness_script final_scriptsig
    final_scriptwitness previous_txid output_index sequence required_time_locktime required_height_locktime sp_tweak out_redeem_script out_witness_script amount
    script sp_v0_info sp_v0_label scan_lookup global_share global_proof input_share input_proof leaf_fits musig_lookup pub_nonce partial_sig input_participants
    output_participants participant_count participant utxo_of utxo_by get_witness_utxo utxo_part maybe_value told_parsed told_looked told_numbered told_listing
    told_nth told_utxo
lookups = get_witness_utxo
