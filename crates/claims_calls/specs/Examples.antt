-- File F with pairs of unlisted types added, computed: the same transaction, and struck it is F byte for byte.
use Rattle.std.specs.Prelude.{ℕ, ◌≡◌, refl, true, false, List, [], ◌∷◌, ◌++◌}
use Rattle.format.specs.Rules.{span, within, listed_types, listed}
use Rattle.format.specs.Content.{pair_bytes, pairs_bytes, map_bytes, maps_bytes, bytes}
use Rattle.format.specs.Reading.{Verdict, accepted, refused, outcome, reading}
use Rattle.format.specs.Told.{told, none, nat, flag, told_left}
use Rattle.format.specs.ExampleFiles.{globals, txid, output_index, end, amount, script, file_f, tx_f}
use Rattle.format.specs.Computed.{goes, answers, accepted_with, computes}
use Rattle.claims_calls.specs.Newer.{strike, strike_map, struck}

-- F with global 50 (its value's length spelled fd0200), input 19 with data 07 (its key's length spelled fd0200) and output 7f
abbrev pub file_g : List ℕ
file_g =
    globals 1 1 [] (1 ∷ 0x50 ∷ 0xfd ∷ 2 ∷ 0 ∷ 9 ∷ 9 ∷ [])
    ++ (txid ++ (output_index ++ (0xfd ∷ 2 ∷ 0 ∷ 0x19 ∷ 7 ∷ 0 ∷ (end ++ (amount ++ (script ++ (1 ∷ 0x7f ∷ 0 ∷ end)))))))

-- the bytes of an accepted file's listed pairs
unfoldable pub struck_bytes : Verdict → List ℕ
struck_bytes (refused e) = []
struck_bytes (accepted c) = bytes (struck c)

-- 11 pairs, and F's transaction
pub same_tx : answers file_g ≡ goes (accepted_with none none 1 1 11 3)
    (told_left (told 0 (nat 61 ∷ flag false ∷ flag true ∷ [])) (tx_f (0 ∷ 0 ∷ 0 ∷ 0 ∷ []) ++ (0 ∷ 0 ∷ 0 ∷ [])))
unfolding computes
same_tx = refl

-- struck it is F
pub struck_is : struck_bytes (reading file_g) ≡ file_f
unfolding computes outcome reading pair_bytes pairs_bytes map_bytes maps_bytes bytes span within listed_types listed strike strike_map struck struck_bytes
struck_is = refl
