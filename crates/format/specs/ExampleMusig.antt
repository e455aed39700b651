-- Computed examples of MuSig2 lookups: nonces, partial signatures, participants.
use Rattle.std.specs.Prelude.{ℕ, ◌+◌, ◌-◌, refl, List, [], ◌∷◌, ◌++◌, Ok, Err, Some, None}
use Rattle.format.specs.Rows.{Row, is, Hold}
use Rattle.format.specs.Unfolds.{lookups}
use Rattle.format.specs.Counting.{counting, bytes_at, input_pair, output_pair, at, number, nothing, refused}
use Rattle.format.specs.Tables.{Held}
use Rattle.format.specs.Fields.{pub_nonce, partial_sig, input_participants, output_participants, participant_count, participant}
use Rattle.format.specs.Told.{Told, told_looked, told_numbered}
use Rattle.format.specs.declared.PsbtError.TheVariants.{BadValue, BadIndex}
use Rattle.format.specs.Answers.{part_at, Looked}

-- a lookup of type t whose value is w bytes: participant, aggregate and leaf hash stand behind the type in the counting file, the value begins at 5
abbrev signing : (List ℕ → List ℕ → List ℕ → List ℕ → Held → Looked) → ℕ → ℕ → List (Row Told)
signing field t w =
    -- without leaf hash, with one; one byte less, one more
    is (told_looked (field counting (bytes_at (t + 1) 33) (bytes_at (t + 34) 33) [] (input_pair 0 t 67 5 w))) (at 5 w)
    ∷ is (told_looked (field counting (bytes_at (t + 1) 33) (bytes_at (t + 34) 33) (bytes_at (t + 67) 32) (input_pair 0 t 99 5 w))) (at 5 w)
    ∷ is (told_looked (field counting (bytes_at (t + 1) 33) (bytes_at (t + 34) 33) [] (input_pair 0 t 67 5 (w - 1)))) (refused 7)
    ∷ is (told_looked (field counting (bytes_at (t + 1) 33) (bytes_at (t + 34) 33) [] (input_pair 0 t 67 5 (w + 1)))) (refused 7)
    ∷ is (told_looked (field counting (bytes_at (t + 1) 33) (bytes_at (t + 34) 33) (bytes_at (t + 67) 32) (input_pair 0 t 99 5 (w - 1)))) (refused 7)
    ∷ is (told_looked (field counting (bytes_at (t + 1) 33) (bytes_at (t + 34) 33) (bytes_at (t + 67) 32) (input_pair 0 t 99 5 (w + 1)))) (refused 7)
    -- absent: with a leaf hash only, without one only, another type, participant and aggregate exchanged
    ∷ is (told_looked (field counting (bytes_at (t + 1) 33) (bytes_at (t + 34) 33) [] (input_pair 0 t 99 5 w))) nothing
    ∷ is (told_looked (field counting (bytes_at (t + 1) 33) (bytes_at (t + 34) 33) (bytes_at (t + 67) 32) (input_pair 0 t 67 5 w))) nothing
    ∷ is (told_looked (field counting (bytes_at (t + 1) 33) (bytes_at (t + 34) 33) [] (input_pair 0 (t + 1) 67 5 w))) nothing
    ∷ is (told_looked (field counting (bytes_at (t + 34) 33) (bytes_at (t + 1) 33) [] (input_pair 0 t 67 5 w))) nothing
    -- another length of a part, though the joined key is there
    ∷ is (told_looked (field counting (bytes_at (t + 1) 32) (bytes_at (t + 33) 33) [] (input_pair 0 t 66 5 w))) (refused 7)
    ∷ is (told_looked (field counting (bytes_at (t + 1) 34) (bytes_at (t + 35) 33) [] (input_pair 0 t 68 5 w))) (refused 7)
    ∷ is (told_looked (field counting (bytes_at (t + 1) 33) (bytes_at (t + 34) 32) [] (input_pair 0 t 66 5 w))) (refused 7)
    ∷ is (told_looked (field counting (bytes_at (t + 1) 33) (bytes_at (t + 34) 34) [] (input_pair 0 t 68 5 w))) (refused 7)
    ∷ is (told_looked (field counting (bytes_at (t + 1) 32) (bytes_at (t + 33) 34) [] (input_pair 0 t 67 5 w))) (refused 7)
    ∷ is (told_looked (field counting (bytes_at (t + 1) 34) (bytes_at (t + 35) 32) [] (input_pair 0 t 67 5 w))) (refused 7)
    ∷ is (told_looked (field counting (bytes_at (t + 1) 66) [] [] (input_pair 0 t 67 5 w))) (refused 7)
    ∷ is (told_looked (field counting (bytes_at (t + 1) 33) (bytes_at (t + 34) 33) (bytes_at (t + 67) 1) (input_pair 0 t 68 5 w))) (refused 7)
    ∷ is (told_looked (field counting (bytes_at (t + 1) 33) (bytes_at (t + 34) 33) (bytes_at (t + 67) 31) (input_pair 0 t 98 5 w))) (refused 7)
    ∷ is (told_looked (field counting (bytes_at (t + 1) 33) (bytes_at (t + 34) 33) (bytes_at (t + 67) 33) (input_pair 0 t 100 5 w))) (refused 7)
    ∷ is (told_looked (field counting (bytes_at (t + 1) 33) (bytes_at (t + 34) 32) (bytes_at (t + 66) 33) (input_pair 0 t 99 5 w))) (refused 7)
    ∷ is (told_looked (field counting [] [] [] (input_pair 0 t 1 5 w))) (refused 7)
    -- the map before the key, the key before absence
    ∷ is (told_looked (field counting (bytes_at (t + 1) 33) (bytes_at (t + 34) 33) [] (input_pair 1 t 67 5 w))) (refused 14)
    ∷ is (told_looked (field counting (bytes_at (t + 1) 33) [] [] (input_pair 1 t 67 5 w))) (refused 14)
    ∷ is (told_looked (field counting (bytes_at (t + 1) 33) [] [] (input_pair 0 t 0 5 w))) (refused 24)
    ∷ is (told_looked (field counting (bytes_at (t + 1) 33) (bytes_at (t + 34) 33) (bytes_at (t + 67) 31) (input_pair 0 t 67 5 w))) (refused 7)
    ∷ []

-- nonces have 66 bytes, partial signatures 32
unfoldable pub signings : List (Row Told)
signings = signing pub_nonce 0x1b 66 ++ signing partial_sig 0x1c 32

-- so they are told
pub nonces_and_signatures : Hold signings
unfolding lookups signings
nonces_and_signatures = refl

-- the list's place; the value begins at 3
unfoldable pub key_lists : List (Row Told)
key_lists =
    -- of an input, type 1a, by aggregate, or by aggregate and leaf hash
    is (told_looked (input_participants counting (bytes_at 27 33) [] (input_pair 0 0x1a 34 3 33))) (at 3 33)
    ∷ is (told_looked (input_participants counting (bytes_at 27 33) [] (input_pair 0 0x1a 34 3 66))) (at 3 66)
    ∷ is (told_looked (input_participants counting (bytes_at 27 33) [] (input_pair 0 0x1a 34 3 99))) (at 3 99)
    ∷ is (told_looked (input_participants counting (bytes_at 27 33) (bytes_at 60 32) (input_pair 0 0x1a 66 3 66))) (at 3 66)
    -- an empty list, and one that is no multiple of 33
    ∷ is (told_looked (input_participants counting (bytes_at 27 33) [] (input_pair 0 0x1a 34 3 0))) (refused 7)
    ∷ is (told_looked (input_participants counting (bytes_at 27 33) [] (input_pair 0 0x1a 34 3 1))) (refused 7)
    ∷ is (told_looked (input_participants counting (bytes_at 27 33) [] (input_pair 0 0x1a 34 3 32))) (refused 7)
    ∷ is (told_looked (input_participants counting (bytes_at 27 33) [] (input_pair 0 0x1a 34 3 34))) (refused 7)
    ∷ is (told_looked (input_participants counting (bytes_at 27 33) [] (input_pair 0 0x1a 34 3 65))) (refused 7)
    ∷ is (told_looked (input_participants counting (bytes_at 27 33) [] (input_pair 0 0x1a 34 3 67))) (refused 7)
    ∷ is (told_looked (input_participants counting (bytes_at 27 33) (bytes_at 60 32) (input_pair 0 0x1a 66 3 0))) (refused 7)
    -- absent
    ∷ is (told_looked (input_participants counting (bytes_at 27 33) [] (input_pair 0 0x1a 66 3 33))) nothing
    ∷ is (told_looked (input_participants counting (bytes_at 27 33) (bytes_at 60 32) (input_pair 0 0x1a 34 3 33))) nothing
    ∷ is (told_looked (input_participants counting (bytes_at 27 33) [] (input_pair 0 0x1b 34 3 33))) nothing
    ∷ is (told_looked (input_participants counting (bytes_at 28 33) [] (input_pair 0 0x1a 34 3 33))) nothing
    -- another asked length, though the key is there
    ∷ is (told_looked (input_participants counting (bytes_at 27 32) [] (input_pair 0 0x1a 33 3 33))) (refused 7)
    ∷ is (told_looked (input_participants counting (bytes_at 27 34) [] (input_pair 0 0x1a 35 3 33))) (refused 7)
    ∷ is (told_looked (input_participants counting (bytes_at 27 33) (bytes_at 60 1) (input_pair 0 0x1a 35 3 33))) (refused 7)
    ∷ is (told_looked (input_participants counting (bytes_at 27 33) (bytes_at 60 31) (input_pair 0 0x1a 65 3 33))) (refused 7)
    ∷ is (told_looked (input_participants counting (bytes_at 27 33) (bytes_at 60 33) (input_pair 0 0x1a 67 3 33))) (refused 7)
    ∷ is (told_looked (input_participants counting (bytes_at 27 65) [] (input_pair 0 0x1a 66 3 33))) (refused 7)
    ∷ is (told_looked (input_participants counting (bytes_at 27 32) (bytes_at 59 33) (input_pair 0 0x1a 66 3 33))) (refused 7)
    ∷ is (told_looked (input_participants counting [] [] (input_pair 0 0x1a 1 3 33))) (refused 7)
    -- the map before the key, the key before absence and before the list
    ∷ is (told_looked (input_participants counting (bytes_at 27 33) [] (input_pair 1 0x1a 34 3 33))) (refused 14)
    ∷ is (told_looked (input_participants counting [] [] (input_pair 1 0x1a 34 3 33))) (refused 14)
    ∷ is (told_looked (input_participants counting [] [] (input_pair 0 0x1a 0 3 33))) (refused 24)
    ∷ is (told_looked (input_participants counting (bytes_at 27 32) [] (input_pair 0 0x1a 34 3 33))) (refused 7)
    -- of an output, type 08, by aggregate
    ∷ is (told_looked (output_participants counting (bytes_at 9 33) (output_pair 0 0x08 34 3 33))) (at 3 33)
    ∷ is (told_looked (output_participants counting (bytes_at 9 33) (output_pair 0 0x08 34 3 66))) (at 3 66)
    ∷ is (told_looked (output_participants counting (bytes_at 9 33) (output_pair 0 0x08 34 3 99))) (at 3 99)
    ∷ is (told_looked (output_participants counting (bytes_at 9 33) (output_pair 0 0x08 34 3 0))) (refused 7)
    ∷ is (told_looked (output_participants counting (bytes_at 9 33) (output_pair 0 0x08 34 3 1))) (refused 7)
    ∷ is (told_looked (output_participants counting (bytes_at 9 33) (output_pair 0 0x08 34 3 32))) (refused 7)
    ∷ is (told_looked (output_participants counting (bytes_at 9 33) (output_pair 0 0x08 34 3 34))) (refused 7)
    ∷ is (told_looked (output_participants counting (bytes_at 9 33) (output_pair 0 0x08 34 3 65))) (refused 7)
    ∷ is (told_looked (output_participants counting (bytes_at 9 33) (output_pair 0 0x08 34 3 67))) (refused 7)
    ∷ is (told_looked (output_participants counting (bytes_at 9 33) (output_pair 0 0x08 66 3 33))) nothing
    ∷ is (told_looked (output_participants counting (bytes_at 9 33) (output_pair 0 0x09 34 3 33))) nothing
    ∷ is (told_looked (output_participants counting (bytes_at 10 33) (output_pair 0 0x08 34 3 33))) nothing
    ∷ is (told_looked (output_participants counting (bytes_at 9 32) (output_pair 0 0x08 33 3 33))) (refused 7)
    ∷ is (told_looked (output_participants counting (bytes_at 9 34) (output_pair 0 0x08 35 3 33))) (refused 7)
    ∷ is (told_looked (output_participants counting (bytes_at 9 65) (output_pair 0 0x08 66 3 33))) (refused 7)
    ∷ is (told_looked (output_participants counting [] (output_pair 0 0x08 1 3 33))) (refused 7)
    ∷ is (told_looked (output_participants counting (bytes_at 9 33) (output_pair 1 0x08 34 3 33))) (refused 14)
    ∷ is (told_looked (output_participants counting [] (output_pair 1 0x08 34 3 33))) (refused 14)
    ∷ is (told_looked (output_participants counting [] (output_pair 0 0x08 0 3 33))) (refused 24)
    ∷ []

-- so they are told
pub participant_lists : Hold key_lists
unfolding lookups key_lists
participant_lists = refl

-- how many keys of 33 bytes
unfoldable pub key_counts : List (Row Told)
key_counts =
    is (told_numbered (participant_count (Ok (Some (part_at 3 33))))) (number 1)
    ∷ is (told_numbered (participant_count (Ok (Some (part_at 3 66))))) (number 2)
    ∷ is (told_numbered (participant_count (Ok (Some (part_at 3 99))))) (number 3)
    ∷ is (told_numbered (participant_count (Ok (Some (part_at 3 1056))))) (number 32)
    ∷ is (told_numbered (participant_count (Ok None))) nothing
    ∷ is (told_numbered (participant_count (Err BadValue))) (refused 7)
    ∷ is (told_numbered (participant_count (input_participants counting (bytes_at 27 33) [] (input_pair 0 0x1a 34 3 66)))) (number 2)
    ∷ is (told_numbered (participant_count (output_participants counting (bytes_at 9 33) (output_pair 0 0x08 34 3 99)))) (number 3)
    ∷ is (told_numbered (participant_count (input_participants counting (bytes_at 27 33) [] (input_pair 0 0x1a 34 3 65)))) (refused 7)
    ∷ is (told_numbered (participant_count (input_participants counting (bytes_at 27 33) [] (input_pair 1 0x1a 34 3 33)))) (refused 14)
    ∷ is (told_numbered (participant_count (output_participants counting (bytes_at 9 33) (output_pair 0 0x09 34 3 33)))) nothing
    ∷ []

-- so they are counted
pub participants_counted : Hold key_counts
unfolding lookups key_counts
participants_counted = refl

-- a participant by its number
unfoldable pub keys_by_number : List (Row Told)
keys_by_number =
    -- 33 bytes each, in order, up to the last
    is (told_looked (participant 0 (Ok (Some (part_at 3 33))))) (at 3 33)
    ∷ is (told_looked (participant 1 (Ok (Some (part_at 3 33))))) (refused 14)
    ∷ is (told_looked (participant 0 (Ok (Some (part_at 3 66))))) (at 3 33)
    ∷ is (told_looked (participant 1 (Ok (Some (part_at 3 66))))) (at 36 33)
    ∷ is (told_looked (participant 2 (Ok (Some (part_at 3 66))))) (refused 14)
    ∷ is (told_looked (participant 2 (Ok (Some (part_at 3 99))))) (at 69 33)
    ∷ is (told_looked (participant 3 (Ok (Some (part_at 3 99))))) (refused 14)
    ∷ is (told_looked (participant 31 (Ok (Some (part_at 3 1056))))) (at 1026 33)
    ∷ is (told_looked (participant 32 (Ok (Some (part_at 3 1056))))) (refused 14)
    ∷ is (told_looked (participant 1 (input_participants counting (bytes_at 27 33) [] (input_pair 0 0x1a 34 3 66)))) (at 36 33)
    ∷ is (told_looked (participant 2 (output_participants counting (bytes_at 9 33) (output_pair 0 0x08 34 3 99)))) (at 69 33)
    -- past the list
    ∷ is (told_looked (participant 2 (input_participants counting (bytes_at 27 33) [] (input_pair 0 0x1a 34 3 66)))) (refused 14)
    ∷ is (told_looked (participant 3 (output_participants counting (bytes_at 9 33) (output_pair 0 0x08 34 3 99)))) (refused 14)
    ∷ is (told_looked (participant 1 (input_participants counting (bytes_at 27 33) [] (input_pair 0 0x1a 34 3 33)))) (refused 14)
    ∷ is (told_looked (participant 0xffff_ffff (input_participants counting (bytes_at 27 33) [] (input_pair 0 0x1a 34 3 66)))) (refused 14)
    -- absence and the list before the number; the map before both
    ∷ is (told_looked (participant 9 (Ok None))) nothing
    ∷ is (told_looked (participant 0 (Ok None))) nothing
    ∷ is (told_looked (participant 9 (input_participants counting (bytes_at 27 33) [] (input_pair 0 0x1b 34 3 66)))) nothing
    ∷ is (told_looked (participant 9 (Err BadValue))) (refused 7)
    ∷ is (told_looked (participant 0 (input_participants counting (bytes_at 27 33) [] (input_pair 0 0x1a 34 3 0)))) (refused 7)
    ∷ is (told_looked (participant 9 (input_participants counting (bytes_at 27 33) [] (input_pair 0 0x1a 34 3 65)))) (refused 7)
    ∷ is (told_looked (participant 9 (output_participants counting (bytes_at 9 33) (output_pair 0 0x08 34 3 65)))) (refused 7)
    ∷ is (told_looked (participant 0 (input_participants counting (bytes_at 27 33) [] (input_pair 1 0x1a 34 3 33)))) (refused 14)
    ∷ is (told_looked (participant 0 (Err BadIndex))) (refused 24)
    ∷ is (told_looked (participant 9 (Err BadIndex))) (refused 24)
    ∷ []

-- so they are numbered
pub participants_by_number : Hold keys_by_number
unfolding lookups keys_by_number
participants_by_number = refl
