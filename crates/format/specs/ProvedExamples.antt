-- P1 to P13, computed: of each file its parse as told, and of an accepted one its transaction as told, with the buffer.
use Rattle.std.specs.Prelude.{ℕ, ◌≡◌, refl, true, false, List, [], ◌∷◌, ◌++◌, map, replicate}
use Rattle.format.specs.Content.{magic}
use Rattle.format.specs.Told.{told, none, nat, flag, told_left}
use Rattle.format.specs.ExampleFiles.{tx_version_def, fallback, input_count, output_count, version, end, time, height, script, file_e, file_f_with}
use Rattle.format.specs.ExampleFiles.{file_f, tx_e}
use Rattle.format.specs.ExampleFiles.{tx_f}
use Rattle.format.specs.Computed.{Answers, stops, goes, answers, computes, refused_with, accepted_with}

-- a proved example: its number, a file, and what is told of it
pub record Proved : Type 0 where
  pub number : ℕ
  pub file : List ℕ
  pub tells : Answers

-- example number n
abbrev P : ℕ → List ℕ → Answers → Proved
P n f a = record { number = n; file = f; tells = a }

-- refused, with so many pairs and maps used
abbrev no : ℕ → ℕ → ℕ → Answers
no n p m = stops (refused_with n p m)

-- E's answers: 4 pairs, 1 map, a transaction of 10 bytes in a buffer of 64
abbrev like_e : Answers
like_e = goes (accepted_with none none 0 0 4 1) (told_left (told 0 (nat 10 ∷ flag false ∷ flag true ∷ [])) (tx_e ++ replicate 54 0))

-- as F, with so many pairs: a transaction of 61 bytes that ends in a lock time
abbrev like_f : ℕ → List ℕ → Answers
like_f p lock = goes (accepted_with none none 1 1 p 3) (told_left (told 0 (nat 61 ∷ flag false ∷ flag true ∷ [])) (tx_f lock ++ replicate 3 0))

-- a parse that goes well, and a transaction refused 7, which leaves the buffer
abbrev no_tx : ℕ → Answers
no_tx p = goes (accepted_with none none 1 1 p 3) (told_left (told 7 []) (replicate 64 0))

-- P1 to P13
unfoldable pub proved : List Proved
proved =
    P 1 file_e like_e
    ∷ P 2 file_f (like_f 8 (0 ∷ 0 ∷ 0 ∷ 0 ∷ []))
    ∷ P 3 [] (no 1 0 0)
    ∷ P 3 magic (no 2 0 0)
    ∷ P 4 (magic ++ (tx_version_def ++ (1 ∷ 0x04 ∷ 2 ∷ 0xfd ∷ 1 ∷ (output_count 0 ++ (version 2 ++ end))))) (no 3 1 0)
    ∷ P 4 (magic ++ (tx_version_def ++ (1 ∷ 0x04 ∷ 0 ∷ (output_count 0 ++ (version 2 ++ end))))) (no 2 1 0)
    ∷ P 5 (file_e ++ (0 ∷ [])) (no 2 4 1)
    ∷ P 6 (magic ++ (tx_version_def ++ (output_count 0 ++ (input_count 0 ++ (version 2 ++ end))))) (no 6 2 0)
    ∷ P 6 (magic ++ (tx_version_def ++ (input_count 0 ++ (input_count 0 ++ (output_count 0 ++ (version 2 ++ end)))))) (no 5 2 0)
    ∷ P 7 (magic ++ (tx_version_def ++ (input_count 0 ++ (output_count 0 ++ (version 3 ++ end))))) (no 13 4 1)
    ∷ P 7 (magic ++ (tx_version_def ++ (input_count 0 ++ (output_count 0 ++ end)))) (no 8 3 1)
    ∷ P 8 (file_f_with [] [] []) (no 17 7 3)
    ∷ P 9 (file_f_with [] (height 499_999_999) script) (like_f 9 (0xff ∷ 0x64 ∷ 0xcd ∷ 0x1d ∷ []))
    ∷ P 9 (file_f_with [] (height 500_000_000) script) (no_tx 9)
    ∷ P 10 (file_f_with [] (time 500_000_000) script) (like_f 9 (0x00 ∷ 0x65 ∷ 0xcd ∷ 0x1d ∷ []))
    ∷ P 10 (file_f_with [] (time 499_999_999) script) (no_tx 9)
    ∷ P 11 (file_f_with (fallback 1_700_000_000) (height 800_000) script)
    (goes (accepted_with (nat 1_700_000_000) none 1 1 10 3)
    (told_left (told 0 (nat 61 ∷ flag false ∷ flag true ∷ [])) (tx_f (0x00 ∷ 0x35 ∷ 0x0c ∷ 0x00 ∷ []) ++ replicate 3 0)))
    ∷ P 12 (file_f_with [] [] (script ++ (1 ∷ 0x7f ∷ 0 ∷ []))) (like_f 9 (0 ∷ 0 ∷ 0 ∷ 0 ∷ []))
    ∷ P 13 (magic ++ (tx_version_def ++ (input_count 0 ++ (output_count 0 ++ (version 2 ++ (0xfd ∷ 0 ∷ 0 ∷ [])))))) like_e
    ∷ []

-- the proved examples hold
pub P1_to_P13 : map (λ (x : Proved). answers x.file) proved ≡ map (λ (x : Proved). x.tells) proved
unfolding computes proved
P1_to_P13 = refl
