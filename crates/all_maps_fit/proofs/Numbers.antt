-- Laws of map numbers: one that is in the table fits a word.
use mathlib.Core.List.{List}
use Prim.Native.Nat.{ℕ, ◌+◌, ◌^◌, ◌<◌}
use native.Mathlib.Omega.{arith}
use lib.ListN.{length}
use mir.Syntax.{w64}
use mir.Val.{Fits}
use Rattle.format.specs.declared.Psbt.{Psbt}
use Rattle.entries.specs.Words.{map_count}
use Rattle.entries.proofs.Tables.{map_count_lem}

module _ (M : List ℕ) (b : length M < 2 ^ 64) where
  pub input_number : (i : ℕ) → 1 + i < map_count M → Fits w64 (1 + i)
  input_number i h = record { fits = omega (arith, map_count_lem M) }

  module _ (s : Psbt) (i : ℕ) (h : 1 + s.inputs + i < map_count M) where
    pub output_first : Fits w64 (1 + s.inputs)
    output_first = record { fits = omega (arith, map_count_lem M) }

    pub output_number : Fits w64 (1 + s.inputs + i)
    output_number = record { fits = omega (arith, map_count_lem M) }

pub ruleset numbers = (input_number, output_first, output_number)
