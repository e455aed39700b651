-- The widths of what a parse reports.
use Rattle.std.specs.Prelude.{◌^◌, ◌<◌, Some, None}
use Rattle.std.specs.Int.{w32}
use Rattle.std.proofs.Common.{SFits}
use Rattle.format.specs.Answers.{Maybe}
use Rattle.format.specs.declared.Psbt.{Psbt}

-- a number that may be absent has 32 bits
abbrev pub Narrow : Maybe → Type 0
Narrow None = Unit {0}
Narrow (Some n) = n < 2 ^ 32

-- what is reported fits its widths: 32 bits for the version, with a sign, and for both numbers that may be absent
pub record Fitting (s : Psbt) : Type 0 where
  pub version : SFits w32 s.tx_version
  pub fallback : Narrow s.fallback_locktime
  pub modifiable : Narrow s.tx_modifiable
