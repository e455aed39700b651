-- `wire::signed` is two's complement.
use Rattle.std.proofs.Common.{◌∙◌, ap, to_z, of_z, w32, ℤ}
use Rattle.std.proofs.Math.Facts.{to_z-of_z, sfits_to_z}
use Rattle.format.specs.Numbers.{signed}
use Rattle.wire.proofs.signed.Goals as goal

pub returns : goal.returns
unfolding signed
returns c = ap (λ (z : ℤ). to_z w32 (of_z w32 z)) c.cast_signed.ensures ∙ to_z-of_z (sfits_to_z c.ranges.x)
