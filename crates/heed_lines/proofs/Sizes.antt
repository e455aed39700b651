-- How long the line is.
use mathlib.Core.List.{List}
use Prim.Native.Nat.{ℕ, ◌≤◌}
use native.Mathlib.Omega.{arith}
use lib.Dec.{eqb}
use lib.ListN.{length, length-append}
use Rattle.format.specs.Locks.{lock_of}
use Rattle.format.specs.Answers.{Decided}
use Rattle.format.proofs.Tests.{pick_by}
use Rattle.text.proofs.Sizes.{decimal_most}
use Rattle.heed_lines.specs.declared.Heed.{Heed}
use Rattle.heed_lines.specs.declared.Heed.TheVariants.{Ignored, By}
use Rattle.heed_lines.specs.Heeds.{heed_text, number_decided, heed_line}

text_most : (h : Heed) → length (heed_text h) ≤ 108
unfolding heed_text
text_most Ignored = omega arith
text_most (By i) = simp length-append (omega (arith, decimal_most i))

-- with the line or without
pub heed_most : (l : Decided) (h : Heed) → length (heed_line l h) ≤ 108
unfolding heed_line
heed_most l h = pick_by (λ (b : List ℕ). length b ≤ 108) (eqb (number_decided (lock_of l)) 0) _ _ (λ q. omega arith) (λ q. text_most h)
