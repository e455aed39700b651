-- How long the words of a refusal are.
use mathlib.Core.List.{List, [], ◌∷◌}
use Prim.Native.Nat.{ℕ, zero, suc, ◌≤◌}
use native.Mathlib.Omega.{arith}
use borrow.Author.Tests.{leb-true, leb-false}
use lib.Dec.{leb}
use lib.ListN.{length, get_or, length-append}
use Rattle.format.specs.Tests.{pick}
use Rattle.format.specs.Refusals.{number_of}
use Rattle.format.specs.declared.PsbtError.{PsbtError}
use Rattle.format.proofs.Tests.{pick_by}
use Rattle.text.specs.Spelled.{digit, decimal_in, decimal}
use Rattle.text.proofs.Sizes.{decimal_most}
use Rattle.reasons.specs.Reasons.{meanings, meaning, refused_line}

-- the length of the longest of some texts
abbrev greatest : List (List ℕ) → ℕ
greatest [] = 0
greatest (t ∷ ts) = pick (leb (length t) (greatest ts)) (greatest ts) (length t)

row_most : (ts : List (List ℕ)) (i : ℕ) → length (get_or ts i []) ≤ greatest ts
row_most [] i = omega arith
row_most (t ∷ ts) zero = pick_by (λ (n : ℕ). length t ≤ n) (leb (length t) (greatest ts)) _ _ (λ h. leb-true (length t) (greatest ts) h) (λ h. omega arith)
row_most (t ∷ ts) (suc i) =
    pick_by (λ (n : ℕ). length (get_or ts i []) ≤ n) (leb (length t) (greatest ts)) _ _ (λ h. row_most ts i)
    (λ h. omega (arith, row_most ts i, leb-false (length t) (greatest ts) h))

pub meaning_most : (e : PsbtError) → length (meaning e) ≤ 42
unfolding meaning decimal decimal_in digit
meaning_most e = row_most meanings (number_of e)

pub refused_most : (e : PsbtError) → length (refused_line e) ≤ 73
unfolding refused_line
refused_most e = simp length-append (omega (arith, decimal_most (number_of e), meaning_most e))
