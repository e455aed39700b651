-- How long the lines about the lock are.
use mathlib.Core.List.{List}
use Prim.Native.Nat.{ℕ, ◌≤◌, ◌<◌}
use native.Mathlib.Omega.{arith}
use lib.Dec.{ltb, eqb}
use lib.ListN.{length, length-append}
use Rattle.format.specs.Refusals.{number_of}
use Rattle.format.specs.Locks.{threshold}
use Rattle.format.specs.declared.PsbtError.{PsbtError}
use Rattle.format.specs.declared.PsbtError.TheVariants.{BadValue}
use Rattle.format.specs.Answers.{Decided, Maybe, Numbered, UnsignedTx}
use Rattle.std.specs.Prelude.{Ok, Err, Some, None}
use Rattle.format.specs.declared.Lock.TheVariants as L
use Rattle.format.proofs.Tests.{pick_by}
use Rattle.text.proofs.Sizes.{decimal_most, decimal_few}
use Rattle.utc.proofs.Sizes.{date_most}
use Rattle.reasons.proofs.Sizes.{meaning_most, refused_most}
use Rattle.lock_lines.specs.Lines.{height_number, time_number, lock_text, fallback_text, head_line, height_text, time_text}
use Rattle.lock_lines.specs.Lines.{input_line, lack_text, tx_line, outcome, fallback_decided, height_decided, time_decided}
use Rattle.lock_lines.specs.Lines.{both_line, too_great_line, too_small_line, malformed_line, verdict}

-- a height, a time and a lock time
height_number_lem : (n : ℕ) → length (height_number n) ≤ 27
unfolding height_number
height_number_lem n = omega (arith, decimal_most n)

time_number_lem : (n : ℕ) → length (time_number n) ≤ 67
unfolding time_number
time_number_lem n = simp length-append (omega (arith, decimal_most n, date_most n))

lock_text_lem : (n : ℕ) → length (lock_text n) ≤ 67
unfolding lock_text
lock_text_lem n =
    pick_by (λ (l : List ℕ). length l ≤ 67) (eqb n 0) _ _ (λ h. omega arith)
    (λ h. pick_by (λ (l : List ℕ). length l ≤ 67) (ltb n threshold) _ _ (λ q. omega (arith, height_number_lem n)) (λ q. time_number_lem n))

-- the first line
fallback_text_lem : (m : Maybe) → length (fallback_text m) ≤ 67
unfolding fallback_text
fallback_text_lem None = omega arith
fallback_text_lem (Some n) = lock_text_lem n

pub head_most : (n : ℕ) (m : Maybe) → length (head_line n m) ≤ 106
unfolding head_line
head_most n m = simp length-append (omega (arith, decimal_most n, fallback_text_lem m))

-- an input's line
height_text_lem : (h : Numbered) → length (height_text h) ≤ 27
unfolding height_text
height_text_lem (Err e) = omega arith
height_text_lem (Ok None) = omega arith
height_text_lem (Ok (Some n)) = height_number_lem n

time_text_lem : (t : Numbered) → length (time_text t) ≤ 67
unfolding time_text
time_text_lem (Err e) = omega arith
time_text_lem (Ok None) = omega arith
time_text_lem (Ok (Some n)) = time_number_lem n

pub input_most : (i : ℕ) (h t : Numbered) → i < 1000 → length (input_line i h t) ≤ 115
unfolding input_line
input_most i h t l = simp length-append (omega (arith, decimal_few 2 i l, height_text_lem h, time_text_lem t))

-- the verdict
lack_text_lem : (e : PsbtError) → length (lack_text e) ≤ 56
unfolding lack_text
lack_text_lem e = pick_by (λ (l : List ℕ). length l ≤ 56) (eqb (number_of e) (number_of BadValue)) _ _ (λ h. omega arith) (λ h. omega (arith, meaning_most e))

tx_line_lem : (x : UnsignedTx) → length (tx_line x) ≤ 103
unfolding tx_line
tx_line_lem (Err e) = simp length-append (omega (arith, decimal_most (number_of e), lack_text_lem e))
tx_line_lem (Ok w) = simp length-append (omega (arith, decimal_most w.len))

outcome_most : (n : ℕ) (x : UnsignedTx) → length (outcome n x) ≤ 176
unfolding outcome
outcome_most n x = simp length-append (omega (arith, lock_text_lem n, tx_line_lem x))

pub verdict_most : (l : Decided) (x : UnsignedTx) → length (verdict l x) ≤ 238
unfolding verdict fallback_decided height_decided time_decided both_line too_great_line too_small_line malformed_line
verdict_most (Err e) x = omega (arith, refused_most e)
verdict_most (Ok (L.Height n i)) x = simp length-append (omega (arith, decimal_most i, outcome_most n x))
verdict_most (Ok (L.Time n i)) x = simp length-append (omega (arith, decimal_most i, outcome_most n x))
verdict_most (Ok (L.Fallback n)) x = omega (arith, outcome_most n x)
verdict_most (Ok (L.BothKinds h t)) x = simp length-append (omega (arith, decimal_most h, decimal_most t, decimal_most (number_of BadValue)))
verdict_most (Ok (L.HeightTooGreat n i)) x =
    simp length-append (omega (arith, decimal_most n, decimal_most i, decimal_most threshold, decimal_most (number_of BadValue)))
verdict_most (Ok (L.TimeTooSmall n i)) x =
    simp length-append (omega (arith, decimal_most n, decimal_most i, decimal_most threshold, decimal_most (number_of BadValue)))
verdict_most (Ok (L.Malformed i)) x = simp length-append (omega (arith, decimal_most i, decimal_most (number_of BadValue)))
