-- The last line is right about the sequences that the transaction writes.
use mathlib.Core.Path.{◌≡◌, refl, sym, ◌∙◌, subst}
use mathlib.Core.Bool.{true, false}
use mathlib.Core.List.{List, [], ◌∷◌}
use Prim.Native.Nat.{ℕ, suc, ◌+◌}
use native.Mathlib.Omega.{arith}
use borrow.Author.Tests.{eqb-true, eq-eqb}
use lib.Dec.{eqb}
use Rattle.format.specs.Numbers.{le}
use Rattle.format.specs.Locks.{Sized, missing, misfit, is, In}
use Rattle.format.specs.Transaction.{or_final}
use Rattle.format.proofs.Tests.{pick_by, never_true, clash}
use Rattle.format.proofs.Numbers.{All}
use Rattle.claims_calls.specs.Asked.{asks_for}
use Rattle.claims_lock.specs.Honours.{Spells}
use Rattle.heed_lines.specs.declared.Heed.{Heed}
use Rattle.heed_lines.specs.declared.Heed.TheVariants.{Ignored, By}
use Rattle.heed_lines.specs.Heeds.{final_sequence, is_final}
use Rattle.claims_why.specs.Contents.{ins_heed}
use Rattle.claims_why.specs.Sequences.{Final, SaysOf}

-- an input that counts as final is
final_is : (q : Sized) → is_final (asks_for q) ≡ true → (n : ℕ) → Spells (or_final q) n → n ≡ final_sequence
unfolding is_final asks_for or_final le
final_is missing t n e = sym e
final_is misfit t n e = absurd e
final_is (is v) t n e = sym e ∙ eqb-true (le v) final_sequence t

-- and one that doesn't is not
open_is : (q : Sized) → is_final (asks_for q) ≡ false → (n : ℕ) × Spells (or_final q) n × (n ≡ final_sequence → ⊥)
unfolding is_final asks_for or_final
open_is missing t = never_true (sym t)
open_is misfit t = never_true (sym t)
open_is (is v) t = (le v, refl, λ e. clash (eqb (le v) final_sequence) (eq-eqb (le v) final_sequence e) t)

-- the same of inputs, the first of which has number k
abbrev SaysFrom : ℕ → List In → Heed → Type 0
SaysFrom k ins Ignored = All Final ins
SaysFrom k ins (By i) = (j : ℕ) × (i ≡ k + j) × SaysOf ins (By j)

says_more : (k : ℕ) (x : In) (xs : List In) → Final x → (h : Heed) → SaysFrom (k + 1) xs h → SaysFrom k (x ∷ xs) h
says_more k x xs f Ignored a = (f, a)
says_more k x xs f (By i) (j, e, (there, before)) = (suc j, omega (arith, e), (there, (f, before)))

says_from : (k : ℕ) (ins : List In) → SaysFrom k ins (ins_heed k ins)
unfolding ins_heed
says_from k [] = tt
says_from k (x ∷ xs) =
    pick_by (SaysFrom k (x ∷ xs)) (is_final (asks_for x.sequence)) _ _
    (λ t. says_more k x xs (final_is x.sequence t) (ins_heed (k + 1) xs) (says_from (k + 1) xs))
    (λ t. (0, omega arith, ((x, refl, open_is x.sequence t), tt)))

-- so what is said of a content's inputs is so
pub heed_says : (ins : List In) → SaysOf ins (ins_heed 0 ins)
heed_says ins = by (ins_heed 0 ins) (says_from 0 ins)
  where
    by : (h : Heed) → SaysFrom 0 ins h → SaysOf ins h
    by Ignored a = a
    by (By i) (j, e, a) = let z : j ≡ i = omega (arith, e) in subst (λ (n : ℕ). SaysOf ins (By n)) z a
