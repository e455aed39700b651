-- Laws of how many bytes a transaction takes: sums that no longer grow, the parts, and what a measure says.
use mathlib.Core.Path.{◌≡◌, refl, sym, ◌∙◌, ap}
use mathlib.Core.Bool.{Bool, true, false}
use mathlib.Core.List.{List, [], ◌∷◌}
use Prim.Native.Nat.{ℕ, ◌+◌, ◌*◌, ◌^◌, ◌≤◌, ◌<◌, min}
use native.Mathlib.Omega.{arith}
use borrow.Author.Tests.{le-leb, leb-true, leb-false}
use lib.Dec.{leb}
use lib.ListN.{length}
use mir.Syntax.{w64}
use mir.Val.{Fits}
use Rattle.format.specs.Content.{Found, absent, found}
use Rattle.format.specs.Locks.{Sized, missing, misfit, is}
use Rattle.format.specs.Scripts.{Out}
use Rattle.format.specs.declared.PsbtError.{PsbtError}
use Rattle.format.specs.declared.PsbtError.TheVariants.{BadValue, MissingOutputScript}
use Rattle.format.proofs.Tests.{pick_by}
use Rattle.writer.specs.Writes.{size_length}
use Rattle.writer.proofs.Puts.{size_most}
use Rattle.tx_size.specs.Lengths.{is_there, script_bytes, input_length, out_length, outs_length, greatest}
use Rattle.tx_size.specs.Lengths.{capped, Measure, measure_by, out_measure, more_by, outs_measure, fixed_length}
use Rattle.std.specs.Prelude.{Ok, Err}

-- a refusal is no length
pub takes_not : {A : Type 0} (e : PsbtError) (w : ℕ) → Err e ≡ Ok w → A
takes_not e w h = let z : ◌≡◌ {A = ℕ} 0 1 = cc in absurd (omega arith)

-- by the first output's measure
pub more_takes : {R : Type 0} (f : ℕ → Measure) (n k : ℕ) (o : Measure) → more_by f n o ≡ Ok k
    → ((w : ℕ) → o ≡ Ok w → f (capped (n + w)) ≡ Ok k → R) → R
unfolding more_by
more_takes f n k (Err e) h g = takes_not e k h
more_takes f n k (Ok w) h g = g w refl h

-- a number that no longer grows
pub capped_most : (n : ℕ) → capped n ≤ greatest
unfolding capped
capped_most n = pick_by (λ (k : ℕ). k ≤ greatest) (leb n greatest) _ _ (λ q. leb-true n greatest q) (λ q. omega arith)

pub capped_least : (n : ℕ) → capped n ≤ n
unfolding capped
capped_least n = pick_by (λ (k : ℕ). k ≤ n) (leb n greatest) _ _ (λ q. omega arith) (λ q. omega (arith, leb-false n greatest q))

capped_is : (n : ℕ) → n ≤ greatest → capped n ≡ n
unfolding capped
capped_is n h = rw (le-leb n greatest h)

capped_past : (n : ℕ) → greatest ≤ n → capped n ≡ greatest
unfolding capped
capped_past n h = pick_by (λ (k : ℕ). k ≡ greatest) (leb n greatest) _ _ (λ q. omega (arith, leb-true n greatest q)) (λ q. refl)

pub capped_more : (a b : ℕ) → capped (capped a + b) ≡ capped (a + b)
capped_more a b = by (leb a greatest) refl
  where
    by : (t : Bool) → leb a greatest ≡ t → capped (capped a + b) ≡ capped (a + b)
    by true q = ap (λ (k : ℕ). capped (k + b)) (capped_is a (leb-true a greatest q))
    by false q =
        let l : greatest ≤ a = omega (arith, leb-false a greatest q) in
        capped_past (capped a + b) (omega (arith, capped_past a l)) ∙ sym (capped_past (a + b) (omega arith))

-- a buffer is never so long
module _ (n L : ℕ) (l : L < greatest) where
  pub capped_room : capped n ≤ L → capped n ≡ n
  capped_room h = by (leb n greatest) refl
    where
      by : (t : Bool) → leb n greatest ≡ t → capped n ≡ n
      by true q = capped_is n (leb-true n greatest q)
      by false q = absurd (omega (arith, capped_past n (omega (arith, leb-false n greatest q))))

-- how long the outputs are
pub measure_is : (a : Sized) (f : Found) (w : ℕ) → measure_by a f ≡ Ok w → (w ≡ out_length (length (script_bytes f))) × (is_there a ≡ true)
unfolding measure_by script_bytes is_there
measure_is missing f w h = takes_not BadValue w h
measure_is misfit f w h = takes_not BadValue w h
measure_is (is v) absent w h = takes_not MissingOutputScript w h
measure_is (is v) (found s) w h = let x : out_length (length s) ≡ w = cc in (sym x, refl)

pub outs_length_lem : (os : List Out) (n k : ℕ) → n ≤ greatest → outs_measure os n ≡ Ok k → k ≡ capped (n + outs_length os)
unfolding outs_measure out_measure outs_length
outs_length_lem [] n k l h = let x : n ≡ k = cc in let y : n + 0 ≡ n = omega arith in rw y (sym x ∙ sym (capped_is n l))
outs_length_lem (o ∷ os) n k l h =
    more_takes (outs_measure os) n k (measure_by o.amount o.script) h
    (λ w q r.
    let p : w ≡ out_length (length (script_bytes o.script)) = (measure_is o.amount o.script w q).0 in
    let z : n + w + outs_length os ≡ n + (out_length (length (script_bytes o.script)) + outs_length os) = omega arith in
    outs_length_lem os (capped (n + w)) k (capped_most (n + w)) r ∙ capped_more (n + w) (outs_length os) ∙ ap capped z)

-- how long an output is
module _ (n k : ℕ) (e : k ≡ size_length n) where
  pub out_is : 8 + (k + n) ≡ out_length n
  unfolding out_length
  out_is = rw e

  pub out_fits : n < 2 ^ 63 → Fits w64 (k + n)
  out_fits g = record { fits = omega (arith, size_most n) }

  pub out_whole : n < 2 ^ 63 → Fits w64 (8 + (k + n))
  out_whole g = record { fits = omega (arith, size_most n) }

pub ruleset out_lens = (out_is, out_fits, out_whole)

-- a number that no longer grows, as the library has it
pub capped_min : (n r : ℕ) → r ≡ min n greatest → r ≡ capped n
unfolding capped
capped_min n r e = e ∙ pick_by (λ (k : ℕ). min n greatest ≡ k) (leb n greatest) _ _ (λ q. omega (arith, leb-true n greatest q))
    (λ q. omega (arith, leb-false n greatest q))

-- all but the outputs
module _ (n m a b : ℕ) (ea : a ≡ size_length n) (eb : b ≡ size_length m) where
  module _ (k : ℕ) (few : leb k 8 ≡ true) where
    pub fixed_fits : Fits w64 (k + a)
    fixed_fits = record { fits = omega (arith, size_most n, leb-true k 8 few) }

    pub fixed_both : Fits w64 (k + a + b)
    fixed_both = record { fits = omega (arith, size_most n, size_most m, leb-true k 8 few) }

  pub fixed_is : (p r : ℕ) → p ≡ min (n * input_length) greatest → r ≡ min (p + (8 + a + b)) greatest → r ≡ capped (fixed_length n m)
  unfolding fixed_length
  fixed_is p r e q =
      capped_min (p + (8 + a + b)) r q ∙ ap (λ (x : ℕ). capped (x + (8 + a + b))) (capped_min (n * input_length) p e)
      ∙ capped_more (n * input_length) (8 + a + b) ∙ rw (ea, eb)

pub ruleset fixes = (fixed_fits, fixed_both, fixed_is)
