-- Five wrong readers give another outcome on E or on F than the definition: each is ruled out by one computed parse.
use mathlib.Core.Path.{◌≡◌, refl, ◌∙◌, ap}
use mathlib.Core.List.{List, [], ◌∷◌, ◌++◌}
use mathlib.Core.Bool.{true, false}
use Prim.Native.Nat.{ℕ}
use native.Mathlib.Omega.{arith}
use lib.ListN.{replicate, drop}
use Rattle.format.specs.Parse.{out, parsed}
use Rattle.format.specs.Tables.{view}
use Rattle.format.specs.Transaction.{tx_out, unsigned_tx_def}
use Rattle.format.specs.ExampleFiles.{file_e, file_f, psbt_e, psbt_f, pairs_e, pairs_f, maps_f, fresh, tx_f}
use Rattle.format.specs.Computed.{computes}
use Rattle.format.specs.declared.PsbtError.{PsbtError}
use Rattle.format.specs.declared.Psbt.{Psbt}
use Rattle.format.specs.declared.Parsed.{Parsed}
use Rattle.format.specs.declared.Parsed.TheVariants as R
use Rattle.format.specs.Answers.{wrote_tx, UnsignedTx}
use Rattle.std.specs.Prelude.{Ok}

-- what the definition gives of E and of F, in tables that held zeros
parsed_e : parsed file_e (replicate 16 0) (replicate 2 0) ≡ out (R.Accepted psbt_e 4 1) pairs_e (0 ∷ 4 ∷ [])
unfolding computes
parsed_e = refl

parsed_f_lem : parsed file_f (replicate 32 0) (replicate 6 0) ≡ out (R.Accepted psbt_f 8 3) pairs_f maps_f
unfolding computes
parsed_f_lem = refl

tx_f_lem : unsigned_tx_def (view file_f pairs_f maps_f psbt_f) psbt_f fresh [] (replicate 61 0)
    ≡ tx_out (Ok (wrote_tx 61 (record { set = false; written = true }))) (tx_f (0 ∷ 0 ∷ 0 ∷ 0 ∷ []))
unfolding computes
tx_f_lem = refl

-- one that refuses everything
pub refuses_everything : (e : PsbtError) (p m : ℕ) (P M : List ℕ) → out (R.Refused e p m) P M ≡ parsed file_e (replicate 16 0) (replicate 2 0) → ⊥
refuses_everything e p m P M h = let k = h ∙ parsed_e in let z : ◌≡◌ {A = ℕ} 0 1 = cc in omega arith

-- one that reports E's fields for all
pub reports_e_for_all : (p m : ℕ) (P M : List ℕ) → out (R.Accepted psbt_e p m) P M ≡ parsed file_f (replicate 32 0) (replicate 6 0) → ⊥
reports_e_for_all p m P M h =
    let k = h ∙ parsed_f_lem in
    let e : psbt_e ≡ psbt_f = cc in
    let z : ◌≡◌ {A = ℕ} 0 1 = ap (λ (s : Psbt). s.inputs) e in
    omega arith

-- one that writes no entries, or no transaction bytes
pub writes_no_entries : (r : Parsed) → out r (replicate 16 0) (replicate 2 0) ≡ parsed file_e (replicate 16 0) (replicate 2 0) → ⊥
writes_no_entries r h = let k = h ∙ parsed_e in let z : ◌≡◌ {A = ℕ} 0 6 = cc in omega arith

pub writes_no_transaction : (r : UnsignedTx) → tx_out r (replicate 61 0) ≡ unsigned_tx_def (view file_f pairs_f maps_f psbt_f) psbt_f fresh [] (replicate 61 0)
    → ⊥
writes_no_transaction r h = let k = h ∙ tx_f_lem in let z : ◌≡◌ {A = ℕ} 0 2 = cc in omega arith

-- one that indexes the global map truly and fakes the others: whatever it leaves there, it is F's own entries
pub fakes_no_map : (r : Parsed) (P M : List ℕ) → out r (pairs_e ++ P) (0 ∷ 4 ∷ M) ≡ parsed file_f (replicate 32 0) (replicate 6 0)
    → (pairs_e ++ P ≡ pairs_f) × (M ≡ drop 2 maps_f)
fakes_no_map r P M h = let k = h ∙ parsed_f_lem in ((cc), (cc))

-- one whose pair and map counts are its own
pub counts_are : (s : Psbt) (p m : ℕ) (P M : List ℕ) → out (R.Accepted s p m) P M ≡ parsed file_f (replicate 32 0) (replicate 6 0) → (p ≡ 8) × (m ≡ 3)
counts_are s p m P M h = let k = h ∙ parsed_f_lem in ((cc), (cc))
