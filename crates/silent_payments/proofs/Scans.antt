-- Laws of what stands under a scan key.
use mathlib.Core.Path.{◌≡◌, ◌∙◌, ap}
use mathlib.Core.List.{List}
use Prim.Native.Nat.{ℕ}
use Rattle.std.specs.Prelude.{Ok, Err}
use Rattle.format.specs.Tables.{Held, holds}
use Rattle.format.specs.Lookups.{asked}
use Rattle.format.specs.Fields.{scan_lookup}
use Rattle.format.specs.Told.{told_looked}
use Rattle.format.specs.Answers.{Looked}
use Rattle.format.specs.declared.MapEntry.{MapEntry}
use Rattle.format.specs.declared.PsbtError.{PsbtError}
use Rattle.fitness.specs.Fits.{entries_of, held_of, Fit}
use Rattle.fitness.proofs.Maps.{held_ok, held_err}

-- by what the map is
module _ (f P : List ℕ) (fit : Fit) (h : Held) (q : held_of P fit ≡ h) (t w : ℕ) (k : List ℕ) where
  pub scan_refused : (e : PsbtError) → fit ≡ Err e → told_looked (Err e) ≡ told_looked (scan_lookup t w f k h)
  unfolding scan_lookup asked
  scan_refused e x = ap (λ (y : Held). told_looked (scan_lookup t w f k y)) (held_err P fit h q e x)

  pub scan_is : (m : MapEntry) → fit ≡ Ok m → (r : Looked) → r ≡ scan_lookup t w f k (holds (entries_of P m)) → told_looked r
      ≡ told_looked (scan_lookup t w f k h)
  scan_is m x r e = ap told_looked (e ∙ ap (scan_lookup t w f k) (held_ok P fit h q m x))

pub ruleset scans = (scan_refused, scan_is)
