-- An outcome that meets the promise of `parse` and accepts is an accepted parse.
use mathlib.Core.Path.{◌≡◌, sym}
use mathlib.Core.List.{List}
use Prim.Native.Nat.{ℕ}
use Rattle.format.specs.Parse.{out, parsed}
use Rattle.format.specs.Told.{told_with, told_parsed, told_parse}
use Rattle.format.specs.declared.Psbt.{Psbt}
use Rattle.format.specs.declared.Parsed.TheVariants.{Accepted}
use Rattle.format.proofs.Told.{parse_out_one}
use Rattle.claims_reading.specs.Shown.{Accepts}
use Rattle.claims_reading.proofs.Parsed.{accepted_is}

pub promised_accepts : (f P M : List ℕ) (s : Psbt) (p m : ℕ) (P' M' : List ℕ)
    → told_with (told_parsed (Accepted s p m)) P' M' ≡ told_parse (parsed f P M) → Accepts f P M s p m P' M'
unfolding told_parse
promised_accepts f P M s p m P' M' q = accepted_is f P M s p m P' M' (sym (parse_out_one (out (Accepted s p m) P' M') (parsed f P M) q))
