-- What is asked of a value, and what is known of one that was found.
use Rattle.std.specs.Prelude.{ℕ, ◌+◌, ◌≤◌, ◌≡◌, List, length, Ok, Some}
use Rattle.format.specs.Lookups.{Length, any_length, exactly, key_list}
use Rattle.format.specs.declared.Part.{Part}
use Rattle.format.specs.Answers.{Looked}
use Rattle.lookup.specs.declared.Wanted.{Wanted}
use Rattle.lookup.specs.declared.Wanted.TheVariants as W

-- which lengths are right
unfoldable pub length_of : Wanted → Length
length_of W.AnyLength = any_length
length_of (W.Exactly n) = exactly n
length_of W.KeyList = key_list

-- a value that was found spells a number of 64 bits
pub record Short (r : Looked) : Type 0 where
  pub few : (p : Part) → r ≡ Ok (Some p) → p.len ≤ 8

-- a value that was found lies in the file
pub record Lies (f : List ℕ) (r : Looked) : Type 0 where
  pub inside : (p : Part) → r ≡ Ok (Some p) → p.start + p.len ≤ length f
