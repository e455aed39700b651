-- What a field of four bytes asks for, as a typed lookup answers it.
use Rattle.std.specs.Prelude.{ℕ, Ok, Err, Some, None}
use Rattle.format.specs.Numbers.{le}
use Rattle.format.specs.Content.{field}
use Rattle.format.specs.Tables.{View, hides, shows}
use Rattle.format.specs.Locks.{Sized, missing, misfit, is, sized_to}
use Rattle.format.specs.declared.PsbtError.TheVariants.{BadValue}
use Rattle.format.specs.Answers.{Numbered}

-- by what the lock rule takes of the field
unfoldable pub asks_for : Sized → Numbered
asks_for missing = Ok None
asks_for misfit = Err BadValue
asks_for (is v) = Ok (Some (le v))

-- by the field of type t in a map
unfoldable pub seen_in : ℕ → View → Numbered
seen_in t (hides e) = Err e
seen_in t (shows ps) = asks_for (sized_to 4 (field t ps))
