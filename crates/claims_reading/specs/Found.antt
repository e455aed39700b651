-- What a lookup by place finds in the file.
use Rattle.std.specs.Prelude.{ℕ, List, take, drop, Ok, Err, Some, None}
use Rattle.format.specs.Content.{Found, absent, found, find}
use Rattle.format.specs.Tables.{View, hides, shows}
use Rattle.format.specs.Answers.{Looked}

-- the value at the place that a lookup answers
unfoldable pub found_at : List ℕ → Looked → Found
found_at f (Err e) = absent
found_at f (Ok None) = absent
found_at f (Ok (Some p)) = found (take p.len (drop p.start f))

-- the value of a key in a map that shows its pairs
unfoldable pub find_in : List ℕ → View → Found
find_in key (hides e) = absent
find_in key (shows ps) = find key ps
