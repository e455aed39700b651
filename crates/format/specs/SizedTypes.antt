-- The table of sized types names listed types alone.
use Rattle.std.specs.Prelude.{◌≡◌, refl, Bool, true, ◌&&◌, List, [], ◌∷◌}
use Rattle.format.specs.Rules.{kind_of, span, within, listed_types, sized_types}
use Rattle.format.specs.declared.SizedType.{SizedType}

-- each sized type is a listed one
unfoldable pub all_listed_def : List SizedType → Bool
all_listed_def [] = true
all_listed_def (r ∷ rs) = within (listed_types (kind_of r.kind)) r.tag && all_listed_def rs

-- so it is
pub sized_are_listed : all_listed_def sized_types ≡ true
unfolding all_listed_def within listed_types span
sized_are_listed = refl
