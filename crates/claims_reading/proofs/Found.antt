-- Finding by place is finding by value, whatever the tables; and how a pair's lengths are spelled changes nothing.
use mathlib.Core.Path.{◌≡◌, refl, ◌∙◌, ap}
use mathlib.Core.List.{List, [], ◌∷◌, map}
use Prim.Native.Nat.{ℕ}
use Rattle.format.specs.Tests.{pick}
use Rattle.format.specs.Keys.{key_of, same}
use Rattle.format.specs.Content.{Pair, Content, maps_of, psbt_of, found, find}
use Rattle.format.specs.Reading.{accepted, reading}
use Rattle.format.specs.Entries.{key_in_def, value_in_def, shown}
use Rattle.format.specs.Tables.{Held, no, holds, held, view_of, view}
use Rattle.format.specs.Lookups.{place, any_length, length_fits, of_length_def, asked, look}
use Rattle.format.specs.declared.PairEntry.{PairEntry}
use Rattle.format.specs.Answers.{Looked}
use Rattle.std.specs.Prelude.{Ok, Err, Some, None}
use Rattle.format.proofs.Tests.{pick_ap}
use Rattle.claims_reading.specs.Shown.{bare, view_by, pair_table, map_table}
use Rattle.claims_reading.specs.Found.{found_at, find_in}
use Rattle.claims_reading.proofs.Shown.{view_is}

pub place_find : (f key : List ℕ) (es : List PairEntry) → found_at f (place f key es) ≡ find key (map (shown f) es)
unfolding found_at place find shown value_in_def
place_find f key [] = refl
place_find f key (e ∷ es) =
    pick_ap (found_at f) (same key (key_in_def f e)) _ _
    ∙ ap (pick (same key (key_in_def f e)) (found (value_in_def f e))) (place_find f key es)

-- a lookup in a map finds what the map shows
any_length_lem : (y : Looked) → of_length_def any_length y ≡ y
unfolding of_length_def length_fits
any_length_lem (Err e) = refl
any_length_lem (Ok None) = refl
any_length_lem (Ok (Some p)) = refl

pub look_find : (f : List ℕ) (t : ℕ) (d : List ℕ) (h : Held) → found_at f (look f t d h) ≡ find_in (key_of t d) (view_of f h)
unfolding look asked find_in view_of found_at
look_find f t d (no e) = refl
look_find f t d (holds es) = ap (found_at f) (any_length_lem (place f (key_of t d) es)) ∙ place_find f (key_of t d) es

-- so in the tables of an accepted file it finds what the content has
pub look_is : (f : List ℕ) (c : Content) (P M : List ℕ) → reading f ≡ accepted c → (m t : ℕ) (d : List ℕ)
    → found_at f (look f t d (held f (pair_table c P) (map_table c M) (psbt_of c.global.pairs) m)) ≡ find_in (key_of t d) (view_by m (maps_of c))
unfolding view
look_is f c P M e m t d = look_find f t d _ ∙ ap (find_in (key_of t d)) (view_is f c P M e m)

pub find_bare : (key : List ℕ) (ps : List Pair) → find key (map bare ps) ≡ find key ps
unfolding find bare
find_bare key [] = refl
find_bare key (p ∷ ps) = ap (pick (same key p.key) (found p.value)) (find_bare key ps)
