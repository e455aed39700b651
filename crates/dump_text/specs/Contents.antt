-- The dump of an accepted file, by its content.
use Rattle.std.specs.Prelude.{ℕ, ◌+◌, List, [], ◌∷◌, ◌++◌}
use Rattle.format.specs.Content.{Map, Content, maps_of, psbt_of}
use Rattle.format.specs.Transaction.{unsigned_tx_def}
use Rattle.claims_reading.specs.Shown.{view_by}
use Rattle.rooms.specs.Rooms.{fresh}
use Rattle.dump_text.specs.Lines.{head_line, map_text}
use Rattle.dump_text.specs.Dump.{tx_line}

-- the lines of maps, the first of them number m
unfoldable pub map_lines : ℕ → List Map → List ℕ
map_lines m [] = []
map_lines m (x ∷ ms) = map_text m x.pairs ++ map_lines (m + 1) ms

-- what is reported, the maps, the transaction in the room B
unfoldable pub content_text : Content → List ℕ → List ℕ
content_text c B =
    head_line (psbt_of c.global.pairs) ++ (map_lines 0 (maps_of c)
    ++ tx_line (unsigned_tx_def (λ n. view_by n (maps_of c)) (psbt_of c.global.pairs) fresh [] B))
