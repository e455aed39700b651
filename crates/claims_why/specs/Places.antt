-- Where the reading of a file stopped, by what happened in it: no table, no room and no refusal's number is spoken of.
use Rattle.std.specs.Prelude.{List, ◌++◌, ℕ, zero, suc, Ok, Err}
use Rattle.format.specs.Content.{field, counted, global_rule}
use Rattle.format.specs.Reading.{Reading, events}
use Rattle.format.specs.declared.PsbtError.{PsbtError}
use Rattle.format.specs.Answers.{Ruled}
use Rattle.claims_reading.specs.Rooms.{begun#, ended#}
use Rattle.claims_reading.specs.Stopped.{global_pairs, passing}
use Rattle.reasons.specs.Reasons.{refused_line}
use Rattle.stop_lines.specs.Stops.{behind_global, stop_line}
use Rattle.stop_lines.specs.declared.Place.{Place}
use Rattle.stop_lines.specs.declared.Place.TheVariants.{Nowhere, Global, GlobalEnd}

-- at the end of the global map where its own rule refuses, else where the reading stopped behind it
unfoldable pub end_by : Ruled → Place → Place
end_by (Ok u) x = x
end_by (Err e) x = GlobalEnd

-- by how many maps ended: the map being read, of which so many pairs passed; behind the global map, by how many inputs and outputs that counts
unfoldable pub map_in : ℕ → Reading → Place
map_in zero r = Global (passing 0 r)
map_in (suc i) r =
    end_by (global_rule (global_pairs r)) (behind_global i (passing 0 r) (counted (field 0x04 (global_pairs r))) (counted (field 0x05 (global_pairs r))))

-- by how many maps began: nowhere where none did
unfoldable pub read_in : ℕ → Reading → Place
read_in zero r = Nowhere
read_in (suc n) r = map_in (ended# r) r

-- where a reading stopped
unfoldable pub place_in : Reading → Place
place_in r = read_in (begun# r) r

-- the text of a file that is refused with e: what that means, and where its reading stopped
unfoldable pub refusal_text : PsbtError → List ℕ → List ℕ
refusal_text e f = refused_line e ++ stop_line (place_in (events f))
