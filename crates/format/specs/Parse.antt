-- A parse: what the room of two lent tables leaves of a reading.
use Rattle.std.specs.Prelude.{ℕ, ◌+◌, ◌-◌, List, length}
use Rattle.format.specs.Tests.{pick}
use Rattle.format.specs.Content.{magic, psbt_of}
use Rattle.format.specs.Reading.{Reading, done, refusal, begins, pair, ended, events}
use Rattle.format.specs.Entries.{pair_words, map_words, has_room_def, put_pair, put_map, entry_of, width}
use Rattle.format.specs.declared.PsbtError.TheVariants.{PairsFull, MapsFull}
use Rattle.format.specs.declared.Parsed.{Parsed}
use Rattle.format.specs.declared.Parsed.TheVariants.{Accepted, Refused}

-- an answer, and the pair table and the map table as they are left
pub data ParseOut : Type 0 where
  out : Parsed → List ℕ → List ℕ → ParseOut

-- the cut, where the next byte is number `at`, p pairs and m maps are written, and the map being read begins with pair i
unfoldable pub cut : ℕ → ℕ → ℕ → ℕ → List ℕ → List ℕ → Reading → ParseOut
cut at p m i P M (done c) = out (Accepted (psbt_of c.global.pairs) p m) P M
cut at p m i P M (refusal e) = out (Refused e p m) P M
cut at p m i P M (begins r) = pick (has_room_def map_words m M) (cut at p m i P M r) (out (Refused MapsFull p m) P M)
cut at p m i P M (pair q r) =
    pick (has_room_def pair_words p P) (cut (at + width q) (p + 1) m i (put_pair P p (entry_of at q)) M r) (out (Refused PairsFull p m) P M)
cut at p m i P M (ended a r) = cut (at + length a) p (m + 1) p P (put_map M m (record { first = i; count = p - i })) r

-- a file parsed into two tables
unfoldable pub parsed : List ℕ → List ℕ → List ℕ → ParseOut
parsed f P M = cut (length magic) 0 0 0 P M (events f)
