-- A file read with what is known carried along: its events, with what is reported in place of the content.
use Rattle.std.specs.Prelude.{ℕ, zero, suc, ◌+◌, ◌-◌, Bool, true, false, List, [], ◌∷◌, length, drop, Ok, Err}
use Rattle.format.specs.Tests.{pick}
use Rattle.format.specs.Content.{Pair, magic, psbt_of}
use Rattle.format.specs.Rules.{kind_of, rule}
use Rattle.format.specs.Reading.{Item, stop, over, one, item, Reading}
use Rattle.format.specs.Reading as R
use Rattle.format.specs.Entries.{pair_words, map_words, has_room_def, put_pair, put_map, entry_of, width}
use Rattle.format.specs.Parse.{ParseOut, out}
use Rattle.format.specs.declared.PsbtError.{PsbtError}
use Rattle.format.specs.declared.PsbtError.TheVariants.{UnexpectedEof, PairsFull, MapsFull}
use Rattle.format.specs.declared.Psbt.{Psbt}
use Rattle.format.specs.declared.Parsed.TheVariants as A
use Rattle.known_so_far.specs.SoFar.{note, at_first, after, After}
use Rattle.known_so_far.specs.declared.Known.{Known}
use Rattle.known_so_far.specs.declared.Next.TheVariants.{Done, Map as More}

-- what happens in a file, with what is reported in place of the content
pub data Lean : Type 0 where
  done : Psbt → Lean
  refusal : PsbtError → Lean
  begins : Lean → Lean
  pair : Pair → Lean → Lean
  ended : List ℕ → Lean → Lean

-- what happens in a file, with what it reports
unfoldable pub lean : Reading → Lean
lean (R.done c) = done (psbt_of c.global.pairs)
lean (R.refusal e) = refusal e
lean (R.begins r) = begins (lean r)
lean (R.pair p r) = pair p (lean r)
lean (R.ended a r) = ended a (lean r)

-- that, cut where a table is full; `at` is the place in the file, p and m count the entries, i is the first pair of the map that is read
unfoldable pub cut_lean : ℕ → ℕ → ℕ → ℕ → List ℕ → List ℕ → Lean → ParseOut
cut_lean at p m i P M (done s) = out (A.Accepted s p m) P M
cut_lean at p m i P M (refusal e) = out (A.Refused e p m) P M
cut_lean at p m i P M (begins r) = pick (has_room_def map_words m M) (cut_lean at p m i P M r) (out (A.Refused MapsFull p m) P M)
cut_lean at p m i P M (pair q r) =
    pick (has_room_def pair_words p P) (cut_lean (at + width q) (p + 1) m i (put_pair P p (entry_of at q)) M r) (out (A.Refused PairsFull p m) P M)
cut_lean at p m i P M (ended a r) = cut_lean (at + length a) p (m + 1) p P (put_map M m (record { first = i; count = p - i })) r

-- bytes are left
unfoldable pub left : List ℕ → Bool
left [] = false
left (x ∷ r) = true

-- what follows a map, with k for the map after it
unfoldable pub go_on : (Known → List ℕ → List ℕ → Lean) → List ℕ → After → Lean
go_on k r (Err e) = refusal e
go_on k r (Ok (Done s)) = done s
go_on k r (Ok (More w)) = begins (k w [] r)

-- an item, with k for what follows it
unfoldable pub walk_turn_def : (Known → List ℕ → List ℕ → Lean) → Known → Item → Lean
walk_turn_def k w (stop e) = refusal e
walk_turn_def k w (over a r) = ended a (go_on k r (after w (left r)))
walk_turn_def k w (one p r) = pair p (k (note p.key p.value w) p.key r)

-- no more turns than the first number says
unfoldable pub go : ℕ → Known → List ℕ → List ℕ → Lean
go zero w last s = refusal UnexpectedEof
go (suc n) w last s = walk_turn_def (go n) w (item (rule (kind_of w.kind)) last s)

-- the rest s of a file, in the middle of a map whose last key is `last`
unfoldable pub walk : Known → List ℕ → List ℕ → Lean
walk w last s = go (suc (length s)) w last s

-- a file's maps, read into two tables
unfoldable pub maps_read : List ℕ → List ℕ → List ℕ → ParseOut
maps_read F P M = cut_lean (length magic) 0 0 0 P M (begins (walk at_first [] (drop 5 F)))
