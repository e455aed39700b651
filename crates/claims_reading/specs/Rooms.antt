-- What a reading asks of the room, and what parse answers where there is room enough.
use Rattle.std.specs.Prelude.{ℕ, suc, ◌*◌, ◌≤◌, List, length}
use Rattle.format.specs.Content.{psbt_of}
use Rattle.format.specs.Reading.{Reading, done, refusal, begins, pair, ended, Verdict, accepted, refused}
use Rattle.format.specs.Entries.{pair_words, map_words}
use Rattle.format.specs.Parse.{ParseOut, out}
use Rattle.format.specs.declared.Parsed.{Parsed}
use Rattle.format.specs.declared.Parsed.TheVariants.{Accepted, Refused}

-- how many pairs pass
unfoldable pub pairs# : Reading → ℕ
pairs# (done c) = 0
pairs# (refusal e) = 0
pairs# (begins r) = pairs# r
pairs# (pair p r) = suc (pairs# r)
pairs# (ended a r) = pairs# r

-- how many maps begin
unfoldable pub begun# : Reading → ℕ
begun# (done c) = 0
begun# (refusal e) = 0
begun# (begins r) = suc (begun# r)
begun# (pair p r) = begun# r
begun# (ended a r) = begun# r

-- how many maps end
unfoldable pub ended# : Reading → ℕ
ended# (done c) = 0
ended# (refusal e) = 0
ended# (begins r) = ended# r
ended# (pair p r) = ended# r
ended# (ended a r) = suc (ended# r)

-- both tables have an entry for each pair that passes and each map that begins
pub record Roomy (r : Reading) (P M : List ℕ) : Type 0 where
  pub pairs : pairs# r * pair_words ≤ length P
  pub maps : begun# r * map_words ≤ length M

-- the answer of a parse, without its tables
unfoldable pub answer : ParseOut → Parsed
answer (out a P M) = a

-- a verdict as an answer, with the entries used
unfoldable pub answer_of : Verdict → ℕ → ℕ → Parsed
answer_of (accepted c) p m = Accepted (psbt_of c.global.pairs) p m
answer_of (refused e) p m = Refused e p m
