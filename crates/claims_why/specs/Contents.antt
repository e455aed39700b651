-- The text of an accepted file, by its content.
use Rattle.std.specs.Prelude.{ℕ, ◌+◌, List, [], ◌∷◌, ◌++◌}
use Rattle.format.specs.Tests.{pick}
use Rattle.format.specs.Content.{Map, Content, maps_of, psbt_of}
use Rattle.format.specs.Locks.{In, in_of}
use Rattle.format.specs.Transaction.{unsigned_tx_def, lock_decided}
use Rattle.format.specs.Answers.{Decided}
use Rattle.claims_reading.specs.Shown.{view_by}
use Rattle.claims_calls.specs.Asked.{asks_for}
use Rattle.claims_calls.specs.Newer.{ins_of}
use Rattle.lock_lines.specs.Lines.{head_line, input_line, verdict}
use Rattle.heed_lines.specs.declared.Heed.{Heed}
use Rattle.heed_lines.specs.declared.Heed.TheVariants.{Ignored, By}
use Rattle.heed_lines.specs.Heeds.{is_final, heed_line}
use Rattle.rooms.specs.Rooms.{fresh}
use Rattle.why_text.specs.Why.{answered}

-- the lines of inputs, the first of which has number i, by what the lock rule takes of each
unfoldable pub ins_lines : ℕ → List Map → List ℕ
ins_lines i [] = []
ins_lines i (m ∷ ms) = input_line i (asks_for (in_of m.pairs).height) (asks_for (in_of m.pairs).time) ++ ins_lines (i + 1) ms

-- what the network makes of a lock of inputs, the first of which has number i, by the sequence that the transaction takes of each
unfoldable pub ins_heed : ℕ → List In → Heed
ins_heed i [] = Ignored
ins_heed i (x ∷ xs) = pick (is_final (asks_for x.sequence)) (ins_heed (i + 1) xs) (By i)

-- what decides the content's lock
unfoldable pub content_lock : Content → Decided
content_lock c = lock_decided (λ n. view_by n (maps_of c)) (psbt_of c.global.pairs)

-- the head, the inputs, the verdict on the content's lock, with the transaction in the room B, and what the network makes of that lock
unfoldable pub content_text : Content → List ℕ → List ℕ
content_text c B =
    head_line (psbt_of c.global.pairs).inputs (psbt_of c.global.pairs).fallback_locktime ++ (ins_lines 0 c.ins
    ++ (verdict (content_lock c) (answered (unsigned_tx_def (λ n. view_by n (maps_of c)) (psbt_of c.global.pairs) fresh [] B))
    ++ heed_line (content_lock c) (ins_heed 0 (ins_of c))))
