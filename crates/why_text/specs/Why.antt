-- The text of a file: what it asks of the lock and what was decided, which the file alone determines.
use Rattle.std.specs.Prelude.{ℕ, zero, suc, ◌+◌, List, [], ◌++◌, ltb, length}
use Rattle.format.specs.Tests.{pick}
use Rattle.format.specs.Tables.{view, held_input}
use Rattle.format.specs.Fields.{required_height_locktime, required_time_locktime}
use Rattle.format.specs.Parse.{ParseOut, out, parsed}
use Rattle.format.specs.Transaction.{TxOut, tx_out, unsigned_tx_def, lock_decided}
use Rattle.format.specs.declared.PsbtError.{PsbtError}
use Rattle.format.specs.declared.PsbtError.TheVariants.{TooLong}
use Rattle.format.specs.declared.Psbt.{Psbt}
use Rattle.format.specs.Answers.{Numbered, UnsignedTx}
use Rattle.format.specs.declared.Parsed.TheVariants.{Accepted, Refused}
use Rattle.rooms.specs.Limits.{longest}
use Rattle.rooms.specs.Rooms.{pair_room, map_room, tx_room, fresh}
use Rattle.reasons.specs.Reasons.{refused_line}
use Rattle.stop_lines.specs.Stops.{stopped, stop_line}
use Rattle.lock_lines.specs.Lines.{head_line, input_line, verdict}
use Rattle.heed_lines.specs.Heeds.{heed_of, heed_line}

-- the height that input number i asks for, as its lookup answers
unfoldable pub height_asked : List ℕ → List ℕ → List ℕ → Psbt → ℕ → Numbered
height_asked f P M s i = required_height_locktime f (held_input f P M s i)

-- the time that it asks for
unfoldable pub time_asked : List ℕ → List ℕ → List ℕ → Psbt → ℕ → Numbered
time_asked f P M s i = required_time_locktime f (held_input f P M s i)

-- the lines of n inputs from number i on
unfoldable pub inputs_text : (ℕ → Numbered) → (ℕ → Numbered) → ℕ → ℕ → List ℕ
inputs_text h t i zero = []
inputs_text h t i (suc n) = input_line i (h i) (t i) ++ inputs_text h t (i + 1) n

-- the transaction's answer, without its bytes
unfoldable pub answered : TxOut → UnsignedTx
answered (tx_out x B) = x

-- the text of an accepted file: its head, its inputs, the verdict by `lock_decided` and the transaction in the room B, and whether the network heeds that lock
unfoldable pub accepted_text : List ℕ → List ℕ → List ℕ → Psbt → List ℕ → List ℕ
accepted_text f P M s B =
    head_line s.inputs s.fallback_locktime ++ (inputs_text (height_asked f P M s) (time_asked f P M s) 0 s.inputs
    ++ (verdict (lock_decided (view f P M s) s) (answered (unsigned_tx_def (view f P M s) s fresh [] B))
    ++ heed_line (lock_decided (view f P M s) s) (heed_of f P M s)))

-- the text of a refused file: what the refusal means, and where the parse stopped
unfoldable pub refused_text : List ℕ → List ℕ → List ℕ → PsbtError → ℕ → ℕ → List ℕ
refused_text f P M e p m = refused_line e ++ stop_line (stopped f P M e p m)

-- by the parse: the refusal, or what the tables show
unfoldable pub parsed_text : List ℕ → List ℕ → ParseOut → List ℕ
parsed_text B f (out (Refused e p m) P M) = refused_text f P M e p m
parsed_text B f (out (Accepted s p m) P M) = accepted_text f P M s B

-- the text of a file, parsed into the tables P and M, with the room B for its transaction
unfoldable pub why_in : List ℕ → List ℕ → List ℕ → List ℕ → List ℕ
why_in P M B f = parsed_text B f (parsed f P M)

-- the text of a file: room for 1,024 pairs, 256 maps and 65,536 transaction bytes; a file above 65,536 bytes is too long
unfoldable pub why : List ℕ → List ℕ
why f = pick (ltb longest (length f)) (refused_line TooLong) (why_in pair_room map_room tx_room f)
