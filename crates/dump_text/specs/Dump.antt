-- The dump of a file: a text that the file alone decides.
use Rattle.std.specs.Prelude.{ℕ, List, [], ◌++◌, ltb, length}
use Rattle.format.specs.Tests.{pick}
use Rattle.format.specs.Tables.{View, view, maps_reported}
use Rattle.format.specs.Parse.{ParseOut, out, parsed}
use Rattle.format.specs.Transaction.{TxOut, tx_out, unsigned_tx_def}
use Rattle.format.specs.declared.PsbtError.TheVariants.{TooLong}
use Rattle.format.specs.declared.Psbt.{Psbt}
use Rattle.format.specs.declared.Parsed.TheVariants.{Accepted, Refused}
use Rattle.rooms.specs.Limits.{longest}
use Rattle.rooms.specs.Rooms.{pair_room, map_room, tx_room, fresh}
use Rattle.dump_text.specs.Lines.{refused_line, head_line, maps_text, unsigned_line}

-- the last line, by what the transaction answers and leaves
unfoldable pub tx_line : TxOut → List ℕ
tx_line (tx_out x B) = unsigned_line x B

-- the text of an accepted file: what was reported, what its maps show in file order, its transaction in the room B
unfoldable pub accepted_text : (ℕ → View) → Psbt → List ℕ → List ℕ
accepted_text v s B = head_line s ++ (maps_text v 0 (maps_reported s) ++ tx_line (unsigned_tx_def v s fresh [] B))

-- the text of a file, by its parse: a refusal's number alone, or what the tables show
unfoldable pub parsed_text : List ℕ → List ℕ → ParseOut → List ℕ
parsed_text B f (out (Refused e p m) P M) = refused_line e
parsed_text B f (out (Accepted s p m) P M) = accepted_text (view f P M s) s B

-- the text of a file, parsed into the tables P and M, with the room B for its transaction
unfoldable pub dump_in : List ℕ → List ℕ → List ℕ → List ℕ → List ℕ
dump_in P M B f = parsed_text B f (parsed f P M)

-- the dump: room for 1,024 pairs, 256 maps and 65,536 transaction bytes; a file above 65,536 bytes is too long
unfoldable pub dump : List ℕ → List ℕ
dump f = pick (ltb longest (length f)) (refused_line TooLong) (dump_in pair_room map_room tx_room f)

-- no dump is longer, in bytes
abbrev pub longest_dump : ℕ
longest_dump = 272_384
