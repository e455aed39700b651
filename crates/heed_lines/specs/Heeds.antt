-- Whether the network heeds a lock time: it ignores that of a transaction whose inputs all have the sequence ffffffff.
use Rattle.std.specs.Prelude.{ℕ, zero, suc, ◌+◌, Bool, true, List, [], ◌++◌, eqb, Ok, Err, Some, None}
use Rattle.format.specs.Tests.{pick}
use Rattle.format.specs.Tables.{held_input}
use Rattle.format.specs.Fields.{sequence}
use Rattle.format.specs.Locks.{Locked, unlocked, locked, lock_of}
use Rattle.format.specs.declared.Psbt.{Psbt}
use Rattle.format.specs.Answers.{Decided, Numbered}
use Rattle.text.specs.Say.{say}
use Rattle.text.specs.Spelled.{decimal}
use Rattle.heed_lines.specs.declared.Heed.{Heed}
use Rattle.heed_lines.specs.declared.Heed.TheVariants.{Ignored, By}

-- the greatest sequence
abbrev pub final_sequence : ℕ
final_sequence = 0xffff_ffff

-- an input is final where its sequence is absent or ffffffff. One that couldn't be read counts as final, so that no lock is said to be heeded
-- by it; an accepted parse leaves none
unfoldable pub is_final : Numbered → Bool
is_final (Err e) = true
is_final (Ok None) = true
is_final (Ok (Some n)) = eqb n final_sequence

-- by the sequences q of n inputs from number i on: the first input that isn't final has the lock heeded; where there is none, it is ignored
unfoldable pub heed_from : (ℕ → Numbered) → ℕ → ℕ → Heed
heed_from q i zero = Ignored
heed_from q i (suc n) = pick (is_final (q i)) (heed_from q (i + 1) n) (By i)

-- the sequence of input number i, as its lookup answers
unfoldable pub sequence_of : List ℕ → List ℕ → List ℕ → Psbt → ℕ → Numbered
sequence_of f P M s i = sequence f (held_input f P M s i)

-- by all inputs
unfoldable pub heed_of : List ℕ → List ℕ → List ℕ → Psbt → Heed
heed_of f P M s = heed_from (sequence_of f P M s) 0 s.inputs

-- before the number of the input that isn't final
abbrev pub say_heeds : List ℕ
say_heeds = say "the network heeds this lock: input "

-- behind it
abbrev pub say_below : List ℕ
say_below = say " has a sequence below ffffffff\n"

-- the line that says so
unfoldable pub heed_text : Heed → List ℕ
heed_text Ignored = say "the network ignores this lock, the transaction may be spent at once: no input has a sequence below ffffffff\n"
heed_text (By i) = say_heeds ++ (decimal i ++ say_below)

-- the lock time that was decided, 0 where it was refused
unfoldable pub number_decided : Locked → ℕ
number_decided (unlocked e) = 0
number_decided (locked n) = n

-- the line of a lock other than 0; 0 locks nothing, and a refused lock has no transaction
unfoldable pub heed_line : Decided → Heed → List ℕ
heed_line l h = pick (eqb (number_decided (lock_of l)) 0) [] (heed_text h)
