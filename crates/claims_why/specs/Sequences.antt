-- What the last line says of the sequences that the transaction writes.
use Rattle.std.specs.Prelude.{ℕ, ◌≡◌, List, take}
use Rattle.format.specs.Locks.{In}
use Rattle.format.specs.Transaction.{or_final}
use Rattle.format.proofs.Numbers.{All}
use Rattle.claims_lock.specs.Honours.{Spells, At}
use Rattle.heed_lines.specs.declared.Heed.{Heed}
use Rattle.heed_lines.specs.declared.Heed.TheVariants.{Ignored, By}
use Rattle.heed_lines.specs.Heeds.{final_sequence}

-- the bytes that the transaction writes as the sequence of input x spell n
abbrev pub Sequence : In → ℕ → Type 0
Sequence x n = Spells (or_final x.sequence) n

-- they spell nothing but ffffffff
abbrev pub Final : In → Type 0
Final x = (n : ℕ) → Sequence x n → n ≡ final_sequence

-- they are there, and spell another number
abbrev pub Open : In → Type 0
Open x = (n : ℕ) × Sequence x n × (n ≡ final_sequence → ⊥)

-- ignored: all inputs are final; heeded by input i: it is there and isn't final, and those before it are
abbrev pub SaysOf : List In → Heed → Type 0
SaysOf ins Ignored = All Final ins
SaysOf ins (By i) = ((x : In) × At ins i x × Open x) × All Final (take i ins)
