-- Reading at a place of a buffer: what stands in front of the bytes that are left there, and the place behind it.
use Rattle.std.specs.Prelude.{ℕ, ◌+◌, List, length, drop, leb, Ok, Err}
use Rattle.format.specs.Tests.{pick}
use Rattle.format.specs.Compact.{size}
use Rattle.format.specs.declared.PsbtError.TheVariants.{UnexpectedEof}
use Rattle.format.specs.declared.Part.{Part}
use Rattle.format.specs.Answers.{Answer, part_at, Size}
use Rattle.wire.specs.declared.Cursor.{Cursor}

-- bytes that were taken: where they stand, and the cursor behind them
abbrev pub Taken : Type 0
Taken = Answer (ℕ × Cursor)

-- a compact size that was read: its value, and the cursor behind it
abbrev pub SizeRead : Type 0
SizeRead = Answer (ℕ × Cursor)

-- bytes behind their length: where they stand, and the cursor behind them
abbrev pub Prefixed : Type 0
Prefixed = Answer (Part × Cursor)

-- the cursor at a place
abbrev pub cursor : ℕ → Cursor
cursor p = record { pos = p }

-- how many bytes are left at a place: past the end none
unfoldable pub remaining : List ℕ → ℕ → ℕ
remaining s p = length (drop p s)

-- n bytes at a place, where as many are left
unfoldable pub take_at_def : List ℕ → ℕ → ℕ → Taken
take_at_def s p n = pick (leb n (remaining s p)) (Ok (p, (cursor (p + n)))) (Err UnexpectedEof)

-- a compact size at a place, by what was read there
unfoldable pub size_at_by : ℕ → Size → SizeRead
size_at_by p (Err e) = Err e
size_at_by p (Ok r) = Ok (r.value, (cursor (p + r.used)))

-- the compact size at a place
unfoldable pub size_at : List ℕ → ℕ → SizeRead
size_at s p = size_at_by p (size (drop p s))

-- bytes behind their length, by the length read at a place
unfoldable pub prefixed_by : List ℕ → ℕ → Size → Prefixed
prefixed_by s p (Err e) = Err e
prefixed_by s p (Ok r) = pick (leb r.value (remaining s (p + r.used))) (Ok (part_at (p + r.used) r.value, (cursor (p + r.used + r.value)))) (Err UnexpectedEof)

-- the bytes at a place that stand behind their length, a compact size
unfoldable pub prefixed_at : List ℕ → ℕ → Prefixed
prefixed_at s p = prefixed_by s p (size (drop p s))
