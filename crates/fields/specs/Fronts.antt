-- The field rule of a pair, by the kind of map, the type, the lengths of key data and value, and the front of the value.
use Rattle.std.specs.Prelude.{ℕ, Bool, ◌&&◌, ◌||◌, List, eqb, Err}
use Rattle.format.specs.Tests.{pick}
use Rattle.format.specs.Compact.{size, count_by_def}
use Rattle.format.specs.Rules.{GLOBAL, sizes, count_rule, and_then}
use Rattle.format.specs.declared.PsbtError.TheVariants.{NotAllowed}
use Rattle.format.specs.Answers.{passed, Ruled}

-- a type whose value is a count, in a global key without data
unfoldable pub is_count : ℕ → Bool
is_count t = eqb t 0x04 || eqb t 0x05

-- what is asked of a global key without data besides sizes, by the value's length and front
unfoldable pub bare_rule_by : ℕ → ℕ → List ℕ → Ruled
bare_rule_by t m front = pick (eqb t 0x00) (Err NotAllowed) (pick (is_count t) (count_rule (count_by_def m (size front))) passed)

-- a global key without data
unfoldable pub is_bare : ℕ → ℕ → Bool
is_bare k n = eqb k GLOBAL && eqb n 0

-- kind of map, type, key data length, value length, front of the value
unfoldable pub rule_by : ℕ → ℕ → ℕ → ℕ → List ℕ → Ruled
rule_by k t n m front = and_then (sizes k t n m) (pick (is_bare k n) (bare_rule_by t m front) passed)
