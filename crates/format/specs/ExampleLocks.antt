-- Computed examples of the lock time: what inputs ask for, which of it decides, and what is refused.
use Rattle.std.specs.Prelude.{ℕ, refl, List, [], ◌∷◌, replicate, Ok, Err, Some, None}
use Rattle.format.specs.Rows.{Row, is, Hold}
use Rattle.format.specs.Refusals.{number_of}
use Rattle.format.specs.Numbers.{le, bytes_of}
use Rattle.format.specs.Keys.{order, same, key_of}
use Rattle.format.specs.Content.{Pair, absent, found, find, field}
use Rattle.format.specs.Tables.{View, hides, shows, gather_by, gather, maps_reported}
use Rattle.format.specs.Locks.{Sized, missing, misfit, is as bytes, sized_to, In, in_of, asked_by_def, along, heights}
use Rattle.format.specs.Locks.{times, is_misfit, misfit_by, misfits, greatest, height_lock, time_lock}
use Rattle.format.specs.Locks.{decide_by, well_formed, decide, Locked, locked, unlocked, lock_of}
use Rattle.format.specs.Scripts.{out_of, reported_by, reported}
use Rattle.format.specs.Transaction.{lock_by, lock_decided}
use Rattle.format.specs.Told.{Told, told, nat, told_lock}
use Rattle.format.specs.ExampleMaps.{pair_of, views, reporting}
use Rattle.format.specs.declared.PsbtError.TheVariants.{BadValue, OutOfRange, BadIndex}
use Rattle.format.specs.Answers.{Maybe}
use Rattle.format.specs.declared.Lock.TheVariants as D

-- a field held to its width: not there, of a right length, one byte short, one byte long, empty
unfoldable pub widths : List (Row Sized)
widths =
    is (sized_to 4 absent) missing
    ∷ is (sized_to 4 (found (1 ∷ 2 ∷ 3 ∷ 4 ∷ []))) (bytes (1 ∷ 2 ∷ 3 ∷ 4 ∷ []))
    ∷ is (sized_to 4 (found (1 ∷ 2 ∷ 3 ∷ []))) misfit
    ∷ is (sized_to 4 (found (1 ∷ 2 ∷ 3 ∷ 4 ∷ 5 ∷ []))) misfit
    ∷ is (sized_to 4 (found [])) misfit
    ∷ []

-- so fields are held to widths
pub fields_of_a_width : Hold widths
unfolding sized_to widths
fields_of_a_width = refl

-- an input of five fields, of values with so many bytes
abbrev input_pairs : ℕ → ℕ → ℕ → ℕ → ℕ → List Pair
input_pairs a b c d e = pair_of 0x0e (replicate a 1) ∷ pair_of 0x0f (replicate b 2)
    ∷ pair_of 0x10 (replicate c 3) ∷ pair_of 0x11 (replicate d 4) ∷ pair_of 0x12 (replicate e 5) ∷ []

-- an input's fields: txid 0e of 32 bytes, index 0f, sequence 10, time 11, height 12 of 4; others and those with key data count for nothing
unfoldable pub inputs : List (Row In)
inputs =
    is (in_of []) (record { txid = missing; index = missing; sequence = missing; time = missing; height = missing })
    ∷ is (in_of (input_pairs 32 4 4 4 4)) (record {
      txid = bytes (replicate 32 1);
      index = bytes (2 ∷ 2 ∷ 2 ∷ 2 ∷ []);
      sequence = bytes (3 ∷ 3 ∷ 3 ∷ 3 ∷ []);
      time = bytes (4 ∷ 4 ∷ 4 ∷ 4 ∷ []);
      height = bytes (5 ∷ 5 ∷ 5 ∷ 5 ∷ []);
    })
    ∷ is (in_of (input_pairs 31 3 3 3 3)) (record { txid = misfit; index = misfit; sequence = misfit; time = misfit; height = misfit })
    ∷ is (in_of (input_pairs 33 5 5 5 5)) (record { txid = misfit; index = misfit; sequence = misfit; time = misfit; height = misfit })
    ∷ is (in_of (pair_of 0x0d (replicate 32 1) ∷ pair_of 0x13 (1 ∷ 2 ∷ 3 ∷ 4 ∷ []) ∷ []))
    (record { txid = missing; index = missing; sequence = missing; time = missing; height = missing })
    ∷ is (in_of (record { klen = 2 ∷ []; key = 0x12 ∷ 0 ∷ []; vlen = 4 ∷ []; value = 1 ∷ 2 ∷ 3 ∷ 4 ∷ [] } ∷ []))
    (record { txid = missing; index = missing; sequence = missing; time = missing; height = missing })
    ∷ []

-- so an input's pairs are taken
pub input_fields : Hold inputs
unfolding order same key_of find field sized_to in_of inputs
input_fields = refl

-- an input that asks for a time and a height
abbrev asking : Sized → Sized → In
asking t h = record { txid = missing; index = missing; sequence = missing; time = t; height = h }

-- one that asks for neither; a height; a time
abbrev free : In
free = asking missing missing

-- a height asked for
abbrev high : ℕ → In
high n = asking missing (bytes (bytes_of 4 n))

-- a time asked for
abbrev late : ℕ → In
late n = asking (bytes (bytes_of 4 n)) missing

-- what is told of inputs that ask, beside a fallback
unfoldable pub decided : Maybe → List In → Told
unfolding number_of le bytes_of asked_by_def along heights times is_misfit misfit_by misfits greatest height_lock time_lock decide_by well_formed decide
    told_lock
decided f ins = told_lock (decide f ins)

-- one input asks: a height below 500,000,000, a time of 500,000,000 or more
unfoldable pub thresholds : List (Row Told)
thresholds =
    is (decided None (high 0 ∷ [])) (told 0 (nat 1 ∷ nat 0 ∷ nat 0 ∷ []))
    ∷ is (decided None (high 499_999_999 ∷ [])) (told 0 (nat 1 ∷ nat 499_999_999 ∷ nat 0 ∷ []))
    ∷ is (decided None (high 500_000_000 ∷ [])) (told 7 (nat 2 ∷ nat 500_000_000 ∷ nat 0 ∷ []))
    ∷ is (decided None (high 0xffff_ffff ∷ [])) (told 7 (nat 2 ∷ nat 0xffff_ffff ∷ nat 0 ∷ []))
    ∷ is (decided None (late 0 ∷ [])) (told 7 (nat 3 ∷ nat 0 ∷ nat 0 ∷ []))
    ∷ is (decided None (late 499_999_999 ∷ [])) (told 7 (nat 3 ∷ nat 499_999_999 ∷ nat 0 ∷ []))
    ∷ is (decided None (late 500_000_000 ∷ [])) (told 0 (nat 2 ∷ nat 500_000_000 ∷ nat 0 ∷ []))
    ∷ is (decided None (late 0xffff_ffff ∷ [])) (told 0 (nat 2 ∷ nat 0xffff_ffff ∷ nat 0 ∷ []))
    ∷ []

-- so one lock is tested
pub height_or_time : Hold thresholds
unfolding decided thresholds
height_or_time = refl

-- the greatest decides, of equal ones the first, and it alone is tested; an input that asks for nothing counts in the number
unfoldable pub several : List (Row Told)
several =
    is (decided None (high 5 ∷ high 9 ∷ high 7 ∷ [])) (told 0 (nat 1 ∷ nat 9 ∷ nat 1 ∷ []))
    ∷ is (decided None (high 9 ∷ high 5 ∷ [])) (told 0 (nat 1 ∷ nat 9 ∷ nat 0 ∷ []))
    ∷ is (decided None (free ∷ high 5 ∷ free ∷ high 256 ∷ free ∷ [])) (told 0 (nat 1 ∷ nat 256 ∷ nat 3 ∷ []))
    ∷ is (decided None (free ∷ high 5 ∷ high 5 ∷ [])) (told 0 (nat 1 ∷ nat 5 ∷ nat 1 ∷ []))
    ∷ is (decided None (high 5 ∷ high 500_000_000 ∷ [])) (told 7 (nat 2 ∷ nat 500_000_000 ∷ nat 1 ∷ []))
    ∷ is (decided None (high 500_000_000 ∷ high 5 ∷ high 500_000_000 ∷ [])) (told 7 (nat 2 ∷ nat 500_000_000 ∷ nat 0 ∷ []))
    ∷ is (decided None (late 6 ∷ late 500_000_001 ∷ late 500_000_000 ∷ [])) (told 0 (nat 2 ∷ nat 500_000_001 ∷ nat 1 ∷ []))
    ∷ is (decided None (free ∷ late 500_000_000 ∷ late 500_000_000 ∷ [])) (told 0 (nat 2 ∷ nat 500_000_000 ∷ nat 1 ∷ []))
    ∷ is (decided None (late 6 ∷ free ∷ late 7 ∷ late 7 ∷ [])) (told 7 (nat 3 ∷ nat 7 ∷ nat 2 ∷ []))
    ∷ []

-- so the greatest decides
pub greatest_decides : Hold several
unfolding decided several
greatest_decides = refl

-- the fallback decides where nothing is asked, whatever its number, absent 0; it never counts among what is asked
unfoldable pub fallbacks : List (Row Told)
fallbacks =
    is (decided None []) (told 0 (nat 0 ∷ nat 0 ∷ []))
    ∷ is (decided None (free ∷ [])) (told 0 (nat 0 ∷ nat 0 ∷ []))
    ∷ is (decided (Some 0) (free ∷ free ∷ [])) (told 0 (nat 0 ∷ nat 0 ∷ []))
    ∷ is (decided (Some 9) (free ∷ [])) (told 0 (nat 0 ∷ nat 9 ∷ []))
    ∷ is (decided (Some 1_700_000_000) []) (told 0 (nat 0 ∷ nat 1_700_000_000 ∷ []))
    ∷ is (decided (Some 9) (high 5 ∷ [])) (told 0 (nat 1 ∷ nat 5 ∷ nat 0 ∷ []))
    ∷ is (decided (Some 9) (high 0 ∷ [])) (told 0 (nat 1 ∷ nat 0 ∷ nat 0 ∷ []))
    ∷ is (decided (Some 1_700_000_000) (high 800_000 ∷ [])) (told 0 (nat 1 ∷ nat 800_000 ∷ nat 0 ∷ []))
    ∷ is (decided (Some 1_700_000_000) (late 1_600_000_000 ∷ [])) (told 0 (nat 2 ∷ nat 1_600_000_000 ∷ nat 0 ∷ []))
    ∷ is (decided (Some 1_700_000_000) (late 6 ∷ [])) (told 7 (nat 3 ∷ nat 6 ∷ nat 0 ∷ []))
    ∷ []

-- so the fallback decides
pub fallback_decides : Hold fallbacks
unfolding decided fallbacks
fallback_decides = refl

-- both kinds, at one input or at two: the first that asks for a height and the first that asks for a time; before the numbers are tested
unfoldable pub mixed : List (Row Told)
mixed =
    is (decided None (asking (bytes (bytes_of 4 500_000_000)) (bytes (bytes_of 4 5)) ∷ [])) (told 7 (nat 1 ∷ nat 0 ∷ nat 0 ∷ []))
    ∷ is (decided None (high 5 ∷ late 500_000_000 ∷ [])) (told 7 (nat 1 ∷ nat 0 ∷ nat 1 ∷ []))
    ∷ is (decided None (late 500_000_000 ∷ high 5 ∷ [])) (told 7 (nat 1 ∷ nat 1 ∷ nat 0 ∷ []))
    ∷ is (decided (Some 9) (free ∷ high 5 ∷ late 500_000_000 ∷ high 9 ∷ late 500_000_009 ∷ [])) (told 7 (nat 1 ∷ nat 1 ∷ nat 2 ∷ []))
    ∷ is (decided None (high 500_000_000 ∷ late 6 ∷ [])) (told 7 (nat 1 ∷ nat 0 ∷ nat 1 ∷ []))
    ∷ []

-- so both kinds are refused
pub both_kinds : Hold mixed
unfolding decided mixed
both_kinds = refl

-- a height or a time of a wrong size: the first input that has one, before all other rules
unfoldable pub misfitting : List (Row Told)
misfitting =
    is (decided None (asking missing misfit ∷ [])) (told 7 (nat 4 ∷ nat 0 ∷ []))
    ∷ is (decided None (asking misfit missing ∷ [])) (told 7 (nat 4 ∷ nat 0 ∷ []))
    ∷ is (decided (Some 9) (free ∷ high 5 ∷ asking misfit missing ∷ asking missing misfit ∷ [])) (told 7 (nat 4 ∷ nat 2 ∷ []))
    ∷ is (decided None (high 5 ∷ late 500_000_000 ∷ asking missing misfit ∷ [])) (told 7 (nat 4 ∷ nat 2 ∷ []))
    ∷ is (decided None (high 500_000_000 ∷ asking missing misfit ∷ [])) (told 7 (nat 4 ∷ nat 1 ∷ []))
    ∷ is (decided None (late 6 ∷ asking misfit missing ∷ [])) (told 7 (nat 4 ∷ nat 1 ∷ []))
    ∷ is (decided None (record { txid = misfit; index = misfit; sequence = misfit; time = missing; height = missing } ∷ [])) (told 0 (nat 0 ∷ nat 0 ∷ []))
    ∷ []

-- so a wrong size is refused
pub wrong_sizes : Hold misfitting
unfolding decided misfitting
wrong_sizes = refl

-- the lock time of what was decided, and 7 of what was refused
unfoldable pub lock_times : List (Row Locked)
lock_times =
    is (lock_of (Ok (D.Fallback 9))) (locked 9)
    ∷ is (lock_of (Ok (D.Height 8 1))) (locked 8)
    ∷ is (lock_of (Ok (D.Time 500_000_000 2))) (locked 500_000_000)
    ∷ is (lock_of (Ok (D.BothKinds 0 1))) (unlocked BadValue)
    ∷ is (lock_of (Ok (D.HeightTooGreat 500_000_000 0))) (unlocked BadValue)
    ∷ is (lock_of (Ok (D.TimeTooSmall 6 0))) (unlocked BadValue)
    ∷ is (lock_of (Ok (D.Malformed 0))) (unlocked BadValue)
    ∷ is (lock_of (Err OutOfRange)) (unlocked OutOfRange)
    ∷ []

-- so it is
pub lock_times_lem : Hold lock_times
unfolding lock_of lock_times
lock_times_lem = refl

-- a map with a height of n
abbrev height_map : ℕ → View
height_map n = shows (pair_of 0x12 (bytes_of 4 n) ∷ [])

-- the call of its own, on what maps show: the global map and the outputs ask for nothing, an unfit map is 24 even where it is an output
unfoldable pub calls : List (Row Told)
calls =
    is (told_lock (lock_decided (views (shows [] ∷ height_map 5 ∷ height_map 9 ∷ shows [] ∷ [])) (reporting None 2 1))) (told 0 (nat 1 ∷ nat 9 ∷ nat 1 ∷ []))
    ∷ is (told_lock (lock_decided (views (height_map 5 ∷ shows [] ∷ height_map 9 ∷ [])) (reporting (Some 3) 1 1))) (told 0 (nat 0 ∷ nat 3 ∷ []))
    ∷ is (told_lock (lock_decided (views (shows [] ∷ shows (pair_of 0x11 (bytes_of 4 6) ∷ []) ∷ [])) (reporting None 1 0)))
    (told 7 (nat 3 ∷ nat 6 ∷ nat 0 ∷ []))
    ∷ is (told_lock (lock_decided (views (shows [] ∷ shows (pair_of 0x12 (1 ∷ []) ∷ []) ∷ [])) (reporting None 1 0))) (told 7 (nat 4 ∷ nat 0 ∷ []))
    ∷ is (told_lock (lock_decided (views (hides BadIndex ∷ [])) (reporting None 0 0))) (told 24 [])
    ∷ is (told_lock (lock_decided (views (shows [] ∷ hides BadIndex ∷ height_map 5 ∷ [])) (reporting None 2 0))) (told 24 [])
    ∷ is (told_lock (lock_decided (views (shows [] ∷ shows (pair_of 0x12 (1 ∷ []) ∷ []) ∷ hides BadIndex ∷ [])) (reporting None 1 1))) (told 24 [])
    ∷ is (told_lock (lock_decided (views (shows [] ∷ height_map 5 ∷ hides BadIndex ∷ [])) (reporting None 1 0))) (told 0 (nat 1 ∷ nat 5 ∷ nat 0 ∷ []))
    ∷ []

-- so the call decides
pub lock_call : Hold calls
unfolding decided order same key_of find field sized_to in_of out_of gather_by gather maps_reported reported_by reported lock_by lock_decided views
    calls
lock_call = refl
