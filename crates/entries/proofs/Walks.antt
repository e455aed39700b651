-- Laws of walks over entries of a pair table: where one begins, and its next entry.
use Rattle.std.proofs.Common.{◌≡◌, refl, ap, ℕ, zero, suc, ◌+◌, ◌*◌, ◌≤◌, ◌<◌, List, [], ◌∷◌, length, take, drop, get_or, ◌∙◌, ◌-◌, arith}
use Rattle.std.proofs.Math.ListN.{length-drop}
use Rattle.std.proofs.Math.Seq.{take_all}
use Rattle.format.specs.Entries.{pair_entries}
use Rattle.entries.specs.Words.{pair_count}
use Rattle.entries.proofs.Tables.{pair_count_lem}

-- of too few words none, else one and then the rest
pub next_none : (t : List ℕ) → length t < 4 → pair_entries t ≡ []
unfolding pair_entries
next_none [] h = refl
next_none (a ∷ []) h = refl
next_none (a ∷ b ∷ []) h = refl
next_none (a ∷ b ∷ c ∷ []) h = refl
next_none (a ∷ b ∷ c ∷ d ∷ t) h = absurd (omega arith)

pub next_one : (t : List ℕ) → 4 ≤ length t → pair_entries t
    ≡ record { key = get_or t 0 0; klen = get_or t 1 0; value = get_or t 2 0; vlen = get_or t 3 0 } ∷ pair_entries (take (length t - 4) (drop 4 t))
unfolding pair_entries
next_one [] h = absurd (omega arith)
next_one (a ∷ []) h = absurd (omega arith)
next_one (a ∷ b ∷ []) h = absurd (omega arith)
next_one (a ∷ b ∷ c ∷ []) h = absurd (omega arith)
next_one (a ∷ b ∷ c ∷ d ∷ t) h = rw (take_all (length (a ∷ b ∷ c ∷ d ∷ t) - 4) t (omega arith))

pub ruleset nexts = (next_none, next_one)

-- the entries from number i on, and the first n
four : (i : ℕ) → suc i * 4 ≡ suc (suc (suc (suc (i * 4))))
four i = omega arith

entries_drop : (i : ℕ) (t : List ℕ) → pair_entries (drop (i * 4) t) ≡ drop i (pair_entries t)
unfolding pair_entries
entries_drop zero t = refl
entries_drop (suc i) [] = rw (four i)
entries_drop (suc i) (a ∷ []) = rw (four i)
entries_drop (suc i) (a ∷ b ∷ []) = rw (four i)
entries_drop (suc i) (a ∷ b ∷ c ∷ []) = rw (four i)
entries_drop (suc i) (a ∷ b ∷ c ∷ d ∷ t) = rw (four i) (entries_drop i t)

entries_take : (n : ℕ) (t : List ℕ) → pair_entries (take (n * 4) t) ≡ take n (pair_entries t)
unfolding pair_entries
entries_take zero t = refl
entries_take (suc n) [] = rw (four n)
entries_take (suc n) (a ∷ []) = rw (four n)
entries_take (suc n) (a ∷ b ∷ []) = rw (four n)
entries_take (suc n) (a ∷ b ∷ c ∷ []) = rw (four n)
entries_take (suc n) (a ∷ b ∷ c ∷ d ∷ t) = rw (four n, entries_take n t)

-- the pairs that a map's entry names lie in the table, and are those that a walk over their words has
pub named_in : (t : List ℕ) (i n : ℕ) → i + n ≤ pair_count t → (i + n) * 4 ≤ length t
named_in t i n h = omega (arith, pair_count_lem t)

pub named_entries : (t : List ℕ) (i n : ℕ) → i + n ≤ pair_count t
    → pair_entries (take (n * 4) (take (length t - i * 4) (drop (i * 4) t))) ≡ take n (drop i (pair_entries t))
named_entries t i n h =
    rw (take_all (length t - i * 4) (drop (i * 4) t) (rw length-drop (omega arith))) (entries_take n (drop (i * 4) t) ∙ ap (take n) (entries_drop i t))
