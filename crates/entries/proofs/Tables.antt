-- Laws of tables by whole entries: how many they have, what stands at a number, and what writing changes.
use mathlib.Core.Path.{◌≡◌, refl, sym, ◌∙◌, ap}
use mathlib.Core.Bool.{Bool, true, false}
use mathlib.Core.List.{List, [], ◌∷◌}
use Prim.Native.Nat.{ℕ, zero, suc, ◌+◌, ◌*◌, ◌/◌, ◌^◌, ◌≤◌, ◌<◌}
use native.Mathlib.Nat.{le-div_iff_mul-le, div-lt_iff_lt-mul}
use native.Mathlib.Numerals.{towards_suc}
use native.Mathlib.Omega.{arith}
use borrow.Author.Tests.{lt-ltb, le-ltb, leb-true, leb-false}
use lib.Dec.{ltb, leb}
use lib.ListN.{length, drop, set}
use lib.Seq.{drop-cons}
use mir.Syntax.{w64}
use mir.Val.{Fits}
use Rattle.format.specs.Entries.{has_room_def, pair_entry_words, map_entry_words, put_pair, put_map, pair_entries, map_entries}
use Rattle.format.specs.declared.PairEntry.{PairEntry}
use Rattle.format.specs.declared.MapEntry.{MapEntry}
use Rattle.entries.specs.Words.{pair_count, map_count, no_pair, no_map, pair_at, map_at, pair_from, map_from}

-- room, as it is tested
pub room_tested : (w n : ℕ) (t : List ℕ) → 0 < w → ltb n (length t / w) ≡ has_room_def w n t
unfolding has_room_def
room_tested w n t h = by (leb (n * w + w) (length t)) refl
  where
    by : (b : Bool) → leb (n * w + w) (length t) ≡ b → ltb n (length t / w) ≡ leb (n * w + w) (length t)
    by true q =
        let i : suc n * w ≤ length t = omega (arith, leb-true (n * w + w) (length t) q) in
        lt-ltb n (length t / w) ((le-div_iff_mul-le h).1 i) ∙ sym q
    by false q =
        let i : length t < suc n * w = omega (arith, leb-false (n * w + w) (length t) q) in
        let k : length t / w < suc n = (div-lt_iff_lt-mul h).1 i in
        le-ltb n (length t / w) (omega arith) ∙ sym q

-- how many entries there are
pub pair_count_lem : (t : List ℕ) → length t / 4 ≡ pair_count t
unfolding pair_count pair_entries
pair_count_lem [] = refl
pair_count_lem (a ∷ []) = refl
pair_count_lem (a ∷ b ∷ []) = refl
pair_count_lem (a ∷ b ∷ c ∷ []) = refl
pair_count_lem (a ∷ b ∷ c ∷ d ∷ t) = omega (arith, pair_count_lem t)

pub map_count_lem : (t : List ℕ) → length t / 2 ≡ map_count t
unfolding map_count map_entries
map_count_lem [] = refl
map_count_lem (a ∷ []) = refl
map_count_lem (a ∷ b ∷ t) = omega (arith, map_count_lem t)

-- what stands at a number, by words
pub pair_words_lem : (i : ℕ) (t : List ℕ) → i < pair_count t → pair_from t (i * 4) ≡ pair_at t i
unfolding pair_count pair_at pair_from pair_entries
pair_words_lem i [] h = absurd (omega arith)
pair_words_lem i (a ∷ []) h = absurd (omega arith)
pair_words_lem i (a ∷ b ∷ []) h = absurd (omega arith)
pair_words_lem i (a ∷ b ∷ c ∷ []) h = absurd (omega arith)
pair_words_lem zero (a ∷ b ∷ c ∷ d ∷ t) h = refl
pair_words_lem (suc i) (a ∷ b ∷ c ∷ d ∷ t) h =
    let e : suc i * 4 ≡ suc (suc (suc (suc (i * 4)))) = omega arith in
    ap (pair_from (a ∷ b ∷ c ∷ d ∷ t)) e ∙ simp towards_suc (simp towards_suc at (pair_words_lem i t (omega arith)))

pub map_words_lem : (i : ℕ) (t : List ℕ) → i < map_count t → map_from t (i * 2) ≡ map_at t i
unfolding map_count map_at map_from map_entries
map_words_lem i [] h = absurd (omega arith)
map_words_lem i (a ∷ []) h = absurd (omega arith)
map_words_lem zero (a ∷ b ∷ t) h = refl
map_words_lem (suc i) (a ∷ b ∷ t) h =
    let e : suc i * 2 ≡ suc (suc (i * 2)) = omega arith in
    ap (map_from (a ∷ b ∷ t)) e ∙ simp towards_suc (simp towards_suc at (map_words_lem i t (omega arith)))

-- the entries from a number on
pub pair_here : (t : List ℕ) (i : ℕ) → i < pair_count t → drop i (pair_entries t) ≡ pair_at t i ∷ drop (suc i) (pair_entries t)
unfolding pair_count pair_at
pair_here t i h = drop-cons (pair_entries t) i no_pair h

pub map_here : (t : List ℕ) (i : ℕ) → i < map_count t → drop i (map_entries t) ≡ map_at t i ∷ drop (suc i) (map_entries t)
unfolding map_count map_at
map_here t i h = drop-cons (map_entries t) i no_map h

-- reading: where an entry's words begin
pub pair_begins : (t : List ℕ) (i : ℕ) → i < pair_count t → i * 4 + 4 ≤ length t
pair_begins t i h = omega (arith, pair_count_lem t)

pub map_begins : (t : List ℕ) (i : ℕ) → i < map_count t → i * 2 + 2 ≤ length t
map_begins t i h = omega (arith, map_count_lem t)

pub pair_fits : (t : List ℕ) (i : ℕ) → i < pair_count t → length t < 2 ^ 64 → Fits w64 (i * 4)
pair_fits t i h l = record { fits = omega (arith, pair_begins t i h) }

pub map_fits : (t : List ℕ) (i : ℕ) → i < map_count t → length t < 2 ^ 64 → Fits w64 (i * 2)
map_fits t i h l = record { fits = omega (arith, map_begins t i h) }

pub pair_read : (t : List ℕ) (i : ℕ) (e : PairEntry) → i < pair_count t → e ≡ pair_from t (i * 4) → e ≡ pair_at t i
pair_read t i e h q = q ∙ pair_words_lem i t h

pub map_read : (t : List ℕ) (i : ℕ) (e : MapEntry) → i < map_count t → e ≡ map_from t (i * 2) → e ≡ map_at t i
map_read t i e h q = q ∙ map_words_lem i t h

pub ruleset reads = (pair_begins, map_begins, pair_fits, map_fits, pair_read, map_read)

-- writing: the words in order
pub pair_put : (t : List ℕ) (n : ℕ) (e : PairEntry)
    → set (set (set (set t (n * 4) e.key) (n * 4 + 1) e.klen) (n * 4 + 2) e.value) (n * 4 + 3) e.vlen ≡ put_pair t n e
unfolding put_pair pair_entry_words
pair_put t n e = simp towards_suc

pub map_put : (t : List ℕ) (n : ℕ) (e : MapEntry) → set (set t (n * 2) e.first) (n * 2 + 1) e.count ≡ put_map t n e
unfolding put_map map_entry_words
map_put t n e = simp towards_suc
