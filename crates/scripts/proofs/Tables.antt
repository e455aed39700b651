-- Laws of the script table's entries, one for each way through the functions that judge them.
use Rattle.std.specs.Ordering.{is_eq}
use mathlib.Core.Path.{◌≡◌, refl, sym, ◌∙◌, ap}
use mathlib.Core.Bool.{Bool, true, false, not}
use mathlib.Core.List.{List, [], ◌∷◌}
use Prim.Native.Nat.{ℕ, ◌+◌, ◌-◌, ◌*◌, ◌/◌, ◌<◌, ◌≤◌}
use native.Mathlib.Nat.{add-sub_cancel_left}
use native.Mathlib.Omega.{arith}
use borrow.Author.Tests.{eq-eqb, ne_eqb, eqb-true, eqb-false}
use lib.Dec.{eqb}
use lib.ListN.{length, get_or, take, drop, replicate, length-drop, drop_of_length-le}
use lib.Seq.{take_all, take-nil}
use Rattle.format.specs.Keys.{order, same}
use Rattle.format.specs.Content.{Found, absent, found, present}
use Rattle.format.specs.Scripts.{script_entry, taproot}
use Rattle.format.specs.Transaction.{entry_fits}
use Rattle.std.specs.declared.cmp.Ordering.{Ordering}
use Rattle.format.proofs.Tests.{no_by}
use Rattle.format.proofs.Keys.{same_is, same_self}
use Rattle.scripts.specs.Tables.{entry_at, blank, filled, fits_by}

-- entry number i of a table of n bytes: whole, the one that is cut, or past the end
module _ (T : List ℕ) (i : ℕ) where
  pub entry_whole : take (i * 35 + 35 - i * 35) (drop (i * 35) T) ≡ entry_at T i
  unfolding entry_at
  entry_whole = ap (λ (k : ℕ). take k (drop (i * 35) T)) (add-sub_cancel_left (i * 35) 35)

  pub entry_cut : (w : ℕ) → w ≡ length T / 35 → i ≡ w → take (length T - w * 35) (drop (w * 35) T) ≡ entry_at T i
  unfolding entry_at
  entry_cut w h e =
      let l : length (drop (i * 35) T) ≡ length T - i * 35 = length-drop (i * 35) T in
      rw (← e) (take_all (length T - i * 35) (drop (i * 35) T) (omega arith) ∙ sym (take_all 35 (drop (i * 35) T) (omega arith)))

  pub entry_past : (w : ℕ) → w ≡ length T / 35 → w ≤ i → (i ≡ w → ⊥) → [] ≡ entry_at T i
  unfolding entry_at
  entry_past w h l n =
      let k : length T ≤ i * 35 = let j : w < i = omega arith in omega arith in
      sym (ap (take 35) (drop_of_length-le T k) ∙ take-nil 35)

pub ruleset entries = (entry_whole, entry_cut, entry_past)

-- two bytes that are 51 20
same_two : (a b : ℕ) → a ≡ 0x51 → eqb b 0x20 ≡ same (a ∷ b ∷ []) (0x51 ∷ 0x20 ∷ [])
same_two a b h = by (eqb b 0x20) refl
  where
    by : (t : Bool) → eqb b 0x20 ≡ t → t ≡ same (a ∷ b ∷ []) (0x51 ∷ 0x20 ∷ [])
    by true q = let e : b ≡ 0x20 = eqb-true b 0x20 q in rw (h, e) (sym (same_self (0x51 ∷ 0x20 ∷ [])))
    by false q =
        sym (no_by (same (a ∷ b ∷ []) (0x51 ∷ 0x20 ∷ []))
        (λ g. let e = same_is (a ∷ b ∷ []) (0x51 ∷ 0x20 ∷ []) g in let f : b ≡ 0x20 = cc in eqb-false b 0x20 q f))

other_one : (a b : ℕ) → (a ≡ 0x51 → ⊥) → same (a ∷ b ∷ []) (0x51 ∷ 0x20 ∷ []) ≡ false
other_one a b h = no_by (same (a ∷ b ∷ []) (0x51 ∷ 0x20 ∷ [])) (λ g. let e = same_is (a ∷ b ∷ []) (0x51 ∷ 0x20 ∷ []) g in let f : a ≡ 0x51 = cc in h f)

-- a taproot script, by its length and its first two bytes
pub tap_is : (s : List ℕ) → length s ≡ 34 → get_or s 0 0 ≡ 0x51 → eqb (get_or s 1 0) 0x20 ≡ taproot s
unfolding taproot
tap_is [] l h = absurd (omega arith)
tap_is (a ∷ []) l h = absurd (omega arith)
tap_is (a ∷ b ∷ s) l h = rw (eq-eqb (length (a ∷ b ∷ s)) 34 l) (same_two a b h)

pub tap_other : (s : List ℕ) → length s ≡ 34 → (get_or s 0 0 ≡ 0x51 → ⊥) → eqb (get_or s 0 0) 0x51 ≡ taproot s
unfolding taproot
tap_other [] l h = absurd (omega arith)
tap_other (a ∷ []) l h = absurd (omega arith)
tap_other (a ∷ b ∷ s) l h = ne_eqb a 0x51 h ∙ rw (eq-eqb (length (a ∷ b ∷ s)) 34 l) (sym (other_one a b h))

pub tap_length : (s : List ℕ) → (length s ≡ 34 → ⊥) → eqb (length s) 34 ≡ taproot s
unfolding taproot
tap_length s l = rw (ne_eqb (length s) 34 l)

pub ruleset taproots = (tap_is, tap_other, tap_length)

-- an entry of zero bytes
pub blank_by : (e : List ℕ) (o : Ordering) (b : Bool) → o ≡ order e (replicate script_entry 0) → b ≡ is_eq o → b ≡ blank e
unfolding blank same
blank_by e o b h q = q ∙ ap is_eq h

-- an entry with a script
pub filled_none : (e : List ℕ) → length e ≡ 0 → not (eqb (length e) 0) ≡ filled e
unfolding filled
filled_none [] h = refl
filled_none (b ∷ s) h = absurd (omega arith)

pub filled_yes : (e : List ℕ) (r : Bool) → (length e ≡ 0 → ⊥) → get_or e 0 0 ≡ 1 → r ≡ taproot (take (length e - 1) (drop 1 e)) → r ≡ filled e
unfolding filled
filled_yes [] r n h q = absurd (n refl)
filled_yes (b ∷ s) r n h q =
    let l : length (b ∷ s) - 1 ≡ length s = omega arith in
    q ∙ rw (l, take_all (length s) s (omega arith), eq-eqb b 1 h)

pub filled_no : (e : List ℕ) → (length e ≡ 0 → ⊥) → (get_or e 0 0 ≡ 1 → ⊥) → eqb (get_or e 0 0) 1 ≡ filled e
unfolding filled
filled_no [] n h = absurd (n refl)
filled_no (b ∷ s) n h = rw (ne_eqb b 1 h)

pub ruleset fills = (filled_none, filled_yes, filled_no)

-- by whether the output has a script
module _ (b : Bool) (e : List ℕ) (r : Bool) where
  pub fits_blank : b ≡ true → r ≡ blank e → r ≡ fits_by b e
  unfolding fits_by
  fits_blank h q = rw h q

  pub fits_filled : b ≡ false → r ≡ filled e → r ≡ fits_by b e
  unfolding fits_by
  fits_filled h q = rw h q

pub ruleset fits = (fits_blank, fits_filled)

-- this is what the definition says of an output with a script, or without
pub fits_is : (y : Found) (e : List ℕ) → entry_fits y e ≡ fits_by (present y) e
unfolding entry_fits fits_by present blank filled
fits_is absent [] = refl
fits_is absent (b ∷ e) = refl
fits_is (found v) e = refl
