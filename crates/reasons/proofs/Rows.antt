-- Laws of a text's lines: where one begins and where it ends.
use mathlib.Core.Path.{◌≡◌, refl, sym, ◌∙◌, ap, subst}
use mathlib.Core.List.{List, [], ◌++◌, append-nil}
use Prim.Native.Nat.{ℕ, zero, suc, ◌+◌, ◌-◌, ◌≤◌, ◌<◌}
use native.Mathlib.Omega.{arith}
use native.Mathlib.Numerals.{add-one}
use borrow.Author.Tests.{eq-eqb, ne_eqb}
use lib.ListN.{length, take, drop, get_or, length-drop, drop_of_length-le}
use lib.Seq.{length-take-le, take_all, take-suc, drop-cons, append_snoc}
use Rattle.reasons.specs.Rows.{front, rest, behind, line, Begins, Ends}

-- so many lines are left to pass from byte i on
pub record Passing (s : List ℕ) (n i left : ℕ) : Type 0 where
  pub in_text : i ≤ length s
  pub is : behind left (drop i s) ≡ behind n s

behind_none : (n : ℕ) → behind n [] ≡ []
unfolding behind rest
behind_none zero = refl
behind_none (suc n) = behind_none n

rest_end : (s : List ℕ) (i : ℕ) → i < length s → get_or s i 0 ≡ 10 → rest (drop i s) ≡ drop (suc i) s
unfolding rest
rest_end s i h e = rw (drop-cons s i 0 h, eq-eqb (get_or s i 0) 10 e)

rest_byte : (s : List ℕ) (i : ℕ) → i < length s → (get_or s i 0 ≡ 10 → ⊥) → rest (drop i s) ≡ rest (drop (suc i) s)
unfolding rest
rest_byte s i h e = rw (drop-cons s i 0 h, ne_eqb (get_or s i 0) 10 e)

module _ (s : List ℕ) (n i left : ℕ) (p : Passing s n i left) where
  pub passed_all : length s ≤ i → Begins s n (length s)
  passed_all h =
      let e : drop i s ≡ [] = drop_of_length-le s h in
      let z : drop (length s) s ≡ [] = drop_of_length-le s (omega arith) in
      record { in_text = omega arith; is = z ∙ sym (behind_none left) ∙ ap (behind left) (sym e) ∙ p.is }

  pub passed : left ≡ 0 → Begins s n i
  unfolding behind
  passed z = record { in_text = p.in_text; is = rw z at p.is }

  module _ (h : i < length s) (z : left ≡ 0 → ⊥) where
    one_left : Passing s n i (suc (left - 1))
    one_left = let e : left ≡ suc (left - 1) = omega (arith, z) in subst (Passing s n i) e p

    pub pass_end : get_or s i 0 ≡ 10 → Passing s n (i + 1) (left - 1)
    unfolding behind
    pass_end e = record { in_text = omega arith; is = rw add-one (ap (behind (left - 1)) (sym (rest_end s i h e)) ∙ one_left.is) }

    pub pass_byte : (get_or s i 0 ≡ 10 → ⊥) → Passing s n (i + 1) left
    unfolding behind
    pass_byte e =
        let back : suc (left - 1) ≡ left = omega (arith, z) in
        subst (Passing s n (i + 1)) back (record { in_text = omega arith; is = rw add-one (ap (behind (left - 1)) (sym (rest_byte s i h e)) ∙ one_left.is) })

pub ruleset starts = (passed, pass_end, pass_byte)

-- the first i bytes are of the first line
pub record Along (s : List ℕ) (i : ℕ) : Type 0 where
  pub in_text : i ≤ length s
  pub is : take i s ++ front (drop i s) ≡ front s

module _ (s : List ℕ) (i : ℕ) (a : Along s i) where
  pub ends_text : length s ≤ i → Ends s (length s)
  unfolding front
  ends_text h =
      let e : i ≡ length s = omega (arith, a.in_text) in
      subst (Ends s) e (record { in_text = a.in_text; is = sym (append-nil (take i s)) ∙ (rw (drop_of_length-le s h) at a.is) })

  module _ (h : i < length s) where
    pub ends_line : get_or s i 0 ≡ 10 → Ends s i
    unfolding front
    ends_line e = record { in_text = a.in_text; is = sym (append-nil (take i s)) ∙ (rw (drop-cons s i 0 h, eq-eqb (get_or s i 0) 10 e) at a.is) }

    pub along_more : (get_or s i 0 ≡ 10 → ⊥) → Along s (i + 1)
    unfolding front
    along_more e =
        record {
          in_text = omega arith;
          is = rw (add-one, take-suc s i 0 h)
              (append_snoc (take i s) (get_or s i 0) _ ∙ (rw (drop-cons s i 0 h, ne_eqb (get_or s i 0) 10 e) at a.is));
        }

pub ruleset ends = (ends_line, along_more)

-- a line's part of the text
pub line_length : (s : List ℕ) (l : ℕ) → Ends s l → l ≡ length (take l s)
line_length s l e = sym (length-take-le l s e.in_text)

pub line_is : (s r : List ℕ) (n a l : ℕ) → Begins s n a → r ≡ take (length s - a) (drop a s) → Ends r l → take l r ≡ line n s
unfolding line
line_is s r n a l b is e = e.is ∙ ap front (is ∙ take_all (length s - a) (drop a s) (omega (arith, length-drop a s)) ∙ b.is)

pub ruleset lines = (line_length, line_is)
