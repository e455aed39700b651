-- Laws of keys without data: such a key is one byte, its type.
use mathlib.Core.Path.{◌≡◌, refl, sym, ◌∙◌, ap}
use mathlib.Core.Bool.{Bool, true, false}
use mathlib.Core.List.{List, [], ◌∷◌}
use Prim.Native.Nat.{ℕ}
use native.Mathlib.Omega.{arith}
use borrow.Author.Tests.{ne_eqb, eqb-true, eqb-false}
use lib.Dec.{eqb}
use lib.ListN.{length, get_or}
use Rattle.format.specs.Keys.{key_of, same}
use Rattle.format.proofs.Tests.{no_by}
use Rattle.format.proofs.Keys.{same_is, same_self}

bare_byte : (t x : ℕ) → eqb x t ≡ same (t ∷ []) (x ∷ [])
bare_byte t x = by (eqb x t) refl
  where
    by : (b : Bool) → eqb x t ≡ b → b ≡ same (t ∷ []) (x ∷ [])
    by true q = let e : x ≡ t = eqb-true x t q in rw e (sym (same_self (t ∷ [])))
    by false q = sym (no_by (same (t ∷ []) (x ∷ [])) (λ h. let e = same_is (t ∷ []) (x ∷ []) h in let f : x ≡ t = cc in eqb-false x t q f))

pub bare_one : (key : List ℕ) (t : ℕ) → length key ≡ 1 → eqb (get_or key 0 0) t ≡ same (key_of t []) key
unfolding key_of
bare_one [] t h = absurd (omega arith)
bare_one (x ∷ []) t h = bare_byte t x
bare_one (x ∷ y ∷ key) t h = absurd (omega arith)

pub bare_not : (key : List ℕ) (t : ℕ) → (length key ≡ 1 → ⊥) → false ≡ same (key_of t []) key
unfolding key_of
bare_not key t h = sym (no_by (same (t ∷ []) key) (λ q. h (ap length (sym (same_is (t ∷ []) key q)))))

pub bare_other : (key : List ℕ) (t : ℕ) → (length key ≡ 1 → ⊥) → eqb (length key) 1 ≡ same (key_of t []) key
bare_other key t h = ne_eqb (length key) 1 h ∙ bare_not key t h
