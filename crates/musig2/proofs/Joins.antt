-- Laws of lookups by keys that are put together of parts.
use mathlib.Core.Path.{◌≡◌, refl, sym, ◌∙◌, ap}
use mathlib.Core.Bool.{Bool, true, false, ◌||◌}
use mathlib.Core.List.{List, [], ◌++◌, append_assoc}
use Prim.Native.Nat.{ℕ, ◌+◌, ◌≤◌}
use native.Mathlib.Nat.{zero-add}
use native.Mathlib.Omega.{arith}
use borrow.Author.Tests.{eqb-true, eq-eqb, ne_eqb}
use lib.Dec.{eqb}
use lib.ListN.{length, take, drop, length-append}
use lib.Seq.{sets-eq, take_at, length-take-le}
use Rattle.format.specs.Keys.{key_of}
use Rattle.std.specs.Prelude.{Ok, Err}
use Rattle.format.specs.declared.MapEntry.{MapEntry}
use Rattle.format.specs.declared.PairEntry.{PairEntry}
use Rattle.format.specs.declared.PsbtError.{PsbtError}
use Rattle.format.specs.declared.PsbtError.TheVariants.{BadValue}
use Rattle.format.specs.Tables.{Held, holds}
use Rattle.format.specs.Lookups.{Length, exactly, key_list, asked}
use Rattle.format.specs.Fields.{leaf_fits, musig_lookup, input_participants, output_participants}
use Rattle.format.specs.Told.{told_looked}
use Rattle.format.specs.Answers.{Looked}
use Rattle.format.proofs.Tests.{and_left, and_right}
use Rattle.writer.specs.Writes.{wrote}
use Rattle.writer.proofs.Writes.{length_wrote, wrote_append}
use Rattle.fitness.specs.Fits.{entries_of, held_of, Fit}
use Rattle.fitness.proofs.Maps.{held_ok, held_err}
use Rattle.lookup.specs.Finds.{length_of}
use Rattle.lookup.specs.declared.Wanted.TheVariants as W
use Rattle.musig2.specs.Joined.{key_fits_def, musig_fits}

-- copies into an array keep its length, wherever they go
pub key_length : (K K₁ K₂ K₃ a b c : List ℕ) (x y z e : ℕ) → K₁ ≡ wrote K x a → K₂ ≡ wrote K₁ y b → K₃ ≡ wrote K₂ z c → length K ≡ 98 → e ≤ 98
    → e ≡ length (take e K₃)
key_length K K₁ K₂ K₃ a b c x y z e e₁ e₂ e₃ l h =
    let m = ap length e₁ ∙ length_wrote K x a in
    let n = ap length e₂ ∙ length_wrote K₁ y b in
    sym (length-take-le e K₃ (omega (arith, ap length e₃ ∙ length_wrote K₂ z c)))

-- three parts copied one after the other are the key
module _ (K K₁ K₂ K₃ a b c : List ℕ) (e₁ : K₁ ≡ wrote K 0 a) (e₂ : K₂ ≡ wrote K₁ (length a) b) (e₃ : K₃ ≡ wrote K₂ (length a + length b) c) where
  all_three : K₃ ≡ wrote K 0 ((a ++ b) ++ c)
  all_three =
      let n : length a + length b ≡ 0 + length (a ++ b) = omega (arith, length-append a b) in
      let two : K₂ ≡ wrote K 0 (a ++ b) =
      e₂ ∙ ap (λ (l : List ℕ). wrote l (length a) b) e₁ ∙ ap (λ (k : ℕ). wrote (wrote K 0 a) k b) (sym (zero-add (length a))) ∙ wrote_append K 0 a b in
      e₃ ∙ ap (λ (l : List ℕ). wrote l (length a + length b) c) two ∙ ap (λ (k : ℕ). wrote (wrote K 0 (a ++ b)) k c) n ∙ wrote_append K 0 (a ++ b) c

  module _ (h : length a + length b + length c ≤ 98) (l : length K ≡ 98) where
    key_is : take (length a + length b + length c) K₃ ≡ a ++ (b ++ c)
    unfolding wrote
    key_is =
        let n : length ((a ++ b) ++ c) ≡ length a + length b + length c = length-append (a ++ b) c ∙ ap (λ (k : ℕ). k + length c) (length-append a b) in
        let m : 0 + length ((a ++ b) ++ c) ≤ length K = omega (arith, h) in
        ap (take (length a + length b + length c)) (all_three ∙ sets-eq ((a ++ b) ++ c) K 0 m)
        ∙ take_at ((a ++ b) ++ c) (drop (0 + length ((a ++ b) ++ c)) K) (length a + length b + length c) n
        ∙ append_assoc a b c

    pub key_asked : (w : Length) (f : List ℕ) (t : ℕ) (x : Held) (r : Looked) → r ≡ asked true w f (key_of t (take (length a + length b + length c) K₃)) x
        → r ≡ asked true w f (key_of t (a ++ (b ++ c))) x
    key_asked w f t x r e = e ∙ ap (λ (k : List ℕ). asked true w f (key_of t k) x) key_is

pub ruleset joins = (key_length, key_asked, refl)

-- lengths that are right are short
leaf_short : (l : List ℕ) → leaf_fits l ≡ true → length l ≤ 32
unfolding leaf_fits
leaf_short l h = by (eqb (length l) 0) refl h
  where
    by : (b : Bool) → eqb (length l) 0 ≡ b → (b || eqb (length l) 32) ≡ true → length l ≤ 32
    by true q w = omega (arith, eqb-true (length l) 0 q)
    by false q w = omega (arith, eqb-true (length l) 32 w)

key_short : (a l : List ℕ) → key_fits_def a l ≡ true → length a + length l ≤ 65
unfolding key_fits_def
key_short a l h =
    let b = eqb (length a) 33 in
    omega (arith, eqb-true (length a) 33 (and_left b (leaf_fits l) h), leaf_short l (and_right b (leaf_fits l) h))

-- a list's key, which has no participant
pub list_short : (z a l : List ℕ) (ok : Bool) → z ≡ [] → ok ≡ key_fits_def a l → ok ≡ true → length z + length a + length l ≤ 98
list_short z a l ok n e q = rw n (omega (arith, key_short a l (sym e ∙ q)))

module _ (p a l : List ℕ) (ok : Bool) (e : ok ≡ musig_fits p a l) where
  module _ (q : ok ≡ true) where
    pub musig_short : length p + length a + length l ≤ 98
    unfolding musig_fits
    musig_short =
        let b = eqb (length p) 33 in
        let h = sym e ∙ q in
        omega (arith, eqb-true (length p) 33 (and_left b (key_fits_def a l) h), key_short a l (and_right b (key_fits_def a l) h))

    pub musig_is : (t w : ℕ) (f : List ℕ) (h : Held) (r : Looked) → r ≡ asked true (length_of (W.Exactly w)) f (key_of t (p ++ (a ++ l))) h → r
        ≡ musig_lookup t w f p a l h
    unfolding musig_lookup musig_fits key_fits_def length_of
    musig_is t w f h r k = k ∙ ap (λ (b : Bool). asked b (exactly w) f (key_of t (p ++ (a ++ l))) h) (sym q ∙ e)

  pub musig_unfit : ok ≡ false → (t w : ℕ) (f : List ℕ) (es : List PairEntry) → Err BadValue ≡ musig_lookup t w f p a l (holds es)
  unfolding musig_lookup musig_fits key_fits_def asked
  musig_unfit q t w f es = ap (λ (b : Bool). asked b (exactly w) f (key_of t (p ++ (a ++ l))) (holds es)) (sym q ∙ e)

pub ruleset musigs = (musig_short, musig_is, musig_unfit)

-- the tests of lengths
pub leaf_none : (l : List ℕ) → length l ≡ 0 → eqb (length l) 0 ≡ leaf_fits l
unfolding leaf_fits
leaf_none l h = rw (eq-eqb (length l) 0 h)

pub leaf_some : (l : List ℕ) → (length l ≡ 0 → ⊥) → eqb (length l) 32 ≡ leaf_fits l
unfolding leaf_fits
leaf_some l h = rw (ne_eqb (length l) 0 h)

pub key_right : (a l : List ℕ) (r : Bool) → length a ≡ 33 → r ≡ leaf_fits l → r ≡ key_fits_def a l
unfolding key_fits_def
key_right a l r h e = rw (eq-eqb (length a) 33 h) e

pub key_wrong : (a l : List ℕ) → (length a ≡ 33 → ⊥) → eqb (length a) 33 ≡ key_fits_def a l
unfolding key_fits_def
key_wrong a l h = rw (ne_eqb (length a) 33 h)

pub musig_right : (p a l : List ℕ) (r : Bool) → length p ≡ 33 → r ≡ key_fits_def a l → r ≡ musig_fits p a l
unfolding musig_fits
musig_right p a l r h e = rw (eq-eqb (length p) 33 h) e

pub musig_wrong : (p a l : List ℕ) → (length p ≡ 33 → ⊥) → eqb (length p) 33 ≡ musig_fits p a l
unfolding musig_fits
musig_wrong p a l h = rw (ne_eqb (length p) 33 h)

pub ruleset key_lengths = (leaf_none, leaf_some, key_right, key_wrong, musig_right, musig_wrong)

-- by what the map is
module _ (f P : List ℕ) (fit : Fit) (h : Held) (q : held_of P fit ≡ h) where
  module _ (e : PsbtError) (x : fit ≡ Err e) where
    pub musig_refused : (t w : ℕ) (p a l : List ℕ) → told_looked (Err e) ≡ told_looked (musig_lookup t w f p a l h)
    unfolding musig_lookup asked
    musig_refused t w p a l = ap (λ (k : Held). told_looked (musig_lookup t w f p a l k)) (held_err P fit h q e x)

    pub input_refused : (a l : List ℕ) → told_looked (Err e) ≡ told_looked (input_participants f a l h)
    unfolding input_participants asked
    input_refused a l = ap (λ (k : Held). told_looked (input_participants f a l k)) (held_err P fit h q e x)

    pub output_refused : (a : List ℕ) → told_looked (Err e) ≡ told_looked (output_participants f a h)
    unfolding output_participants asked
    output_refused a = ap (λ (k : Held). told_looked (output_participants f a k)) (held_err P fit h q e x)

  module _ (m : MapEntry) (x : fit ≡ Ok m) where
    pub musig_of : (t w : ℕ) (p a l : List ℕ) (r : Looked) → r ≡ musig_lookup t w f p a l (holds (entries_of P m)) → told_looked r
        ≡ told_looked (musig_lookup t w f p a l h)
    musig_of t w p a l r e = ap told_looked (e ∙ ap (musig_lookup t w f p a l) (held_ok P fit h q m x))

    pub output_list : (a : List ℕ) (r : Looked) → r ≡ asked (eqb (length a) 33) (length_of W.KeyList) f (key_of 0x08 a) (holds (entries_of P m))
        → told_looked r ≡ told_looked (output_participants f a h)
    unfolding output_participants length_of
    output_list a r e = ap told_looked (e ∙ ap (output_participants f a) (held_ok P fit h q m x))

    module _ (a l : List ℕ) (ok : Bool) (k : ok ≡ key_fits_def a l) where
      pub input_unfit : ok ≡ false → told_looked (Err BadValue) ≡ told_looked (input_participants f a l h)
      unfolding input_participants key_fits_def asked
      input_unfit w =
          ap (λ (b : Bool). told_looked (asked b key_list f (key_of 0x1a (a ++ l)) (holds (entries_of P m)))) (sym w ∙ k)
          ∙ ap (λ (y : Held). told_looked (input_participants f a l y)) (held_ok P fit h q m x)

      pub input_list : ok ≡ true → (r : Looked) → r ≡ asked true (length_of W.KeyList) f (key_of 0x1a (a ++ l)) (holds (entries_of P m))
          → told_looked r ≡ told_looked (input_participants f a l h)
      unfolding input_participants key_fits_def length_of
      input_list w r e =
          ap told_looked (e ∙ ap (λ (b : Bool). asked b key_list f (key_of 0x1a (a ++ l)) (holds (entries_of P m))) (sym w ∙ k)
          ∙ ap (input_participants f a l) (held_ok P fit h q m x))

pub ruleset of_maps = (musig_refused, input_refused, output_refused, musig_of, output_list, input_unfit, input_list)
