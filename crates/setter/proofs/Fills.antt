-- Laws of writing: one entry, all entries one after the other, and the table that they leave.
use Rattle.std.proofs.Common.{Option, Some, None}
use mathlib.Core.Path.{◌≡◌, refl, sym, ◌∙◌, ap, ap₂}
use mathlib.Core.Bool.{Bool, true, false}
use mathlib.Core.List.{List, [], ◌∷◌, ◌++◌}
use Prim.Native.Nat.{ℕ, zero, suc, ◌+◌, ◌-◌, ◌*◌, ◌/◌, ◌≤◌, ◌<◌}
use native.Mathlib.Omega.{arith}
use borrow.Author.Tests.{le-leb, lt-leb, leb-true, eqb-true}
use lib.Dec.{eqb}
use lib.ListN.{length, drop, replicate, length-append}
use Rattle.format.specs.Tests.{keep_if, only, every}
use Rattle.format.specs.Scripts.{script_in, taproot, named, entry_for, set_out_def}
use Rattle.format.specs.declared.PsbtError.TheVariants.{NoRoom}
use Rattle.format.specs.declared.State.{State}
use Rattle.format.specs.declared.Assignment.{Assignment}
use Rattle.std.specs.Prelude.{Ok, Err}
use Rattle.format.proofs.Tests.{and_left, and_right}
use Rattle.writer.specs.Writes.{wrote}
use Rattle.writer.proofs.Writes.{wrote_append, wrote_front, wrote_long, wrote_none}
use Rattle.setter.specs.Records.{lies, sound, first_of}
use Rattle.setter.specs.Fills.{entries_from, state_after, filled_for, Giving, Sound, Ready}

-- what all pass, those that are kept pass
every_keep : (p : Assignment → Bool) (b : Bool) (x : Assignment) (xs : List Assignment) → p x ≡ true → every p xs ≡ true → every p (keep_if b x xs) ≡ true
unfolding every
every_keep p true x xs h k = rw (h, k)
every_keep p false x xs h k = k

every_only : (p q : Assignment → Bool) (xs : List Assignment) → every p xs ≡ true → every p (only q xs) ≡ true
unfolding every only
every_only p q [] h = refl
every_only p q (x ∷ xs) h = every_keep p (q x) x (only q xs) (and_left (p x) (every p xs) h) (every_only p q xs (and_right (p x) (every p xs) h))

-- a script that is sound lies in the buffer and takes 34 bytes
module _ (buffer : List ℕ) (a : Assignment) (h : sound buffer a ≡ true) where
  sound_lies : a.start + a.len ≤ length buffer
  unfolding sound lies
  sound_lies = leb-true (a.start + a.len) (length buffer) (and_left (lies buffer a) (taproot (script_in buffer a)) h)

  sound_long : length (script_in buffer a) ≡ 34
  unfolding sound taproot
  sound_long =
      eqb-true (length (script_in buffer a)) 34
      (and_left (eqb (length (script_in buffer a)) 34) _ (and_right (lies buffer a) (taproot (script_in buffer a)) h))

-- an entry takes 35 bytes
entry_by_lem : (buffer : List ℕ) (xs : List Assignment) → every (sound buffer) xs ≡ true → length (entry_for buffer xs) ≡ 35
unfolding entry_for every
entry_by_lem buffer [] h = refl
entry_by_lem buffer (a ∷ xs) h = ap suc (sound_long buffer a (and_left (sound buffer a) (every (sound buffer) xs) h))

pub named_sound : (buffer : List ℕ) (xs : List Assignment) (i : ℕ) → Sound buffer xs → every (sound buffer) (named i xs) ≡ true
unfolding named
named_sound buffer xs i k = every_only (sound buffer) (λ a. eqb a.output i) xs k.all

entry_long : (buffer : List ℕ) (xs : List Assignment) (i : ℕ) → Sound buffer xs → length (entry_for buffer (named i xs)) ≡ 35
entry_long buffer xs i k = entry_by_lem buffer (named i xs) (named_sound buffer xs i k)

entries_long : (buffer : List ℕ) (xs : List Assignment) (i n : ℕ) → Sound buffer xs → length (entries_from buffer xs i n) ≡ 35 * n
unfolding entries_from
entries_long buffer xs i zero k = refl
entries_long buffer xs i (suc n) k =
    length-append (entry_for buffer (named i xs)) (entries_from buffer xs (i + 1) n)
    ∙ (omega (arith, entry_long buffer xs i k, entries_long buffer xs (i + 1) n k))

-- the entry of an output, by the first assignment that names it
nobody_entry : (buffer : List ℕ) (xs : List Assignment) → first_of xs ≡ None → entry_for buffer xs ≡ replicate 35 0
unfolding entry_for first_of
nobody_entry buffer [] e = refl
nobody_entry buffer (a ∷ xs) e = let z : ◌≡◌ {A = ℕ} 0 1 = cc in absurd (omega arith)

by_entry : (buffer : List ℕ) (xs : List Assignment) (a : Assignment) → first_of xs ≡ Some a → entry_for buffer xs ≡ 1 ∷ script_in buffer a
unfolding entry_for first_of
by_entry buffer [] a e = let z : ◌≡◌ {A = ℕ} 0 1 = cc in absurd (omega arith)
by_entry buffer (x ∷ xs) a e = let k : x ≡ a = cc in rw k

by_sound : (p : Assignment → Bool) (xs : List Assignment) (a : Assignment) → every p xs ≡ true → first_of xs ≡ Some a → p a ≡ true
unfolding every first_of
by_sound p [] a h e = let z : ◌≡◌ {A = ℕ} 0 1 = cc in absurd (omega arith)
by_sound p (x ∷ xs) a h e = let k : x ≡ a = cc in rw k at (and_left (p x) (every p xs) h)

-- an entry with a script
module _ (T : List ℕ) (at : ℕ) (buffer : List ℕ) (a : Assignment) (k : Giving T at buffer a) where
  pub given_lies : a.start + a.len ≤ length buffer
  given_lies = sound_lies buffer a k.given

  module _ (s : List ℕ) (q : s ≡ script_in buffer a) where
    pub given_room : at + (1 + length s) ≤ length T
    given_room = omega (arith, k.room, ap length q ∙ sound_long buffer a k.given)

    pub given_is : (T₁ : List ℕ) → T₁ ≡ wrote T at (1 ∷ s) → T₁ ≡ wrote T at (1 ∷ script_in buffer a)
    given_is T₁ w = w ∙ ap (λ (x : List ℕ). wrote T at (1 ∷ x)) q

pub ruleset puts_given = (given_lies, given_room, given_is)

module _ (T : List ℕ) (i : ℕ) (buffer : List ℕ) (xs : List Assignment) (k : Ready T (i * 35 + 35) buffer xs) where
  module _ (o : Option Assignment) (is : o ≡ first_of (named i xs)) where
    pub entry_none : o ≡ None → (T₁ : List ℕ) → T₁ ≡ wrote T (i * 35) (replicate 35 0) → T₁ ≡ wrote T (i * 35) (entry_for buffer (named i xs))
    entry_none e T₁ w = w ∙ ap (wrote T (i * 35)) (sym (nobody_entry buffer (named i xs) (sym is ∙ e)))

    module _ (a : Assignment) (e : o ≡ Some a) where
      pub entry_giving : Giving T (i * 35) buffer a
      entry_giving = record { room = k.room; given = by_sound (sound buffer) (named i xs) a (named_sound buffer xs i k.sounds) (sym is ∙ e) }

      pub entry_is : (T₁ : List ℕ) → T₁ ≡ wrote T (i * 35) (1 ∷ script_in buffer a) → T₁ ≡ wrote T (i * 35) (entry_for buffer (named i xs))
      entry_is T₁ w = w ∙ ap (wrote T (i * 35)) (sym (by_entry buffer (named i xs) a (sym is ∙ e)))

pub ruleset puts_entry = (entry_none, entry_giving, entry_is)

-- the entries still to be written, written from here, give the whole
pub record Filling (T₀ : List ℕ) (n : ℕ) (xs : List Assignment) (buffer T : List ℕ) (i : ℕ) : Type 0 where
  pub long : length T ≡ length T₀
  pub less : i ≤ n
  pub is : wrote T (i * 35) (entries_from buffer xs i (n - i)) ≡ wrote T₀ 0 (entries_from buffer xs 0 n)

pub fill_first : (T : List ℕ) (n : ℕ) (xs : List Assignment) (buffer : List ℕ) → Filling T n xs buffer T 0
fill_first T n xs buffer = record { long = refl; less = omega arith; is = let q : n - 0 ≡ n = omega arith in rw q }

module _ (T₀ : List ℕ) (n : ℕ) (xs : List Assignment) (buffer T : List ℕ) (i : ℕ) (f : Filling T₀ n xs buffer T i) where
  pub fill_done : n ≤ i → T ≡ wrote T₀ 0 (entries_from buffer xs 0 n)
  unfolding entries_from
  fill_done h =
      let q : n - i ≡ 0 = omega arith in
      sym (wrote_none T (i * 35)) ∙ sym (ap (λ (m : ℕ). wrote T (i * 35) (entries_from buffer xs i m)) q) ∙ f.is

  module _ (k : Ready T₀ (n * 35) buffer xs) (h : i < n) where
    pub fill_more : (T₁ : List ℕ) → T₁ ≡ wrote T (i * 35) (entry_for buffer (named i xs)) → Filling T₀ n xs buffer T₁ (i + 1)
    unfolding entries_from
    fill_more T₁ w =
        let e : List ℕ = entry_for buffer (named i xs) in
        let r : List ℕ = entries_from buffer xs (i + 1) (n - (i + 1)) in
        let p : (i + 1) * 35 ≡ i * 35 + length e = omega (arith, entry_long buffer xs i k.sounds) in
        let q : n - i ≡ suc (n - (i + 1)) = omega arith in
        record {
          long = wrote_long T T₁ (i * 35) e w ∙ f.long;
          less = omega arith;
          is =
              ap₂ (λ (x : List ℕ) (j : ℕ). wrote x j r) w p
              ∙ wrote_append T (i * 35) e r
              ∙ sym (ap (λ (m : ℕ). wrote T (i * 35) (entries_from buffer xs i m)) q)
              ∙ f.is;
        }

pub ruleset fillings = (fill_first, fill_done, fill_more)

-- the table, by whether it has room
module _ (n : ℕ) (buffer : List ℕ) (t : State) (T : List ℕ) (xs : List Assignment) where
  pub filled_none : length T / 35 < n → set_out_def (Err NoRoom) T ≡ filled_for n buffer t T xs
  unfolding filled_for
  filled_none h = rw (lt-leb (35 * n) (length T) (omega arith))

  module _ (k : Sound buffer xs) (h : n ≤ length T / 35) where
    pub filled_is : (T₁ : List ℕ) (r : State) → T₁ ≡ wrote T 0 (entries_from buffer xs 0 n) → r ≡ state_after t n
        → set_out_def (Ok r) T₁ ≡ filled_for n buffer t T xs
    unfolding filled_for
    filled_is T₁ r w e =
        let m : 35 * n ≤ length T = omega arith in
        let x : length (entries_from buffer xs 0 n) ≡ 35 * n = entries_long buffer xs 0 n k in
        let y : T₁ ≡ entries_from buffer xs 0 n ++ drop (35 * n) T =
        w ∙ wrote_front T (entries_from buffer xs 0 n) (omega arith) ∙ ap (λ (j : ℕ). entries_from buffer xs 0 n ++ drop j T) x
        in
        rw (le-leb (35 * n) (length T) m) (ap₂ (λ (u : State) (v : List ℕ). set_out_def (Ok u) v) e y)

pub ruleset fills = (filled_none, filled_is)
