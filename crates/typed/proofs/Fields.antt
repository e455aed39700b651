-- Laws of typed fields over the one lookup.
use mathlib.Core.Path.{◌≡◌, ◌∙◌, ap}
use mathlib.Core.Bool.{true}
use mathlib.Core.List.{List, []}
use Prim.Native.Nat.{ℕ, ◌≤◌}
use native.Mathlib.Omega.{arith}
use borrow.Author.Tests.{eqb-true}
use lib.Dec.{eqb}
use Rattle.format.specs.Keys.{key_of}
use Rattle.format.specs.Tables.{Held, no, holds}
use Rattle.format.specs.Lookups.{Length, exactly, length_fits, of_length_def, asked, place, number_at}
use Rattle.format.specs.Fields.{part_field_def, number_field}
use Rattle.format.specs.Told.{told_looked, told_numbered}
use Rattle.format.specs.declared.MapEntry.{MapEntry}
use Rattle.format.specs.declared.PsbtError.{PsbtError}
use Rattle.format.specs.declared.PsbtError.TheVariants.{BadValue}
use Rattle.format.specs.Answers.{Looked, Numbered}
use Rattle.std.specs.Prelude.{Ok, Err, Some, None}
use Rattle.format.proofs.Tests.{pick_by}
use Rattle.fitness.specs.Fits.{entries_of, held_of, Fit}
use Rattle.fitness.proofs.Maps.{held_ok, held_err}
use Rattle.lookup.specs.Finds.{length_of, Short}
use Rattle.lookup.specs.declared.Wanted.TheVariants as W

-- a value of w bytes has w bytes
refused_short : (e : PsbtError) → Short (Err e)
refused_short e = record { few = λ p q. let z : ◌≡◌ {A = ℕ} 0 1 = cc in absurd (omega arith) }

of_short : (w : ℕ) (o : Looked) → w ≤ 8 → Short (of_length_def (exactly w) o)
unfolding of_length_def length_fits
of_short w (Err e) h = refused_short e
of_short w (Ok None) h = record { few = λ p q. let z : ◌≡◌ {A = ℕ} 0 1 = cc in absurd (omega arith) }
of_short w (Ok (Some p)) h =
    pick_by Short (eqb p.len w) _ _ (λ q. record {
      few = λ x e. let y : p ≡ x = cc in let k : p.len ≤ 8 = omega (arith, eqb-true p.len w q) in rw
          (← y) k;
    }) (λ q. refused_short BadValue)

field_short : (t w : ℕ) (f : List ℕ) (h : Held) → w ≤ 8 → Short (part_field_def t (exactly w) f h)
unfolding part_field_def asked
field_short t w f (no e) k = refused_short e
field_short t w f (holds es) k = of_short w (place f (key_of t []) es) k

pub part_field : (t : ℕ) (l : Length) (f : List ℕ) (h : Held) (r : Looked) → r ≡ asked true l f (key_of t []) h → r ≡ part_field_def t l f h
unfolding part_field_def
part_field t l f h r e = e

module _ (t w : ℕ) (f : List ℕ) (h : Held) (o : Looked) (is : o ≡ part_field_def t (length_of (W.Exactly w)) f h) where
  pub number_short : w ≤ 8 → Short o
  unfolding length_of
  number_short k = rw is (field_short t w f h k)

  pub number_field_lem : (r : Numbered) → r ≡ number_at f o → r ≡ number_field t w f h
  unfolding number_field length_of
  number_field_lem r e = e ∙ ap (number_at f) is

pub ruleset fields = (part_field, number_short, number_field_lem)

-- a field, by what the map is
module _ (t : ℕ) (f P : List ℕ) (fit : Fit) (h : Held) (q : held_of P fit ≡ h) where
  module _ (e : PsbtError) (x : fit ≡ Err e) where
    pub part_refused : (l : Length) → told_looked (Err e) ≡ told_looked (part_field_def t l f h)
    unfolding part_field_def asked
    part_refused l = ap (λ (k : Held). told_looked (part_field_def t l f k)) (held_err P fit h q e x)

    pub number_refused : (w : ℕ) → told_numbered (Err e) ≡ told_numbered (number_field t w f h)
    unfolding number_field part_field_def asked number_at
    number_refused w = ap (λ (k : Held). told_numbered (number_field t w f k)) (held_err P fit h q e x)

  module _ (m : MapEntry) (x : fit ≡ Ok m) where
    pub part_is : (l : Length) (r : Looked) → r ≡ part_field_def t l f (holds (entries_of P m)) → told_looked r ≡ told_looked (part_field_def t l f h)
    part_is l r e = ap told_looked (e ∙ ap (part_field_def t l f) (held_ok P fit h q m x))

    pub number_is : (w : ℕ) (r : Numbered) → r ≡ number_field t w f (holds (entries_of P m)) → told_numbered r ≡ told_numbered (number_field t w f h)
    number_is w r e = ap told_numbered (e ∙ ap (number_field t w f) (held_ok P fit h q m x))

pub ruleset asked_of = (part_refused, number_refused, part_is, number_is)
