-- Laws of a witness UTXO.
use mathlib.Core.Path.{◌≡◌, sym, ◌∙◌, ap}
use mathlib.Core.List.{List, []}
use Prim.Native.Nat.{ℕ, ◌+◌, ◌^◌, ◌≤◌, ◌<◌}
use native.Mathlib.Omega.{arith}
use borrow.Author.Tests.{le-leb, lt-leb, eq-eqb, ne_eqb}
use lib.ListN.{length, drop, get_or, length-take, length-drop}
use Rattle.format.specs.Tables.{Held}
use Rattle.format.specs.Fields.{utxo_of, utxo_by, utxo_part, witness_utxo_def, get_witness_utxo}
use Rattle.format.specs.Told.{told_looked, told_utxo}
use Rattle.format.proofs.Told.{looked_one, utxo_one}
use Rattle.format.specs.declared.PsbtError.{PsbtError}
use Rattle.format.specs.declared.PsbtError.TheVariants.{BadValue}
use Rattle.format.specs.declared.Part.{Part}
use Rattle.format.specs.declared.WitnessUtxo.{WitnessUtxo}
use Rattle.format.specs.Answers.{utxo_with, Looked, Utxo}
use Rattle.std.specs.Prelude.{Ok, Err, Option, Some, None}
use Rattle.fitness.specs.Parts.{bytes_at}
use Rattle.wire.specs.Leads.{lead}
use Rattle.witness_utxo.specs.Placed.{Placed}

-- a witness UTXO, by its tests
module _ (s : ℕ) (v : List ℕ) where
  pub utxo_short : length v < 9 → Err BadValue ≡ utxo_of s v
  unfolding utxo_of
  utxo_short h = rw (lt-leb 9 (length v) h)

  module _ (h : 9 ≤ length v) where
    pub utxo_long : 252 < get_or v 8 0 → Err BadValue ≡ utxo_of s v
    unfolding utxo_of
    utxo_long k = rw (le-leb 9 (length v) h, lt-leb (get_or v 8 0) 252 k)

    module _ (k : get_or v 8 0 ≤ 252) where
      pub utxo_other : (length v ≡ 9 + get_or v 8 0 → ⊥) → Err BadValue ≡ utxo_of s v
      unfolding utxo_of
      utxo_other e = rw (le-leb 9 (length v) h, le-leb (get_or v 8 0) 252 k, ne_eqb (length v) (9 + get_or v 8 0) e)

      pub utxo_is : length v ≡ 9 + get_or v 8 0 → (x : ℕ) → x ≡ lead 8 v → Ok (Some (utxo_with x (s + 9) (get_or v 8 0))) ≡ utxo_of s v
      unfolding utxo_of lead
      utxo_is e x q = rw (le-leb 9 (length v) h, le-leb (get_or v 8 0) 252 k, eq-eqb (length v) (9 + get_or v 8 0) e, q)

pub ruleset utxos = (utxo_short, utxo_long, utxo_other, utxo_is)

-- by what was found
module _ (f : List ℕ) (o : Option Part) where
  pub by_absent : o ≡ None → ◌≡◌ {A = Utxo} (Ok None) (utxo_by f (Ok o))
  unfolding utxo_by
  by_absent q = rw q

  module _ (p : Part) (q : o ≡ Some p) (v : List ℕ) (is : v ≡ bytes_at f p.start p.len) where
    pub by_placed : length f < 2 ^ 64 → p.start < 2 ^ 64 → Placed p.start v
    unfolding bytes_at
    by_placed l k = record { fits = omega (arith, ap length is ∙ length-take p.len (drop p.start f), length-drop p.start f) }

    pub by_found : (r : Utxo) → r ≡ utxo_of p.start v → r ≡ utxo_by f (Ok o)
    unfolding utxo_by bytes_at
    by_found r e = e ∙ ap (utxo_of p.start) is ∙ sym (rw q)

pub ruleset utxos_by = (by_absent, by_placed, by_found)

-- its script
module _ (f : List ℕ) (o : Utxo) where
  pub script_refused : (e : PsbtError) → o ≡ Err e → [] ≡ utxo_part f o
  unfolding utxo_part
  script_refused e q = rw q

  pub script_absent : o ≡ Ok None → [] ≡ utxo_part f o
  unfolding utxo_part
  script_absent q = rw q

  pub script_found_lem : (x : Option WitnessUtxo) → o ≡ Ok x → (u : WitnessUtxo) → x ≡ Some u → (v : List ℕ) → v ≡ bytes_at f u.start u.len → v ≡ utxo_part f o
  unfolding utxo_part bytes_at
  script_found_lem x q u w v e = e ∙ sym (rw (q, w))

pub ruleset scripts = (script_refused, script_absent, script_found_lem)

-- of the lookup's answer
module _ (f : List ℕ) (h : Held) (o : Looked) (q : told_looked o ≡ told_looked (witness_utxo_def f h)) where
  pub utxo_refused : (e : PsbtError) → o ≡ Err e → told_utxo (Err e) ≡ told_utxo (get_witness_utxo f h)
  unfolding get_witness_utxo utxo_by
  utxo_refused e x = ap (λ (y : Looked). told_utxo (utxo_by f y)) (sym x ∙ looked_one o (witness_utxo_def f h) q)

  pub utxo_of_lem : (found : Option Part) → o ≡ Ok found → (r : Utxo) → r ≡ utxo_by f (Ok found) → told_utxo r ≡ told_utxo (get_witness_utxo f h)
  unfolding get_witness_utxo
  utxo_of_lem found x r e = ap told_utxo (e ∙ ap (utxo_by f) (sym x ∙ looked_one o (witness_utxo_def f h) q))

pub ruleset looked_up = (utxo_refused, utxo_of_lem)

pub script_of_lem : (f v : List ℕ) (x y : Utxo) → v ≡ utxo_part f x → told_utxo x ≡ told_utxo y → v ≡ utxo_part f y
script_of_lem f v x y e q = e ∙ ap (utxo_part f) (utxo_one x y q)
