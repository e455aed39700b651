-- A step at a place: laws for each way through it.
use Prim.Native.Nat.{ℕ, ◌+◌, ◌^◌, ◌<◌}
use mathlib.Core.Path.{◌≡◌, sym, ◌∙◌, ap}
use mathlib.Core.List.{List}
use native.Mathlib.Omega.{arith}
use lib.ListN.{length}
use mir.Syntax.{w64}
use mir.Val.{Fits}
use Rattle.format.specs.Reading.{limit}
use Rattle.format.specs.declared.PsbtError.{PsbtError}
use Rattle.format.specs.declared.PairEntry.{PairEntry}
use Rattle.parsed_map.specs.Fronts.{item_of, ItemRead}
use Rattle.std.specs.Prelude.{Ok, Err}
use Rattle.parsed_map.specs.declared.Item.TheVariants as I
use Rattle.parsed_map.proofs.Items.{over_in, one_in}
use Rattle.psbt.specs.Steps.{Places, step_by, step_at}
use Rattle.parsed_map.specs.declared.Item.TheVariants.{Over, One}

-- the limit fits the words of an entry: the one place where its number matters
pub limit_fits : limit < 2 ^ 32
unfolding limit
limit_fits = omega arith

module _ (s last : List ℕ) (at k : ℕ) (o : ItemRead) (is : o ≡ item_of k last s) where
  at_item : (y : ItemRead) → o ≡ y → step_at s last at k ≡ step_by at y
  unfolding step_at
  at_item y e = ap (step_by at) (sym is ∙ e)

  pub step_stop : (e : PsbtError) → o ≡ Err e → Err e ≡ step_at s last at k
  unfolding step_by
  step_stop e h = sym (at_item (Err e) h)

  module _ (u : ℕ) (h : o ≡ Ok (I.Over u)) where
    pub step_over : Ok (Over (at + u)) ≡ step_at s last at k
    unfolding step_by
    step_over = sym (at_item (Ok (I.Over u)) h)

    pub over_fits : Places (length s) at → Fits w64 (at + u)
    over_fits p = record { fits = omega (arith, (over_in k last s o is u h).1, p.within, limit_fits) }

  module _ (e : PairEntry) (h : o ≡ Ok (I.One e)) where
    pub step_one : Ok (One (record { key = at + e.key; klen = e.klen; value = at + e.value; vlen = e.vlen })) ≡ step_at s last at k
    unfolding step_by
    step_one = sym (at_item (Ok (I.One e)) h)

    pub key_place : Places (length s) at → Fits w64 (at + e.key)
    key_place p = let i = one_in k last s o is e h in record { fits = omega (arith, i.ends, i.inside, p.within, limit_fits) }

    pub value_place : Places (length s) at → Fits w64 (at + e.value)
    value_place p = let i = one_in k last s o is e h in record { fits = omega (arith, i.inside, p.within, limit_fits) }

pub ruleset steps = (step_stop, step_over, over_fits, step_one, key_place, value_place)
