-- When assignments are right for the outputs, as it is asked one output at a time.
use Rattle.std.specs.Prelude.{ℕ, ◌<◌, Bool, false, ◌&&◌, List, length, eqb}
use Rattle.format.specs.Tests.{pick}
use Rattle.format.specs.Content.{present}
use Rattle.format.specs.Scripts.{Out, named, Given, whole, cut_short, right_for, settable}
use Rattle.format.specs.declared.Psbt.{Psbt}
use Rattle.format.specs.declared.State.{State}
use Rattle.format.specs.declared.Assignment.{Assignment}
use Rattle.all_maps_fit.specs.Alls.{AllFit}

-- output number i is named once where it has no script 04, and never where it has one
unfoldable pub served_at : List Assignment → ℕ → Out → Bool
served_at xs i o = eqb (length (named i xs)) (pick (present o.script) 0 1)

-- some assignments as they are given, by whether their list ends behind the last of them
abbrev pub given_by : Bool → List Assignment → Given
given_by complete xs = pick complete (whole xs) cut_short

-- the assignments that are given are whole, may still be set, and are right
unfoldable pub right_given : List Out → List ℕ → State → Given → Bool
right_given outs buffer t cut_short = false
right_given outs buffer t (whole xs) = settable t && right_for outs buffer xs

-- output number i, where all maps are fit
pub record OutputOf (f P M : List ℕ) (s : Psbt) (i : ℕ) : Type 0 where
  pub fits : AllFit f P M s
  pub less : i < s.outputs
