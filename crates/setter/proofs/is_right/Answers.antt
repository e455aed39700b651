-- `setter::is_right` meets its contract.
use Rattle.std.proofs.Common.{◌∙◌}
use Rattle.setter.proofs.Rights.{right_cut, right_late, right_not, right_by}
use Rattle.setter.proofs.is_right.Goals as goal

pub returns-then-all_allowed : goal.returns-then-all_allowed
returns-then-all_allowed g c = c.all_served.ensures ∙ right_by _ _ _ _ _ _ _ _ (cc) (cc) (cc)

pub returns-else-all_allowed : goal.returns-else-all_allowed
returns-else-all_allowed g c = c.if-all_allowed.false ∙ right_not _ _ _ _ _ _ _ _ (cc) (cc) (cc)

pub returns-else-is_settable : goal.returns-else-is_settable
returns-else-is_settable g c = c.if-is_settable.false ∙ right_late _ _ _ _ _ _ _ _ (cc) (cc)

pub returns-else-is_whole : goal.returns-else-is_whole
returns-else-is_whole g c = c.if-is_whole.false ∙ right_cut _ _ _ _ _ _ _ _ (cc)
