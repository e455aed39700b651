-- `MapKind::from` meets its contract: each case has its number.
use Rattle.std.proofs.Common.{rules, sym, ap}
use Rattle.format.specs.Rules.{kind_number}
use Rattle.format.proofs.MapKinds.{kind_high}
use Rattle.format.proofs.MapKindFromU8.from.Goals as goal

pub returns-in-0 : goal.returns-in-0
unfolding kind_number
returns-in-0 c = sym (ap kind_number c.in-0.is)

pub returns-in-1 : goal.returns-in-1
unfolding kind_number
returns-in-1 c = sym (ap kind_number c.in-1.is)

pub returns-in-2 : goal.returns-in-2
unfolding kind_number
returns-in-2 c = sym (ap kind_number c.in-2.is)

pub returns-in_default : goal.returns-in_default
returns-in_default c = search (rules, kind_high, c.in_default)
