-- `parsed_map::check_order` meets its contract: one answer for each order.
use Rattle.std.proofs.Common.{rules}
use Rattle.parsed_map.proofs.Fronts.{order_rules}
use Rattle.parsed_map.proofs.check_order.Goals as goal

pub returns-in-Less : goal.returns-in-Less
returns-in-Less c = search (rules, order_rules)

pub returns-in-Equal : goal.returns-in-Equal
returns-in-Equal c = search (rules, order_rules)

pub returns-in-Greater : goal.returns-in-Greater
returns-in-Greater c = search (rules, order_rules)
