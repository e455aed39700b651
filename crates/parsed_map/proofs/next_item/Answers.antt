-- `parsed_map::next_item` meets its contract: the key, then the order, then the value.
use Rattle.std.proofs.Common.{rules}
use Rattle.format.proofs.Answers.{handed_on}
use Rattle.parsed_map.proofs.Fronts.{items}
use Rattle.parsed_map.proofs.next_item.Goals as goal

pub returns-in_err-used : goal.returns-in_err-used
returns-in_err-used c = handed_on _ _ c.in_err-used.field-0.0 c.from_residual.ensures.1 (search (rules, items, c.in_err-used.was))

pub overflow_add-key : goal.overflow_add-key
overflow_add-key c = search (rules, items, c.in_ok-used.was)

pub slice_bounds-check_order-end : goal.slice_bounds-check_order-end
slice_bounds-check_order-end c = search (rules, items)

pub returns-in_err-check_order-in-Key : goal.returns-in_err-check_order-in-Key
returns-in_err-check_order-in-Key c =
    handed_on _ _ c.in_err-check_order-in-Key.field-0.0 c.from_residual-in_err-check_order-in-Key.ensures.1
    (search (rules, items, c.in_ok-used.was, c.in_err-check_order-in-Key.was))

pub value_at-requires : goal.value_at-requires
value_at-requires c = search (rules, items, c.in_ok-used.was, c.in_ok-check_order-in-Key.was)

pub returns-in-Over : goal.returns-in-Over
returns-in-Over c = search (rules, items, c.in_ok-used.was)

pub returns-in_ok-check_order-in-Key : goal.returns-in_ok-check_order-in-Key
returns-in_ok-check_order-in-Key c = search (rules, items, c.in_ok-used.was, c.in_ok-check_order-in-Key.was)
