-- `parsed_map::value_at` meets its contract: the value is taken behind its length, and both lengths and the value decide.
use Rattle.std.proofs.Common.{rules}
use Rattle.format.proofs.Answers.{handed_on}
use Rattle.parsed_map.proofs.Fronts.{values}
use Rattle.parsed_map.proofs.value_at.Goals as goal

pub returns-in_err-value : goal.returns-in_err-value
returns-in_err-value c = handed_on _ _ c.in_err-value.field-0.0 c.from_residual.ensures.1 (search (rules, values, c.in_err-value.was))

pub slice_bounds-front-count : goal.slice_bounds-front-count
slice_bounds-front-count c = search (rules, values, c.in_ok-value.was)

pub slice_bounds-front-start : goal.slice_bounds-front-start
slice_bounds-front-start c = search (rules, values)

pub slice_bounds-front-end : goal.slice_bounds-front-end
slice_bounds-front-end c = search (rules, values)

pub returns-in_err-field_rule : goal.returns-in_err-field_rule
returns-in_err-field_rule c =
    handed_on _ _ c.in_err-field_rule.field-0.0 c.from_residual-in_err-field_rule.ensures.1 (search (rules, values, c.in_ok-value.was, c.in_err-field_rule.was))

pub returns : goal.returns
returns c = search (rules, values, c.in_ok-value.was, c.in_ok-field_rule.was)
