-- `wire::le` meets its contract: each byte from the back is the next of the slice turned round.
use Rattle.std.proofs.Common.{arith}
use Rattle.std.proofs.lemmas.List.{length_push}
use Rattle.std.proofs.lemmas.Iterator.Adapters.{YieldsList-from_rev_slice}
use Rattle.std.proofs.lemmas.Iterator.Consumers.{YieldsList-turn}
use Rattle.wire.proofs.Leads.{le_none, le_in, le_mul, le_add, le_more}
use Rattle.wire.proofs.le.Goals as goal

pub loop-b-init : goal.loop-b-init
loop-b-init c = (omega arith, le_none c.args.s.now)

pub overflow_mul-v : goal.overflow_mul-v
overflow_mul-v c =
    let t = YieldsList-turn (YieldsList-from_rev_slice c.args.s.now cc) c.loop-b.yielded _ c.loop-b.yielded_by _ _ c.in-Some.field-0
    c.in-Some.is c.next.ensures.steps in
    le_mul _ _ _ _ c.loop-b.invariant.1 c.requires c.type_inv.s t

pub overflow_add-v : goal.overflow_add-v
overflow_add-v c =
    let t = YieldsList-turn (YieldsList-from_rev_slice c.args.s.now cc) c.loop-b.yielded _ c.loop-b.yielded_by _ _ c.in-Some.field-0
    c.in-Some.is c.next.ensures.steps in
    le_add _ _ _ _ c.loop-b.invariant.1 c.requires c.type_inv.s t

pub loop-b-preserved : goal.loop-b-preserved
loop-b-preserved c =
    let t = YieldsList-turn (YieldsList-from_rev_slice c.args.s.now cc) c.loop-b.yielded _ c.loop-b.yielded_by _ _ c.in-Some.field-0
    c.in-Some.is c.next.ensures.steps in
    let h = le_in _ _ _ _ c.loop-b.invariant.1 c.requires c.type_inv.s t in
    let n = length_push c.loop-b.yielded c.in-Some.field-0 in
    (omega (arith, h, n), rw n (le_more _ _ _ _ c.loop-b.invariant.1 c.requires c.type_inv.s t))
