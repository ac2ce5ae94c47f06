use Rattle.std.proofs.Common.{◌≡◌, sym, subst, Err}
use Rattle.std.proofs.lemmas.Result.{err_from_is_err_and}
use Rattle.fault_codes.specs.declared.code.Code.{Code}
use Rattle.query_meaning.specs.Operators.{all_nodes}
use Rattle.query_steps.proofs.Members.{nodes-end, not-all}
use Rattle.query_steps.proofs.sets.all_nodes.Goals as goal

pub returns-in_err-node_of-clause-fault : goal.returns-in_err-node_of-clause-fault
returns-in_err-node_of-clause-fault c =
    let p = err_from_is_err_and c.from_residual-in_err-node_of.result c.from_residual-in_err-node_of.ensures.1 in
    let P : Code → Type 0 = λ code. all_nodes c.args.code c.args.items.now ≡ Err code in
    let fails = not-all c.args.code c.args.items.now c.loop-item.item-index c.item-item.result c.loop-item-test.true c.item-item.is c.in_err-node_of.ensures.code.1 in
    rw (p.1, p.2) (subst P (sym c.in_err-node_of.ensures.code.0) fails)

pub returns-clause-nodes : goal.returns-clause-nodes
returns-clause-nodes c = nodes-end c.args.code _ _ _ c.loop-item-test.false c.loop-item.invariant
