use Rattle.std.proofs.Common.{rules, ◌≤◌, ◌<◌, List, sym, subst, arith}
use Rattle.data_model.specs.Trees.{append, count}
use Rattle.pending.specs.Primitives.{PrimitiveTerm}
use Rattle.update_meaning.specs.Brought.{new_trees}
use Rattle.sessions.proofs.Expressions.{fails, beside_stored, among_new}
use Rattle.sessions.proofs.running.run_expression.Goals as goal

pub returns-in-Err-Code-clause-ran : goal.returns-in-Err-Code-clause-ran
returns-in-Err-Code-clause-ran c =
    let say = fails c.args.x.now c.args.forest.now in
    search (say, c.in-Err-Code.ensures.says, rules)

pub update-requires-clause-distinct : goal.update-requires-clause-distinct
update-requires-clause-distinct c = λ i.
    (let new = c.primitives_bring_new_nodes.ensures c.args.x.now c.args.forest.now _ c.facts.ensures c.in-Ok.ensures.outcome in
    let P : List PrimitiveTerm → Type 0 = λ ps. count i (append c.args.forest.now.trees (new_trees ps)) ≤ 1 in
    subst P (sym c.into_primitives.ensures) (beside_stored c.args.forest.now.trees c.in-Ok.outcome.run.shelf.own.trees (new_trees c.in-Ok.outcome.run.primitives) (λ j. (new j).0) i))

pub update-requires-clause-below : goal.update-requires-clause-below
update-requires-clause-below c = λ i l.
    (let new = c.primitives_bring_new_nodes.ensures c.args.x.now c.args.forest.now _ c.facts.ensures c.in-Ok.ensures.outcome in
    let P : List PrimitiveTerm → Type 0 = λ ps. 0 < count i (new_trees ps) in
    let k = subst P c.into_primitives.ensures l in
    let below = ((new i).1 (among_new c.in-Ok.outcome.run.shelf.own.trees (new_trees c.in-Ok.outcome.run.primitives) i k)).1 in
    let next = c.next-next.ensures in omega arith)

pub returns-clause-next : goal.returns-clause-next
returns-clause-next c =
    let limited = (c.identities_are_limited.ensures c.args.x.now c.args.forest.now _ c.in-Ok.ensures.outcome).1 in
    let next = c.next-next.ensures in
    let after = c.update.ensures.next in
    omega arith

pub update-requires-clause-later : goal.update-requires-clause-later
update-requires-clause-later c =
    let limited = (c.identities_are_limited.ensures c.args.x.now c.args.forest.now _ c.in-Ok.ensures.outcome).0 in
    let next = c.next-next.ensures in
    omega arith
