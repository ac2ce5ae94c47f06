use Rattle.std.proofs.Common.{length, map, option_map, subst, sym}
use Rattle.query_meaning.specs.Environment.{Environment}
use Rattle.query_meaning.specs.Meaning.{mean}
use Rattle.evaluation.specs.Gives.{IsReady}
use Rattle.sorted_tuples.specs.Keys.{sort_key_of}
use Rattle.clause_walks.specs.Walked.{with_variables}
use Rattle.item_expressions.specs.Lasting.{ready_on}
use Rattle.item_expressions.specs.Looped.{leaving}
use Rattle.keyed_items.proofs.Kept.{tested_kept}
use Rattle.query_control.proofs.order.Keeping.take_bound.Goals as goal

pub and_tuple-requires-clause-ready : goal.and_tuple-requires-clause-ready
and_tuple-requires-clause-ready g c =
    let P : Environment → Type 0 = λ e. IsReady e c.tested.new.run in
    let here = with_variables c.args.variables.now c.args.self.now.env.now in
    subst P (sym c.with-env.ensures) (ready_on here c.args.run.now c.tested.new.run c.in_ok-tested.ensures.1.0 c.requires.ready)

pub returns-in_ok-clone-clause-gives : goal.returns-in_ok-clone-clause-gives
returns-in_ok-clone-clause-gives g c =
    tested_kept (length c.args.self.now.keys.now) (option_map mean c.args.self.now.condition.now) (map (sort_key_of mean) c.args.self.now.keys.now) (with_variables c.args.variables.now c.args.self.now.env.now) c.with-env.result c.args.given.now c.args.run.now c.tested.new.run c.and_tuple.new.run c.in_ok-tested.field-0 (leaving c.and_tuple.result c.and_tuple.new.given) c.with-env.ensures c.if-branch.true c.in_ok-tested.ensures c.and_tuple.ensures
