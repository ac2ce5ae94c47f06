use Rattle.std.proofs.Common.{length, map, option_map}
use Rattle.query_meaning.specs.Meaning.{mean}
use Rattle.sorted_tuples.specs.Keys.{sort_key_of}
use Rattle.clause_walks.specs.Walked.{with_variables}
use Rattle.item_expressions.specs.Looped.{leaving}
use Rattle.keyed_items.proofs.Kept.{tested_kept}
use Rattle.query_control.proofs.order.KeepingAtTuple.take.Goals as goal

pub returns-in_ok-keep : goal.returns-in_ok-keep
returns-in_ok-keep g c =
    tested_kept (length c.args.self.now.keys.now) (option_map mean c.args.self.now.condition.now) (map (sort_key_of mean) c.args.self.now.keys.now) (with_variables c.args.variables.now c.args.self.now.env.now) c.with-env.result c.args.given.now c.args.run.now c.tested.new.run c.and_tuple.new.run c.in_ok-tested.field-0 (leaving c.and_tuple.result c.and_tuple.new.given) c.with-env.ensures c.if-branch.true c.in_ok-tested.ensures c.and_tuple.ensures
