use Rattle.std.proofs.Common.{length, map, option_map}
use Rattle.std.proofs.lemmas.Result.{err_from_is_err_and}
use Rattle.query_meaning.specs.Meaning.{mean}
use Rattle.sorted_tuples.specs.Keys.{sort_key_of}
use Rattle.clause_walks.specs.Walked.{clause_of}
use Rattle.query_control.proofs.Kept.{order_gives, order_fails}
use Rattle.query_control.proofs.forms.Forms.in_order.Goals as goal

pub returns-in_err-tuples : goal.returns-in_err-tuples
returns-in_err-tuples g c =
    let p = err_from_is_err_and c.from_residual.result c.from_residual.ensures.1 in
    rw (p.1, p.2) (order_fails (map (clause_of mean) c.args.clauses.now) (option_map mean c.args.condition.now) (map (sort_key_of mean) c.args.keys.now) c.args.env.now (length c.args.keys.now) c.variables.result.now c.new-found.result c.args.run.now c.tuples.new.run _ c.variables.ensures c.new-found.ensures c.in_err-tuples.ensures)

pub returns : goal.returns
returns g c =
    order_gives (map (clause_of mean) c.args.clauses.now) (option_map mean c.args.condition.now) (map (sort_key_of mean) c.args.keys.now) c.args.env.now (length c.args.keys.now) c.variables.result.now c.new-found.result _ c.args.run.now c.tuples.new.run c.sorted.result c.variables.ensures c.new-found.ensures c.in_ok-tuples.ensures c.sorted.ensures.sorted
