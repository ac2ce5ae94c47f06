use Rattle.std.proofs.Common.{[], map, option_map, Ok, Err}
use Rattle.std.proofs.lemmas.Result.{err_from_is_err_and}
use Rattle.query_meaning.specs.Meaning.{mean}
use Rattle.query_meaning.specs.Sequences.{returned}
use Rattle.evaluation.specs.Gives.{Stand}
use Rattle.clause_walks.specs.Walked.{clause_of}
use Rattle.query_control.proofs.Kept.{starts}
use Rattle.query_control.proofs.forms.Forms.unordered.Goals as goal

pub returns-in_err-tuples : goal.returns-in_err-tuples
returns-in_err-tuples g c =
    let p = err_from_is_err_and c.from_residual.result c.from_residual.ensures.1 in
    rw (p.1, p.2) (starts Stand (map (clause_of mean) c.args.clauses.now) (returned (option_map mean c.args.condition.now) (mean c.args.body.now)) c.args.env.now c.variables.result.now c.new-given.result [] c.args.run.now c.tuples.new.run (Err _) c.variables.ensures c.new-given.ensures c.in_err-tuples.ensures)

pub returns : goal.returns
returns g c =
    starts Stand (map (clause_of mean) c.args.clauses.now) (returned (option_map mean c.args.condition.now) (mean c.args.body.now)) c.args.env.now c.variables.result.now c.new-given.result [] c.args.run.now c.tuples.new.run (Ok _) c.variables.ensures c.new-given.ensures c.in_ok-tuples.ensures
