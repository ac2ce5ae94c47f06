use Rattle.std.proofs.Common.{map, option_map}
use Rattle.query_meaning.specs.Meaning.{mean}
use Rattle.clause_walks.specs.Walked.{clause_of}
use Rattle.query_control.proofs.Kept.{without_keys, with_keys, not_both}
use Rattle.query_control.proofs.forms.Forms.flwor.Goals as goal

pub returns-then-is_empty : goal.returns-then-is_empty
returns-then-is_empty g c =
    without_keys mean (map (clause_of mean) c.args.clauses.now) (option_map mean c.args.condition.now) c.args.keys.now (mean c.args.body.now) c.args.env.now c.args.run.now c.unordered.new.run c.unordered.result (c.is_empty.ensures.0 c.if-is_empty.true)
    (rw (c.as_slice-clauses.ensures, c.in_ok-condition.ensures) at c.unordered.ensures)

pub returns : goal.returns
returns g c =
    with_keys mean (map (clause_of mean) c.args.clauses.now) (option_map mean c.args.condition.now) c.args.keys.now c.as_slice.result.now (mean c.args.body.now) c.args.env.now c.args.run.now c.ordered.new.run c.ordered.result (λ e. not_both c.is_empty.result (c.is_empty.ensures.1 e) c.if-is_empty.false) c.as_slice.ensures
    (rw (c.as_slice-clauses.ensures, c.in_ok-condition.ensures) at c.ordered.ensures)
