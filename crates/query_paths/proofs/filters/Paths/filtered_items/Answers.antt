use Rattle.std.proofs.lemmas.Result.{err_from_is_err_and}
use Rattle.query_meaning.specs.Meaning.{mean}
use Rattle.query_meaning.specs.Paths.{filtered}
use Rattle.evaluation.specs.Gives.{Stand}
use Rattle.evaluation.proofs.Each.{stops_mapped, ends_mapped}
use Rattle.query_paths.proofs.filters.Paths.filtered_items.Goals as goal

pub returns-in_err-left : goal.returns-in_err-left
returns-in_err-left g c =
    let p = err_from_is_err_and c.from_residual.result c.from_residual.ensures.1 in
    rw (p.1, p.2) (stops_mapped Stand (λ _. filtered c.args.env.now) mean _ _ _ _ _ _ c.filtered_sequence.new.run c.predicate-item.result _ c.loop-predicate.invariant c.loop-predicate-test.true c.predicate-item.is c.in_err-left.ensures)

pub returns : goal.returns
returns g c = ends_mapped Stand (λ _. filtered c.args.env.now) mean _ _ _ _ _ _ c.loop-predicate.invariant c.loop-predicate-test.false
