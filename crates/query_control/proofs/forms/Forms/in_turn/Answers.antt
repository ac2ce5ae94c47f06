use Rattle.std.proofs.lemmas.Result.{err_from_is_err_and}
use Rattle.query_meaning.specs.Sequences.{and_items}
use Rattle.evaluation.specs.Gives.{Stand}
use Rattle.query_meaning.specs.Meaning.{mean}
use Rattle.evaluation.proofs.Each.{goes_on, stops_mapped, ends_mapped}
use Rattle.query_control.proofs.forms.Forms.in_turn.Goals as goal

pub loop-part-preserved : goal.loop-part-preserved
loop-part-preserved g c =
    goes_on _ _ _ _ _ _ _ _ _ _ c.part-item.result c.loop-part.invariant c.loop-part-test.true c.part-item.is c.in_ok-and_items.ensures

pub returns-in_err-and_items : goal.returns-in_err-and_items
returns-in_err-and_items g c =
    let p = err_from_is_err_and c.from_residual.result c.from_residual.ensures.1 in
    rw (p.1, p.2) (stops_mapped Stand (λ _. and_items c.args.env.now) mean _ _ _ _ _ _ c.and_items.new.run c.part-item.result _ c.loop-part.invariant c.loop-part-test.true c.part-item.is c.in_err-and_items.ensures)

pub returns : goal.returns
returns g c = ends_mapped Stand (λ _. and_items c.args.env.now) mean _ _ _ _ _ _ c.loop-part.invariant c.loop-part-test.false
