use Rattle.std.proofs.Common.{sym, subst}
use Rattle.std.proofs.lemmas.Result.{err_from_is_err_and}
use Rattle.values.specs.declared.atom.Item.{Item}
use Rattle.values.specs.Items.{IsThere}
use Rattle.query_meaning.specs.Running.{trees_of}
use Rattle.evaluation.specs.Gives.{Any}
use Rattle.evaluation.proofs.Each.{goes_on, stops, ends}
use Rattle.copied_content.specs.Copying.{and_item}
use Rattle.copied_content.proofs.Sources.{still_there}
use Rattle.copied_content.proofs.copying.copied_items.Goals as goal

pub add_item-requires : goal.add_item-requires
add_item-requires c =
    let P : Item → Type 0 = IsThere (trees_of c.args.run.now) in
    record { there = still_there c.item-item.result c.args.run.now c.loop-item.run c.loop-item.invariant.grown (subst P (sym c.item-item.is) (c.requires.stand c.loop-item.item-index c.item-item.result c.loop-item-test.true)) }

pub loop-item-preserved : goal.loop-item-preserved
loop-item-preserved c = goes_on _ _ _ _ _ _ _ _ _ _ c.item-item.result c.loop-item.invariant c.loop-item-test.true c.item-item.is c.in_ok-add_item.ensures

pub returns-in_err-add_item : goal.returns-in_err-add_item
returns-in_err-add_item c =
    let p = err_from_is_err_and c.from_residual.result c.from_residual.ensures.1 in
    rw (p.1, p.2) (stops Any (λ _. and_item) _ _ _ _ _ _ c.add_item.new.run c.item-item.result _ c.loop-item.invariant c.loop-item-test.true c.item-item.is c.in_err-add_item.ensures)

pub returns : goal.returns
returns c = ends Any (λ _. and_item) _ _ _ _ _ _ c.loop-item.invariant c.loop-item-test.false
