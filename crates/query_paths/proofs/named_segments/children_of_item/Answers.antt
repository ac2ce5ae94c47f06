use Rattle.std.proofs.Common.{◌∙◌, List, ℕ, sym, subst}
use Rattle.data_model.specs.declared.axis.Axis.TheVariants.{Child}
use Rattle.query_meaning.specs.Operators.{nodes}
use Rattle.evaluation.specs.Gives.{Stand}
use Rattle.query_paths.proofs.Directions.{tested_stand}
use Rattle.query_paths.proofs.named_segments.children_of_item.Goals as goal

pub looked_up-requires : goal.looked_up-requires
looked_up-requires c =
    let P : List ℕ → Type 0 = λ is. Stand (nodes is) c.args.run.now in
    record { stand = subst P (sym (c.in-Some.ensures.nodes c.args.test.now c.requires.listed)) (tested_stand Child c.args.test.now c.in-Node.node c.args.run.now) }

pub looked_up-requires-2 : goal.looked_up-requires-2
looked_up-requires-2 c =
    let P : List ℕ → Type 0 = λ is. Stand (nodes is) c.args.run.now in
    record { stand = subst P (sym (c.deref.ensures.value ∙ c.in_ok-listing.ensures.nodes)) (tested_stand Child c.args.test.now c.in-Node.node c.args.run.now) }
