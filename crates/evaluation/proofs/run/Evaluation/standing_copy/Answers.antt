use Rattle.std.proofs.Common.{◌≤◌, ◌+◌, Ok, sym, subst}
use Rattle.data_model.specs.Changes.{pick}
use Rattle.data_model.specs.Trees.{size}
use Rattle.evaluation.specs.Copying.{standing_copy}
use Rattle.query_meaning.specs.Running.{Run, most_nodes, trees_of}
use Rattle.evaluation.specs.Gives.{Any, GivesIn}
use Rattle.evaluation.specs.Within.{run_of}
use Rattle.evaluation.proofs.Copies.{copy_gives}
use Rattle.evaluation.proofs.run.Evaluation.standing_copy.Goals as goal

pub returns-clause-made : goal.returns-clause-made
returns-clause-made c =
    let old = run_of c.self.inside in
    let Room : Run → Type 0 = λ run. run.shelf.own.next + size (pick c.args.node (trees_of run)) ≤ run.shelf.lent.next + most_nodes in
    let Made : Run → Type 0 = λ run. GivesIn Any (standing_copy c.args.node) run (Ok c.in-Ok.root) (record old { shelf = c.copy.new.self }) in
    let room : Room c.args.self.now = c.has_room.ensures.0 c.if-not-has_room.false in
    subst Made c.self.view_is (copy_gives c.args.node old c.in-Ok.root c.copy.new.self (subst Room (sym c.self.view_is) room) c.in-Ok.ensures.made.0 c.in-Ok.ensures.made.1)
