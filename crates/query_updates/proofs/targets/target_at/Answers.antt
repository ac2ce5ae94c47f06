use Rattle.std.proofs.Common.{true, false, sym, ap, ◌∙◌, Err, None}
use Rattle.data_model.specs.Trees.{find}
use Rattle.shelves.specs.Shelf.{shelf_trees}
use Rattle.query_updates.proofs.Found.{found_has, seen_at}
use Rattle.query_updates.proofs.targets.target_at.Goals as goal

pub returns-then-allows : goal.returns-then-allows
returns-then-allows c =
    let ts = shelf_trees c.args.shelf.now in
    sym (seen_at c.args.role (find c.args.identity ts) c.args.identity c.in-Some.view true (found_has None c.args.identity ts) c.in-Some.ensures c.if-allows.ensures)

pub returns-else-allows : goal.returns-else-allows
returns-else-allows c =
    let ts = shelf_trees c.args.shelf.now in
    ap (λ code. Err code) c.refusal.ensures ∙ sym (seen_at c.args.role (find c.args.identity ts) c.args.identity c.in-Some.view false (found_has None c.args.identity ts) c.in-Some.ensures c.if-allows.ensures)
