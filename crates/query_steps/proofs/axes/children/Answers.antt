use Rattle.std.proofs.Common.{◌≡◌, ◌∙◌, ℕ, Bool, List, filter, length, sym, subst, IfOk}
use Rattle.data_model.specs.Trees.{find}
use Rattle.data_model.specs.declared.axis.Axis.TheVariants.{Child}
use Rattle.shelves.specs.Shelf.{shelf_trees}
use Rattle.query_meaning.specs.Paths.{passes_at}
use Rattle.node_table.proofs.Axes.{on-children}
use Rattle.query_steps.proofs.axes.children.Goals as goal

pub returns : goal.returns
returns c =
    let ts = shelf_trees c.args.shelf.now in
    let test : ℕ → Bool = λ j. passes_at Child c.args.test.now (find j ts) in
    let P : List ℕ → Type 0 = λ xs. IfOk c.passing.result (λ l. l.nodes.items ≡ filter test xs) in
    let Q : List ℕ → Type 0 = λ xs. IfOk c.passing.result (λ l. l.looked_at ≡ length xs) in
    let same = c.children.ensures ∙ sym (on-children ts c.facts.ensures.distinct c.args.node) in
    record { nodes = subst P same c.passing.ensures.nodes; looked = subst Q same c.passing.ensures.looked }
