use Rattle.std.proofs.Common.{◌≡◌, ◌∙◌, ℕ, Bool, List, filter, length, sym, subst, IfOk}
use Rattle.data_model.specs.Trees.{find}
use Rattle.data_model.specs.declared.axis.Axis.TheVariants.{Parent}
use Rattle.shelves.specs.Shelf.{shelf_trees}
use Rattle.query_meaning.specs.Paths.{passes_at}
use Rattle.query_steps.proofs.Ancestors.{on-parent, on-no-parent}
use Rattle.query_steps.proofs.axes.parent.Goals as goal

pub returns-in-Some : goal.returns-in-Some
returns-in-Some c =
    let ts = shelf_trees c.args.shelf.now in
    let test : ℕ → Bool = λ j. passes_at Parent c.args.test.now (find j ts) in
    let P : List ℕ → Type 0 = λ xs. IfOk c.passing.result (λ l. l.nodes.items ≡ filter test xs) in
    let Q : List ℕ → Type 0 = λ xs. IfOk c.passing.result (λ l. l.looked_at ≡ length xs) in
    let same = sym (on-parent ts c.facts.ensures.distinct c.args.node c.in-Some.parent (sym c.parent.ensures ∙ c.in-Some.is)) in
    record { nodes = subst P same c.passing.ensures.nodes; looked = subst Q same c.passing.ensures.looked }

pub returns-in-None : goal.returns-in-None
returns-in-None c =
    let ts = shelf_trees c.args.shelf.now in
    let test : ℕ → Bool = λ j. passes_at Parent c.args.test.now (find j ts) in
    let P : List ℕ → Type 0 = λ xs. IfOk c.passing-in-None.result (λ l. l.nodes.items ≡ filter test xs) in
    let Q : List ℕ → Type 0 = λ xs. IfOk c.passing-in-None.result (λ l. l.looked_at ≡ length xs) in
    let same = sym (on-no-parent ts c.facts.ensures.distinct c.args.node (sym c.parent.ensures ∙ c.in-None.is)) in
    record { nodes = subst P same c.passing-in-None.ensures.nodes; looked = subst Q same c.passing-in-None.ensures.looked }
