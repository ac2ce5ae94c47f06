use Rattle.std.proofs.Common.{◌∙◌, ℕ, List, [], ◌∷◌, ap}
use Rattle.query_meaning.specs.Copies.{Copy}
use Rattle.query_copies.specs.Made.{copies_after}
use Rattle.query_copies.proofs.InOrder.{pushed}
use Rattle.query_copies.proofs.made.MadeCopies.and.Goals as goal

pub returns : goal.returns
returns c =
    let copy : List ℕ → Copy = λ name. record { variable = name; root = c.args.root } in
    ap (copies_after []) c.in_ok-push.ensures.items ∙ pushed [] c.self.inside.copies.items _ ∙ (λ j. copy (c.in_ok-clone.ensures.cases j) ∷ c.self.view_is j)
