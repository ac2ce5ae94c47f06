use Rattle.std.proofs.Common.{◌≡◌, ◌∙◌, ◌++◌, List, [], ap, map}
use Rattle.query_meaning.specs.Copies.{bound_to}
use Rattle.query_meaning.specs.Environment.{Bound}
use Rattle.query_copies.specs.Made.{variables_after}
use Rattle.query_copies.proofs.InOrder.{all_bound, if_ok}
use Rattle.query_copies.proofs.made.MadeCopies.bound.Goals as goal

pub returns : goal.returns
returns c =
    let others = c.args.others.now in
    let xs = c.self.inside.copies.items in
    let same = ap (variables_after others) c.deref.ensures.value ∙ all_bound [] others xs ∙ ap (λ cs. map bound_to cs ++ others) c.self.view_is in
    if_ok c.bound_after.result (λ (v : List Bound). v ≡ variables_after others c.deref.result.now) (λ (v : List Bound). v ≡ map bound_to c.args.self.now ++ others) (λ v e. e ∙ same) c.bound_after.ensures
