use Rattle.std.proofs.Common.{ap, ◌∙◌}
use Rattle.data_model.specs.Trees.{Trees}
use Rattle.node_plans.proofs.Results.{on-ok}
use Rattle.chosen_drafts.specs.Terms.{ChosenTerm}
use Rattle.apply.specs.Texts.{filled_below}
use Rattle.apply.proofs.Calls.{both-below}
use Rattle.apply.proofs.tidying.tidy.Goals as goal

pub returns-clause-tidied : goal.returns-clause-tidied
returns-clause-tidied c =
    let was = c.args.draft.now.draft in
    let fill : ChosenTerm → ChosenTerm = λ d. record d { after = filled_below d.after } in
    let with_after : Trees → ChosenTerm = λ t. record was { after = t } in
    on-ok c.empty_all.result _ _ c.empty_all.ensures.filled (λ e. e ∙ ap fill c.in_ok-merge_all.ensures.merged ∙ ap with_after (both-below was.after))
