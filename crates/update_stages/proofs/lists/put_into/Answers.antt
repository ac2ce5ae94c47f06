use Rattle.std.proofs.Common.{◌≡◌, ◌∙◌, ap, refl}
use Rattle.data_model.specs.Changes.{with_part}
use Rattle.data_model.specs.Tree.{all_of}
use Rattle.data_model.specs.Trees.{Trees}
use Rattle.node_plans.proofs.Results.{on-ok}
use Rattle.node_plans.specs.Splices.{spliced}
use Rattle.update_stages.specs.Places.{shared}
use Rattle.update_stages.proofs.LookUps.{part-nowhere}
use Rattle.update_stages.proofs.Shares.{part-shared}
use Rattle.update_stages.proofs.lists.put_into.Goals as goal

pub returns-in_default-clause-put : goal.returns-in_default-clause-put
returns-in_default-clause-put c = rw (part-nowhere c.args.part c.args.id (shared c.args.share (all_of c.args.trees.now)) c.args.draft.now.draft.after c.in_default.ensures) refl

abbrev spliced_in : goal.After-splice → Trees
spliced_in c = with_part c.args.part c.args.id (spliced c.span-from.result.0 c.span-from.result.1 (all_of c.args.trees.now)) c.args.draft.now.draft.after

pub returns-clause-put : goal.returns-clause-put
returns-clause-put c =
    let us = all_of c.args.trees.now in
    let ts = c.args.draft.now.draft.after in
    on-ok c.splice.result (c.splice.new.self.draft ≡ record c.args.draft.now.draft { after = spliced_in c }) _ c.splice.ensures.spliced
    (λ e. e
    ∙ ap (λ xs. record c.args.draft.now.draft { after = xs }) ((λ j. with_part c.args.part c.args.id (spliced (c.span-from.ensures.from j) (c.span-from.ensures.to j) us) ts)
    ∙ part-shared c.args.share c.args.part c.args.id c.in-Some.len us ts c.requires.distinct c.in-Some.ensures.1))
