use Rattle.std.proofs.Common.{◌≡◌, ◌∙◌, ap, refl}
use Rattle.data_model.specs.Changes.{with_part, part_of}
use Rattle.data_model.specs.Tree.{all_of}
use Rattle.data_model.specs.Trees.{Trees}
use Rattle.node_plans.proofs.Results.{on-ok}
use Rattle.node_plans.specs.Splices.{spliced}
use Rattle.update_stages.proofs.LookUps.{beside-root, beside-listed, within-list}
use Rattle.update_stages.proofs.sites.put_beside.Goals as goal

pub returns-in_default-clause-put : goal.returns-in_default-clause-put
returns-in_default-clause-put c = rw (beside-root c.args.id c.args.side (all_of c.args.trees.now) c.args.draft.now.draft.after c.requires.distinct c.in_default.ensures.site) refl

pub splice-requires-clause-within : goal.splice-requires-clause-within
splice-requires-clause-within c = rw c.span-from.ensures.to (within-list c.args.side c.in-Some.site.at c.args.id (part_of c.in-Some.site.part c.in-Some.site.parent c.args.draft.now.draft.after) c.in-Some.ensures.site)

abbrev spliced_in : goal.After-splice → Trees
spliced_in c = with_part c.in-Some.site.part c.in-Some.site.parent (spliced c.span-from.result.0 c.span-from.result.1 (all_of c.args.trees.now)) c.args.draft.now.draft.after

pub returns-clause-put : goal.returns-clause-put
returns-clause-put c =
    let us = all_of c.args.trees.now in
    let ts = c.args.draft.now.draft.after in
    on-ok c.splice.result (c.splice.new.self.draft ≡ record c.args.draft.now.draft { after = spliced_in c }) _ c.splice.ensures.spliced
    (λ e. e
    ∙ ap (λ xs. record c.args.draft.now.draft { after = xs }) ((λ j. with_part c.in-Some.site.part c.in-Some.site.parent (spliced (c.span-from.ensures.from j) (c.span-from.ensures.to j) us) ts)
    ∙ beside-listed c.args.id c.args.side us ts c.requires.distinct c.in-Some.site.part c.in-Some.site.parent c.in-Some.site.at c.in-Some.ensures.site))
