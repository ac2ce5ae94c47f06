use Rattle.std.proofs.Common.{◌∙◌, sym}
use Rattle.update_stages.proofs.LookUps.{parent-there, parent-lists, in-attributes, in-children}
use Rattle.update_stages.proofs.sites.site_of.Goals as goal

pub returns-in_default-clause-site : goal.returns-in_default-clause-site
returns-in_default-clause-site c = absurd (parent-there c.args.id c.in_ok-parent.parent c.args.draft.now.draft.after c.facts.ensures.distinct (sym c.parent_of.ensures ∙ c.in_ok-parent.was) c.in_default.ensures)

pub returns-in-Some-place_in-clause-site : goal.returns-in-Some-place_in-clause-site
returns-in-Some-place_in-clause-site c = in-attributes c.args.id c.in_ok-parent.parent c.in-Some-place_in.at c.args.draft.now.draft.after c.in-Some.above c.in-Some.ensures (sym c.place_in.ensures.first ∙ c.in-Some-place_in.is)

pub returns-in_err-at-clause-site : goal.returns-in_err-at-clause-site
returns-in_err-at-clause-site c =
    absurd (
    parent-lists c.args.id c.in_ok-parent.parent c.args.draft.now.draft.after c.facts.ensures.distinct (sym c.parent_of.ensures ∙ c.in_ok-parent.was) c.in-Some.above c.in-Some.ensures
    (sym c.place_in.ensures.first ∙ c.in_default-place_in.is) (sym c.place_in-2.ensures.first ∙ c.in_err-at.was))

pub returns-clause-site : goal.returns-clause-site
returns-clause-site c = in-children c.args.id c.in_ok-parent.parent c.in_ok-at.at c.args.draft.now.draft.after c.in-Some.above c.in-Some.ensures (sym c.place_in-2.ensures.first ∙ c.in_ok-at.was)
