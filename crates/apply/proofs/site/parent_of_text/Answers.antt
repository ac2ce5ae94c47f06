use Rattle.std.proofs.Common.{sym, ◌∙◌}
use Rattle.apply.proofs.Siblings.{text-below}
use Rattle.apply.proofs.site.parent_of_text.Goals as goal

pub returns-in-Some : goal.returns-in-Some
returns-in-Some c = text-below c.args.id c.args.draft.now.draft.after c.in-Some.view c.in-Some.ensures (sym c.is_text.ensures ∙ c.if-is_text.true)
