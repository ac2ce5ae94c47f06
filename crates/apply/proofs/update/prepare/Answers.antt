use Rattle.std.proofs.Common.{◌≡◌, List, Ok, map, ap, sym, ◌∙◌, subst}
use Rattle.pending.specs.Primitives.{PrimitiveTerm, primitive_term}
use Rattle.trees.specs.Drafts.{DraftTerm}
use Rattle.update_meaning.specs.Changed.{changed}
use Rattle.update_meaning.specs.Results.{judged}
use Rattle.chosen_drafts.specs.Terms.{ChosenTerm}
use Rattle.apply.specs.Planned.{planned_draft}
use Rattle.apply.proofs.Results.{if-ok, if-err}
use Rattle.apply.proofs.Stored.{Settles, settles, refuses}
use Rattle.apply.proofs.update.prepare.Goals as goal

abbrev ps : goal.After-planned → List PrimitiveTerm
ps c = map primitive_term c.args.list.now

settled : (c : goal.After-planned) (p : DraftTerm) → planned_draft c.new.result.draft (judged (changed (ps c) c.new.result.draft.after)) ≡ Ok p → Settles (ps c) c.args.next c.args.forest c.requires.stored p
settled c p e =
    let P : ChosenTerm → Type 0 = λ d. planned_draft d (judged (changed (ps c) d.after)) ≡ Ok p in
    settles (ps c) c.args.next c.args.forest c.requires.stored p (subst P (ap (λ d. d.draft) c.new.ensures) e)

pub returns-clause-applied : goal.returns-clause-applied
returns-clause-applied c = if-ok c.planned.result _ _ (λ p e. (settled c p e).applied_is) c.planned.ensures.planned

pub returns-clause-stored : goal.returns-clause-stored
returns-clause-stored c = if-ok c.planned.result _ _ (λ p e. (settled c p e).stored) c.planned.ensures.planned

pub returns-clause-before : goal.returns-clause-before
returns-clause-before c = if-ok c.planned.result _ _ (λ p e. (settled c p e).before) c.planned.ensures.planned

pub returns-clause-code : goal.returns-clause-code
returns-clause-code c =
    if-err c.planned.result _ _
    (λ e h code is. refuses (ps c) c.args.next c.args.forest c.requires.stored code (ap (λ d. judged (changed (ps c) d.draft.after)) (sym c.new.ensures) ∙ h code is))
    c.planned.ensures.code
