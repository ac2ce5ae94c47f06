use Rattle.std.proofs.Common.{◌≡◌, ℕ, ◌≤◌, ◌<◌, List, Ok, map, ap, sym, ◌∙◌, subst}
use Rattle.data_model.specs.Trees.{append, count}
use Rattle.pending.specs.Primitives.{PrimitiveTerm, primitive_term}
use Rattle.update_meaning.specs.Brought.{new_trees}
use Rattle.update_meaning.specs.Changed.{changed}
use Rattle.update_meaning.specs.Results.{judged}
use Rattle.chosen_drafts.specs.Terms.{ChosenTerm, hidden}
use Rattle.apply.specs.Planned.{planned_draft}
use Rattle.apply.proofs.Results.{if-ok, if-err}
use Rattle.apply.proofs.Copied.{seen-distinct, hidden-apart, copies-settle, copies-refuse}
use Rattle.apply.proofs.copies.prepare_copies.Goals as goal

abbrev ps : goal.After-planned → List PrimitiveTerm
ps c = map primitive_term c.args.list.now

pub planned-requires-clause-distinct : goal.planned-requires-clause-distinct
planned-requires-clause-distinct c =
    let new = new_trees (map primitive_term c.args.list.now) in
    subst (λ (d : ChosenTerm). (i : ℕ) → count i (append d.after new) ≤ 1) (sym c.in-Ok.ensures.drafted) (seen-distinct c.args.roots.now c.args.forest.trees new c.requires.distinct)

pub planned-requires-clause-apart : goal.planned-requires-clause-apart
planned-requires-clause-apart c =
    let new = new_trees (map primitive_term c.args.list.now) in
    subst (λ (d : ChosenTerm). (i : ℕ) → 0 < count i new → count i (hidden d) ≡ 0) (sym c.in-Ok.ensures.drafted) (hidden-apart c.args.roots.now c.args.forest.trees new c.requires.distinct)

pub returns-in-Ok-clause-applied : goal.returns-in-Ok-clause-applied
returns-in-Ok-clause-applied c =
    if-ok c.planned.result _ _
    (λ p e. copies-settle c.args.roots.now (ps c) c.args.next c.args.forest p (subst (λ (d : ChosenTerm). planned_draft d (judged (changed (ps c) d.after)) ≡ Ok p) c.in-Ok.ensures.drafted e))
    c.planned.ensures.planned

pub returns-in-Ok-clause-code : goal.returns-in-Ok-clause-code
returns-in-Ok-clause-code c =
    if-err c.planned.result _ _
    (λ e h code is. copies-refuse c.args.roots.now (ps c) c.args.next c.args.forest code (ap (λ d. judged (changed (ps c) d.after)) (sym c.in-Ok.ensures.drafted) ∙ h code is))
    c.planned.ensures.code
