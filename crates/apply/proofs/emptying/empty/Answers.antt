use Rattle.std.proofs.Common.{◌≡◌, Bool, true, false, ◌&&◌, sym, ◌∙◌, arith, subst}
use Rattle.node_plans.proofs.Results.{on-ok}
use Rattle.chosen_drafts.specs.Terms.{ChosenTerm}
use Rattle.apply.specs.Texts.{Empties}
use Rattle.apply.proofs.Calls.{none-added, goes, goes-none, goes-nowhere}
use Rattle.apply.proofs.emptying.empty.Goals as goal

says-nothing : (a b : Bool) → (a && b) ≡ true → b ≡ true
says-nothing true b h = h
says-nothing false b h = cc

pub overflow_add-site : goal.overflow_add-site
overflow_add-site c = let at = c.in-Some.ensures in let room = at.room in omega arith

pub splice-requires-clause-has : goal.splice-requires-clause-has
splice-requires-clause-has c = (goes c.in-Some.site c.args.id c.args.draft.now.draft.after c.facts.ensures.distinct c.in-Some.ensures (says-nothing _ _ (sym c.is_empty_text.ensures ∙ c.if-not-is_empty_text.false))).parent

pub splice-requires-clause-within : goal.splice-requires-clause-within
splice-requires-clause-within c = (goes c.in-Some.site c.args.id c.args.draft.now.draft.after c.facts.ensures.distinct c.in-Some.ensures (says-nothing _ _ (sym c.is_empty_text.ensures ∙ c.if-not-is_empty_text.false))).within

pub splice-requires-clause-distinct : goal.splice-requires-clause-distinct
splice-requires-clause-distinct c = none-added c.args.draft.now.draft.after c.facts.ensures.distinct

pub returns-in-Some-clause-empties : goal.returns-in-Some-clause-empties
returns-in-Some-clause-empties c =
    let g = goes c.in-Some.site c.args.id c.args.draft.now.draft.after c.facts.ensures.distinct c.in-Some.ensures (says-nothing _ _ (sym c.is_empty_text.ensures ∙ c.if-not-is_empty_text.false)) in
    let P : ChosenTerm → Type 0 = λ d. Empties c.args.id c.args.draft.now.draft.after d.after in
    on-ok c.splice.result _ _ c.splice.ensures.spliced (λ is. subst P (sym is) g.empties)

pub returns-then-not-is_empty_text-clause-empties : goal.returns-then-not-is_empty_text-clause-empties
returns-then-not-is_empty_text-clause-empties c = goes-none c.args.id c.args.draft.now.draft.after c.facts.ensures.distinct (sym c.is_empty_text.ensures ∙ c.if-not-is_empty_text.true)

pub returns-in-None-clause-empties : goal.returns-in-None-clause-empties
returns-in-None-clause-empties c = goes-nowhere c.args.id c.args.draft.now.draft.after c.facts.ensures.distinct c.in-None.ensures
