use Rattle.std.proofs.Common.{◌≡◌, ◌∙◌, [], ◌∷◌, ap, subst, sym}
use Rattle.query_meaning.specs.Environment.{Environment, with_variable}
use Rattle.evaluation.specs.Gives.{IsReady}
use Rattle.sorted_tuples.specs.Places.{place_of}
use Rattle.sorted_tuples.specs.declared.place.Binding.{Binding}
use Rattle.query_control.proofs.Values.{last_there, ready_before}
use Rattle.query_control.proofs.forms.Forms.returned_at.Goals as goal

pub and_bound-requires-clause-ready : goal.and_bound-requires-clause-ready
and_bound-requires-clause-ready g c =
    let P : Environment → Type 0 = λ e. IsReady e c.args.run.now in
    let b = c.in-Bound.binding.value in
    let held : c.args.tuple.now.environment ≡ with_variable b.variable (c.in-Bound.item ∷ []) b.others = sym c.place.ensures ∙ sym c.get.ensures ∙ ap place_of c.in-Bound.is in
    subst P (sym (c.get-others.ensures ∙ ap (λ (b : Binding). b.others) c.as_ref-binding.ensures)) (ready_before b.variable c.in-Bound.item b.others c.args.run.now (subst P held c.requires.ready))

pub and_bound-requires-clause-item : goal.and_bound-requires-clause-item
and_bound-requires-clause-item g c =
    let P : Environment → Type 0 = λ e. IsReady e c.args.run.now in
    let b = c.in-Bound.binding.value in
    let held : c.args.tuple.now.environment ≡ with_variable b.variable (c.in-Bound.item ∷ []) b.others = sym c.place.ensures ∙ sym c.get.ensures ∙ ap place_of c.in-Bound.is in
    last_there b.variable c.in-Bound.item b.others c.args.run.now (subst P held c.requires.ready)

pub add_value-requires-clause-read : goal.add_value-requires-clause-read
add_value-requires-clause-read g c =
    let P : Environment → Type 0 = λ e. IsReady e c.args.run.now in
    let b = c.in-Bound.binding.value in
    let held : c.args.tuple.now.environment ≡ with_variable b.variable (c.in-Bound.item ∷ []) b.others = sym c.place.ensures ∙ sym c.get.ensures ∙ ap place_of c.in-Bound.is in
    c.unread.ensures.read _ (last_there b.variable c.in-Bound.item b.others c.args.run.now (subst P held c.requires.ready))
