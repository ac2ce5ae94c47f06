use Rattle.std.proofs.Common.{◌+◌, map, drop, ap, sym, ◌∙◌, subst}
use Rattle.pending.specs.Primitives.{primitive_term}
use Rattle.chosen_drafts.specs.Terms.{ChosenTerm}
use Rattle.update_stages.proofs.Turns.{begin, run-distinct, run-below, run-unseen, turn-here, turn-past, turns-ready, next-turn, no-turn, Runs}
use Rattle.update_stages.proofs.stages.run_stage.Goals as goal
use Rattle.update_stages.proofs.stages.run_stage.Goals.{then-stage_of-stage+in_ok-run, else-stage_of-stage}

pub loop-primitive-init : goal.loop-primitive-init
loop-primitive-init c = begin c.args.stage (map primitive_term c.args.primitives.now) c.args.draft.now.draft c.requires

pub run-requires-clause-distinct : goal.run-requires-clause-distinct
run-requires-clause-distinct c =
    let qs = map primitive_term c.args.primitives.now in
    let rest = map primitive_term (drop (c.loop-primitive.primitive-index + 1) c.args.primitives.now) in
    run-distinct c.args.stage qs rest (primitive_term c.primitive-item.result) c.args.draft.now.draft c.loop-primitive.draft.draft
    (next-turn c.args.stage qs c.args.primitives.now c.loop-primitive.primitive-index c.args.draft.now.draft c.loop-primitive.draft.draft
    c.loop-primitive.invariant c.primitive-item.result c.loop-primitive-test.true c.primitive-item.is)
    (sym c.if-stage_of-stage.true ∙ c.stage_of.ensures)

pub run-requires-clause-below : goal.run-requires-clause-below
run-requires-clause-below c =
    let qs = map primitive_term c.args.primitives.now in
    let rest = map primitive_term (drop (c.loop-primitive.primitive-index + 1) c.args.primitives.now) in
    run-below c.args.stage qs rest (primitive_term c.primitive-item.result) c.args.draft.now.draft c.loop-primitive.draft.draft
    (next-turn c.args.stage qs c.args.primitives.now c.loop-primitive.primitive-index c.args.draft.now.draft c.loop-primitive.draft.draft
    c.loop-primitive.invariant c.primitive-item.result c.loop-primitive-test.true c.primitive-item.is)
    (sym c.if-stage_of-stage.true ∙ c.stage_of.ensures)

pub run-requires-clause-apart : goal.run-requires-clause-apart
run-requires-clause-apart c =
    let qs = map primitive_term c.args.primitives.now in
    let rest = map primitive_term (drop (c.loop-primitive.primitive-index + 1) c.args.primitives.now) in
    run-unseen c.args.stage qs rest (primitive_term c.primitive-item.result) c.args.draft.now.draft c.loop-primitive.draft.draft
    (next-turn c.args.stage qs c.args.primitives.now c.loop-primitive.primitive-index c.args.draft.now.draft c.loop-primitive.draft.draft
    c.loop-primitive.invariant c.primitive-item.result c.loop-primitive-test.true c.primitive-item.is)
    (sym c.if-stage_of-stage.true ∙ c.stage_of.ensures)

pub loop-primitive-preserved : goal.loop-primitive-preserved
loop-primitive-preserved c =
    let qs = map primitive_term c.args.primitives.now in
    let rest = map primitive_term (drop (c.loop-primitive.primitive-index + 1) c.args.primitives.now) in
    let turn = next-turn c.args.stage qs c.args.primitives.now c.loop-primitive.primitive-index c.args.draft.now.draft c.loop-primitive.draft.draft
    c.loop-primitive.invariant c.primitive-item.result c.loop-primitive-test.true c.primitive-item.is in
    elim c.if-stage_of-stage.branch [
      | then-stage_of-stage+in_ok-run w ↦
          turn-here c.args.stage qs rest (primitive_term c.primitive-item.result) c.args.draft.now.draft c.loop-primitive.draft.draft turn (sym w.if-stage_of-stage.true ∙ c.stage_of.ensures) c.if-stage_of-stage.draft.draft
          (ap (λ d. d.draft) w.draft-is ∙ w.in_ok-run.ensures.run)
      | else-stage_of-stage w ↦
          (let P : ChosenTerm → Type 0 = λ d. Runs c.args.stage qs rest c.args.draft.now.draft d in
          subst P (sym (ap (λ d. d.draft) w.draft-is))
          (turn-past c.args.stage qs rest (primitive_term c.primitive-item.result) c.args.draft.now.draft c.loop-primitive.draft.draft turn (λ e. w.if-stage_of-stage.false (c.stage_of.ensures ∙ sym e))))
    ]

pub returns-clause-ready : goal.returns-clause-ready
returns-clause-ready c =
    let qs = map primitive_term c.args.primitives.now in
    turns-ready c.args.stage qs c.args.draft.now.draft c.loop-primitive.draft.draft
    (no-turn c.args.stage qs c.args.primitives.now c.loop-primitive.primitive-index c.args.draft.now.draft c.loop-primitive.draft.draft c.loop-primitive.invariant c.loop-primitive-test.false)
