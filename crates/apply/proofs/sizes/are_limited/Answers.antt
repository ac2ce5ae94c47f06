use Rattle.std.proofs.Common.{◌∙◌, sym, arith}
use Rattle.tracked_drafts.specs.Tests.{is_limited}
use Rattle.tracked_drafts.proofs.Exits.{none-limited}
use Rattle.apply.proofs.Turns.{turn, ended, stops, within}
use Rattle.apply.proofs.sizes.are_limited.Goals as goal
use Rattle.apply.proofs.sizes.are_limited.Goals.{in-Some+else-not-is_limited, in_default}

pub returns-then-not-is_limited : goal.returns-then-not-is_limited
returns-then-not-is_limited c = stops c.in-Some.id is_limited c.args.draft.now.draft.after _ (sym c.if-not-is_limited.true ∙ c.is_limited.ensures) (none-limited 0 c.args.draft.now.draft.after)

pub loop-at-preserved : goal.loop-at-preserved
loop-at-preserved c =
    elim c.match-touched_at.branch [
      | in-Some+else-not-is_limited w ↦ turn c.args.draft.now.touched c.loop-at.at w.in-Some.id is_limited c.args.draft.now.draft.after (sym w.in-Some.is ∙ c.touched_at.ensures) (sym w.if-not-is_limited.false ∙ w.is_limited.ensures) c.loop-at.invariant
      | in_default w ↦ absurd (within c.args.draft.now.touched c.loop-at.at (let l = c.loop-at-test.true in let e = c.touched_len-at-end.ensures in omega arith) (sym w.in_default.is ∙ c.touched_at.ensures))
    ]

pub returns : goal.returns
returns c =
    let l = c.loop-at-test.false in
    let e = c.touched_len-at-end.ensures in
    sym (ended c.args.draft.now.touched c.loop-at.at is_limited c.args.draft.now.draft.after (omega arith) c.loop-at.invariant) ∙ none-limited 0 c.args.draft.now.draft.after
