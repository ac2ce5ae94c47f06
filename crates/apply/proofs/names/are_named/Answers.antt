use Rattle.std.proofs.Common.{◌∙◌, sym, arith}
use Rattle.tracked_drafts.specs.Tests.{is_named}
use Rattle.tracked_drafts.proofs.Exits.{none-named}
use Rattle.apply.proofs.Turns.{turn, ended, stops, within}
use Rattle.apply.proofs.names.are_named.Goals as goal
use Rattle.apply.proofs.names.are_named.Goals.{in-Some+in_ok-is_named+else-not-branch, in_default}

pub returns-then-not-branch : goal.returns-then-not-branch
returns-then-not-branch c = stops c.in-Some.id is_named c.args.draft.now.draft.after _ (sym c.if-not-branch.true ∙ c.in_ok-is_named.ensures) (none-named 0 c.args.draft.now.draft.after)

pub loop-at-preserved : goal.loop-at-preserved
loop-at-preserved c =
    elim c.match-touched_at.branch [
      | in-Some+in_ok-is_named+else-not-branch w ↦ turn c.args.draft.now.touched c.loop-at.at w.in-Some.id is_named c.args.draft.now.draft.after (sym w.in-Some.is ∙ c.touched_at.ensures) (sym w.if-not-branch.false ∙ w.in_ok-is_named.ensures) c.loop-at.invariant
      | in_default w ↦ absurd (within c.args.draft.now.touched c.loop-at.at (let l = c.loop-at-test.true in let e = c.touched_len-at-end.ensures in omega arith) (sym w.in_default.is ∙ c.touched_at.ensures))
    ]

pub returns : goal.returns
returns c =
    let l = c.loop-at-test.false in
    let e = c.touched_len-at-end.ensures in
    sym (ended c.args.draft.now.touched c.loop-at.at is_named c.args.draft.now.draft.after (omega arith) c.loop-at.invariant) ∙ none-named 0 c.args.draft.now.draft.after
