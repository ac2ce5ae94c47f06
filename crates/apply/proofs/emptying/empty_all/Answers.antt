use Rattle.std.proofs.Common.{◌≡◌, ℕ, ◌+◌, ◌<◌, ◌≤◌, true, List, drop, length, ap, sym, ◌∙◌, arith, subst}
use Rattle.std.proofs.Math.ListN.{drop_of_length-le}
use Rattle.data_model.specs.Trees.{Trees}
use Rattle.tracked_drafts.specs.Tests.{all_but, is_filled}
use Rattle.tracked_drafts.proofs.Marks.{begins-trans}
use Rattle.chosen_drafts.specs.Terms.{ChosenTerm}
use Rattle.apply.proofs.Alls.{filled-all-below}
use Rattle.apply.proofs.Calls.{touched-next}
use Rattle.apply.proofs.emptying.empty_all.Goals as goal

pub loop-at-preserved : goal.loop-at-preserved
loop-at-preserved c =
    let start = c.args.draft.now.touched in
    let was = c.loop-at.invariant in
    let end : c.touched_len-at-end.result ≡ length start = was.end in
    let turn : c.loop-at.at < c.touched_len-at-end.result = c.loop-at-test.true in
    let next = touched-next start c.loop-at.draft.touched c.loop-at.at c.in-Some.id was.touched (omega arith) (sym c.in-Some.ensures) in
    let left : List ℕ → Type 0 = λ is. all_but is is_filled 0 c.loop-at.draft.draft.after ≡ true in
    let after : ChosenTerm → ChosenTerm = λ d. record d { after = c.empty.new.draft.draft.after } in
    let step = c.in_ok-empty.ensures in
    record {
      end = was.end;
      same = step.same ∙ ap after was.same;
      filled = step.empties.filled ∙ was.filled;
      others = step.empties.others (drop (c.loop-at.at + 1) start) (subst left next was.others);
      touched = begins-trans start c.loop-at.draft.touched c.empty.new.draft.touched was.touched step.touched;
    }

pub returns-clause-filled : goal.returns-clause-filled
returns-clause-filled c =
    let start = c.args.draft.now.touched in
    let was = c.loop-at.invariant in
    let end : c.touched_len-at-end.result ≡ length start = was.end in
    let turned : c.touched_len-at-end.result ≤ c.loop-at.at = c.loop-at-test.false in
    let left : List ℕ → Type 0 = λ is. all_but is is_filled 0 c.loop-at.draft.draft.after ≡ true in
    let none = subst left (drop_of_length-le start (omega arith)) was.others in
    let after : Trees → ChosenTerm = λ t. record c.args.draft.now.draft { after = t } in
    was.same ∙ ap after (sym (filled-all-below c.loop-at.draft.draft.after none) ∙ was.filled)
