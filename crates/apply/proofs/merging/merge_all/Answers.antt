use Rattle.std.proofs.Common.{◌≡◌, ℕ, ◌+◌, ◌<◌, ◌≤◌, true, List, drop, length, ap, sym, ◌∙◌, arith, subst}
use Rattle.std.proofs.Math.ListN.{drop_of_length-le}
use Rattle.data_model.specs.Trees.{Trees}
use Rattle.tracked_drafts.specs.Tests.{all_but, is_apart}
use Rattle.tracked_drafts.proofs.Marks.{begins-trans}
use Rattle.chosen_drafts.specs.Terms.{ChosenTerm}
use Rattle.apply.proofs.Alls.{apart-below}
use Rattle.apply.proofs.Calls.{touched-next}
use Rattle.apply.proofs.merging.merge_all.Goals as goal

pub loop-at-preserved : goal.loop-at-preserved
loop-at-preserved c =
    let start = c.args.draft.now.touched in
    let was = c.loop-at.invariant in
    let end : c.touched_len-at-end.result ≡ length start = was.end in
    let turn : c.loop-at.at < c.touched_len-at-end.result = c.loop-at-test.true in
    let next = touched-next start c.loop-at.draft.touched c.loop-at.at c.in-Some.id was.touched (omega arith) (sym c.in-Some.ensures) in
    let left : List ℕ → Type 0 = λ is. all_but is is_apart 0 c.loop-at.draft.draft.after ≡ true in
    let after : ChosenTerm → ChosenTerm = λ d. record d { after = c.merge.new.draft.draft.after } in
    let step = c.in_ok-merge.ensures in
    record {
      end = was.end;
      same = step.same ∙ ap after was.same;
      merged = step.merges.merged ∙ was.merged;
      apart = step.merges.apart (drop (c.loop-at.at + 1) start) (subst left next was.apart);
      touched = begins-trans start c.loop-at.draft.touched c.merge.new.draft.touched was.touched step.touched;
    }

pub returns-clause-merged : goal.returns-clause-merged
returns-clause-merged c =
    let start = c.args.draft.now.touched in
    let was = c.loop-at.invariant in
    let end : c.touched_len-at-end.result ≡ length start = was.end in
    let turned : c.touched_len-at-end.result ≤ c.loop-at.at = c.loop-at-test.false in
    let left : List ℕ → Type 0 = λ is. all_but is is_apart 0 c.loop-at.draft.draft.after ≡ true in
    let none = subst left (drop_of_length-le start (omega arith)) was.apart in
    let after : Trees → ChosenTerm = λ t. record c.args.draft.now.draft { after = t } in
    was.same ∙ ap after (sym (apart-below c.loop-at.draft.draft.after none) ∙ was.merged)
