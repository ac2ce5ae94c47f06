use Rattle.std.proofs.Common.{◌≡◌, true, drop, length}
use Rattle.tracked_drafts.specs.Tests.{all_but, is_filled, Begins}
use Rattle.apply.specs.Texts.{filled_below}
use Rattle.apply.proofs.emptying.empty_all.Given as goal

abbrev pub invariant-loop-at : goal.invariant-loop-at
invariant-loop-at l = record {
  end : l.at-end ≡ length l.fn.draft.touched;
  same : l.draft.draft ≡ record l.fn.draft.draft { after = l.draft.draft.after };
  filled : filled_below l.draft.draft.after ≡ filled_below l.fn.draft.draft.after;
  others : all_but (drop l.at l.fn.draft.touched) is_filled 0 l.draft.draft.after ≡ true;
  touched : Begins l.fn.draft.touched l.draft.touched;
}
