use Rattle.std.proofs.Common.{◌≡◌, true, drop, length}
use Rattle.tracked_drafts.specs.Tests.{all_but, is_apart, Begins}
use Rattle.apply.specs.Texts.{merged_below}
use Rattle.apply.proofs.merging.merge_all.Given as goal

abbrev pub invariant-loop-at : goal.invariant-loop-at
invariant-loop-at l = record {
  end : l.at-end ≡ length l.fn.draft.touched;
  same : l.draft.draft ≡ record l.fn.draft.draft { after = l.draft.draft.after };
  merged : merged_below l.draft.draft.after ≡ merged_below l.fn.draft.draft.after;
  apart : all_but (drop l.at l.fn.draft.touched) is_apart 0 l.draft.draft.after ≡ true;
  touched : Begins l.fn.draft.touched l.draft.touched;
}
