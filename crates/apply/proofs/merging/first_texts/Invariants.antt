use Rattle.std.proofs.Common.{◌≡◌, ◌+◌, drop}
use Rattle.apply.specs.Texts.{first_texts}
use Rattle.apply.proofs.merging.first_texts.Given as goal

abbrev pub invariant-loop-id : goal.invariant-loop-id
invariant-loop-id l = record {
  so_far : l.count ≡ l.id-index;
  counted : l.count + first_texts l.draft.draft.after (drop l.id-index l.ids) ≡ first_texts l.draft.draft.after l.ids;
}
