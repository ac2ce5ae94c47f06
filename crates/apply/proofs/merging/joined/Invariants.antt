use Rattle.std.proofs.Common.{◌≡◌, ◌++◌, drop, string_bytes}
use Rattle.apply.specs.Texts.{texts_of}
use Rattle.apply.proofs.merging.joined.Given as goal

abbrev pub invariant-loop-id : goal.invariant-loop-id
invariant-loop-id l = string_bytes l.text ++ texts_of l.draft.draft.after (drop l.id-index l.ids) ≡ texts_of l.draft.draft.after l.ids
