-- What is to be seen in a draft.
use Rattle.std.specs.Prelude.{None}
use Rattle.chosen_drafts.specs.Terms.{ChosenTerm}
use Rattle.chosen_drafts.specs.declared.draft.ChosenDraft.TheInside.{Inside}
use Rattle.chosen_drafts.specs.declared.draft.Shown.{Shown}
use Rattle.chosen_drafts.specs.declared.draft.Shown.TheVariants.{Whole, Chosen}

abbrev pub seen_in : Shown → ChosenTerm
seen_in (Whole d) = record { before = d.before; after = d.after; next = d.next; roots = None }
seen_in (Chosen d) = d

abbrev pub chosen_of : Inside → ChosenTerm
chosen_of a = seen_in a.shown
