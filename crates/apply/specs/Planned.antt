-- Drafts as they are to be prepared.
use Rattle.std.specs.Prelude.{Result, Ok, Err}
use Rattle.data_model.specs.Trees.{Trees}
use Rattle.fault_codes.specs.declared.code.Code.{Code}
use Rattle.trees.specs.Drafts.{DraftTerm}
use Rattle.chosen_drafts.specs.Terms.{ChosenTerm, whole_draft}

-- the draft of the whole forest, in which the trees that were to be seen are to be these, or the code
abbrev pub planned_draft : ChosenTerm → Result Trees Code → Result DraftTerm Code
planned_draft d (Ok us) = Ok (whole_draft (record d { after = us }))
planned_draft d (Err code) = Err code
