-- What a learner is about to change, as the code has it.
use Rattle.std.specs.Prelude.{ℕ, List}
use Rattle.learner.specs.Changes.{Change, Nothing, Counts, Learns}
use Rattle.learner.specs.declared.draft.Change.{Change as ChangeOfCode}
use Rattle.learner.specs.declared.draft.Change.TheVariants as change

-- a change, and the positions that are learnt by it
pub record Draft : Type 0 where
  pub change : Change
  pub news : List ℕ

-- what a change of the code says
abbrev pub change_in : ChangeOfCode → Change
change_in change.Nothing = Nothing
change_in (change.Counts member position vote) = Counts member position vote
change_in (change.Learns pairs) = Learns pairs.items
