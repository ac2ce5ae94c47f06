-- What a learner is to its callers.
use Rattle.std.specs.Prelude.{ℕ, Bool, not, ◌==◌, List, Option, refl}
use Rattle.std.specs.List.{filter}
use Rattle.std.specs.Coded.{Coded, code_by, coded×, coded_ℕ, coded_list, coded_option}
use Rattle.ballots.specs.declared.value.Value.{Value}
use Rattle.ballots.specs.declared.value.Vote.{Vote}
use Rattle.ballots.specs.declared.value.Pair.{Pair}
use Rattle.ballots.specs.contracts.value.Value as value
use Rattle.ballots.specs.contracts.value.Vote as vote
use Rattle.position_map.specs.Slots.{filled}
use Rattle.learner.specs.Slots.{pairs_of}

-- the members that were heard to have accepted a vote at a position: bit m - 1 of the mask is member m's
pub record Tally : Type 0 where
  pub position : ℕ
  pub vote : Vote
  pub mask : ℕ

abbrev pub tally_code : Coded Tally
tally_code =
    code_by (ℕ × (Vote × ℕ)) (coded× coded_ℕ (coded× vote.the_row.coded coded_ℕ)) (λ t. (t.position, (t.vote, t.mask))) (λ p. record { position = p.0; vote = p.1.0; mask = p.1.1 }) (λ _. refl)

-- how many members there are; by rising position the values learnt, or room for one; the tallies of the positions that are not
-- learnt, or room for one: a tally that nobody is in
pub record Learner : Type 0 where
  pub members : ℕ
  pub slots : List (ℕ × Option Value)
  pub tallies : List Tally

abbrev pub learner_code : Coded Learner
learner_code =
    code_by (ℕ × (List (ℕ × Option Value) × List Tally)) (coded× coded_ℕ (coded× (coded_list (coded× coded_ℕ (coded_option value.the_row.coded))) (coded_list tally_code))) (λ l. (l.members, (l.slots, l.tallies))) (λ p. record { members = p.0; slots = p.1.0; tallies = p.1.1 }) (λ _. refl)

-- the values learnt, without the room
abbrev pub learnt_of : Learner → List Pair
learnt_of l = pairs_of (filled l.slots)

-- somebody is in the tally
abbrev pub is_open : Tally → Bool
is_open t = not (t.mask == 0)

-- the tallies that somebody is in
abbrev pub open_in : List Tally → List Tally
open_in ts = filter is_open ts

-- the tallies of a learner without the room
abbrev pub open_of : Learner → List Tally
open_of l = open_in l.tallies
