-- What a learner has learnt from a position on.
use Rattle.std.specs.Prelude.{◌≡◌, ◌≤◌, ◌-◌, ℕ, zero, suc, List, [], ◌∷◌, ◌++◌, map, Option, Some, None, option_to_list}
use Rattle.ballots.specs.Values.{positions}
use Rattle.ballots.specs.declared.value.Pair.{Pair}
use Rattle.paxos.specs.Knowledge.{pair_of, value_at}

-- the pairs at k positions from p on
abbrev pub pairs_in : List Pair → (p : ℕ) → (k : ℕ) → List Pair
pairs_in learnt p zero = []
pairs_in learnt p (suc k) = map (pair_of p) (option_to_list (value_at p learnt)) ++ pairs_in learnt (suc p) k

-- the pairs from p on, by rising position
abbrev pub pairs_from : List Pair → (p : ℕ) → List Pair
pairs_from learnt p = pairs_in learnt p (suc positions - p)

-- this is the first pair from p on, if there is one
abbrev pub IsFirst : List Pair → (p : ℕ) → Option Pair → Type 0
IsFirst learnt p None = pairs_from learnt p ≡ []
IsFirst learnt p (Some e) = (p ≤ e.position) × (e.position ≤ positions) × (pairs_from learnt p ≡ e ∷ pairs_from learnt (suc e.position))
