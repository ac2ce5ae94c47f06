-- How many positions are learnt from 1 on, where at most the first is.
use Rattle.std.proofs.Common.{◌≡◌, ℕ, zero, suc, Bool, true, false, refl, ap, ◌∙◌, Some, None, List, [], is_some}
use Rattle.ballots.specs.Values.{positions}
use Rattle.ballots.specs.declared.value.Value.{Value}
use Rattle.paxos.specs.Knowledge.{Heard, learnt, last_of_run, prefix}

-- a run stops where the test fails
run_stops : (test : ℕ → Bool) (k p : ℕ) → test (suc p) ≡ false → last_of_run test k p ≡ p
run_stops test zero p h = refl
run_stops test (suc k) p h = ap (λ (b : Bool). elim b as (λ x. ℕ) [ true ↦ last_of_run test k (suc p) | false ↦ p ]) h

-- where nothing is learnt at 1 the prefix is empty
pub prefix_none : (n : ℕ) (heard : List Heard) → learnt n 1 heard ≡ None → prefix n heard ≡ 0
prefix_none n heard h = run_stops (λ p. is_some (learnt n p heard)) positions 0 (ap is_some h)

-- where nothing is heard it is empty
pub prefix_empty : (n : ℕ) → prefix n [] ≡ 0
prefix_empty n = prefix_none n [] refl

-- where a value is learnt at 1 alone it is 1
pub prefix_one : (n : ℕ) (heard : List Heard) (v : Value) → learnt n 1 heard ≡ Some v → learnt n 2 heard ≡ None → prefix n heard ≡ 1
unfolding positions
prefix_one n heard v h g =
    ap (λ (b : Bool). elim b as (λ x. ℕ) [ true ↦ last_of_run (λ p. is_some (learnt n p heard)) 999999 1 | false ↦ 0 ]) (ap is_some h)
    ∙ run_stops (λ p. is_some (learnt n p heard)) 999999 1 (ap is_some g)
