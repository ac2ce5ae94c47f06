-- How a server goes by rounds, and how many turns it takes in them.
use Rattle.std.proofs.Common.{◌≡◌, ℕ, ◌+◌, ◌≤◌, arith, List, [], ◌∷◌, ◌++◌, length, length-append, sym, ap, subst, ◌∙◌, inl, inr}
use Rattle.std.specs.Prelude.{Result, Ok, Err, IfOk}
use Rattle.std.proofs.lemmas.Grind.{flat_map-append}
use Rattle.paxos.specs.Records.{Record}
use Rattle.server_steps.proofs.Said.{said_both}
use Rattle.server_steps.specs.Going.{IsGivenNothing}
use Rattle.server_steps.specs.Moves.{AreTurns, Deed, IsTurn, came_by, came_with, no_turn, one_more}
use Rattle.server_steps.specs.declared.fault.ServeFault.{ServeFault}
use Rattle.serving.specs.Serves.{IsEnded, Rounds}
use Rattle.wires.specs.Wires.{Carried, HasSaid}

-- with a turn comes one datagram at most
turn_came : {D : Type 0} (ds : List (Deed D)) → IsTurn ds → length (came_by ds) ≤ 1
turn_came ds (rest, none, inl (d, is)) = let one : length (came_by ds) ≡ 1 = ap (λ l. length (came_by l)) is ∙ ap (λ (l : List (Carried _)). length (d ∷ l)) none in omega (arith, one)
turn_came ds (rest, none, inr is) = let zero : length (came_by ds) ≡ 0 = ap (λ l. length (came_by l)) is ∙ ap length none in omega (arith, zero)

pub turns_came : {D : Type 0} (n : ℕ) (ds : List (Deed D)) → AreTurns n ds → length (came_by ds) ≤ n
turns_came n ds no_turn = let zero : 0 ≤ 0 = omega arith in zero
turns_came n ds (one_more k fs gs before turn) =
    let both : length (came_by (fs ++ gs)) ≡ length (came_by fs) + length (came_by gs) = ap length (flat_map-append came_with fs gs) ∙ length-append (came_by fs) (came_by gs) in
    let first = turns_came k fs before in
    let last = turn_came gs turn in
    omega (arith, both, first, last)

module _ {R A D W : Type 0} (is_kept : R → Type 0) (leaves : R → Record → Record → Type 0) (was_given : W → List (Carried D) → Type 0) where
  -- the wire was given nothing before either
  pub ended_after : (y : Rounds R A D) (v w u : W) → IsGivenNothing was_given v w → IsEnded is_kept leaves was_given y w u → IsEnded is_kept leaves was_given y v u
  ended_after y v w u nothing (inl written) = inl written
  ended_after y v w u nothing (inr (lags, silent)) = inr (lags, λ ds g. silent ds (nothing ds g))

module _ {D W : Type 0} (has_brought : W → List (Carried D) → Type 0) (has_waited : W → ℕ → ℕ → Type 0) where
  -- the wire said once what came, and then so much more
  pub said_first : (v w u : W) (r : Result ℕ ServeFault) → HasSaid has_brought has_waited v w 1 0 → IfOk r (λ taken. (more : ℕ) × (taken ≡ 1 + more) × HasSaid has_brought has_waited w u more 0)
      → IfOk r (λ taken. (failures : ℕ) × (1 ≤ taken + failures) × HasSaid has_brought has_waited v u taken failures)
  said_first v w u (Ok taken) one (more, is, later) = (0, omega (arith, is), subst (λ n. HasSaid has_brought has_waited v u n 0) (sym is) (said_both has_brought has_waited v w u 1 more 0 0 one later))
  said_first v w u (Err fault) one more = more
