-- A leader that knows of nothing at its next position, nor above it, proposes nothing by itself.
use Rattle.std.proofs.Common.{◌≡◌, ℕ, ◌≤◌, arith, Bool, true, false, cond, refl, ap, ◌∙◌, Option, Some, None, List}
use Rattle.std.proofs.lemmas.Bool.{le-ltb}
use Rattle.ballots.specs.Messages.{Packet}
use Rattle.ballots.specs.Values.{positions}
use Rattle.paxos.specs.Proposing.{Turn, has_place, turn}
use Rattle.paxos.specs.Step.{Leader, goes_on, turn_of, cover_heard, report_heard, is_learnt_heard}
use Rattle.paxos.proofs.Quick.{EndsAt, quick_turn, quick_turns, goes_quickly, turns_quickly}

module _ (n : ℕ) (heard : List Packet) (l : Leader) (k : ℕ) (ends : EndsAt n heard l k) (report : report_heard heard l l.next ≡ None) (learnt : is_learnt_heard n heard l.next ≡ false) (above : k ≤ l.next) where
  -- there is no next proposal
  stays : quick_turn n (cover_heard heard l) (report_heard heard l) (is_learnt_heard n heard) k (turn_of l) ≡ None
  stays = rw (learnt, report, le-ltb l.next k above) (none (has_place n (cover_heard heard l) (turn_of l)))
    where
      none : (b : Bool) → cond {A = Option Turn} b None None ≡ None
      none true = refl
      none false = refl

  -- proposing has stopped
  pub no_turn : turn n (cover_heard heard l) (report_heard heard l) (is_learnt_heard n heard) (turn_of l) ≡ None
  no_turn = turns_quickly n heard l k ends ∙ stays

  -- and does not go on
  pub goes_nowhere : goes_on n heard l ≡ turn_of l
  unfolding positions
  goes_nowhere = goes_quickly n heard l k 1 (turn_of l) ends (omega arith)
      (ap (λ (o : Option Turn). elim o as (λ x. Option Turn) [ None ↦ Some (turn_of l) | Some u ↦ quick_turns n (cover_heard heard l) (report_heard heard l) (is_learnt_heard n heard) k 0 u ]) stays)
