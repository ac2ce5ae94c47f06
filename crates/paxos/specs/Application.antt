-- The application that answers clients from the values applied: what requests and questions mean is its own.
use Rattle.std.specs.Prelude.{ℕ, List, Option}
use Rattle.ballots.specs.declared.value.Value.{Value}
use Rattle.ballots.specs.declared.reply.Reply.{Reply}
use Rattle.ballots.specs.Replies.{Answered}

-- What the values applied, in the order of their positions, mean to clients: the reply to a client and a number, if a request with
-- them was applied, and the answer to a question at a level.
pub record Application : Type 0 where
  pub reply : List Value → (client : ℕ) → (number : ℕ) → Option Reply
  pub answer : List Value → (level : ℕ) → (text : List ℕ) → Answered
