-- What answers of an application are.
use Rattle.std.specs.Prelude.{◌≡◌, ℕ, List, string_bytes}
use Rattle.applications.specs.Limits.{IsWithin}
use Rattle.ballots.specs.Replies.{answered}
use Rattle.ballots.specs.declared.reply.Answer.{Answer}
use Rattle.ballots.specs.declared.value.Value.{Value}
use Rattle.node.specs.declared.answers.KeptAnswer.{KeptAnswer}
use Rattle.paxos.specs.Application.{Application}
use Rattle.paxos.specs.Lists.{Has}

module _ {A : Type 0} (has_applied : List (List ℕ) → List Value → A → Type 0) (meaning : List (List ℕ) → Application) where
  -- it is the answer to a question of that level and text, over whichever values the application has applied
  pub record IsAnswer (a : A) (level : ℕ) (text : List ℕ) (answer : Answer) : Type 0 where
    pub within : IsWithin (answered answer)
    pub means : (names : List (List ℕ)) (values : List Value) → has_applied names values a → answered answer ≡ (meaning names).answer values level text

  -- each of these is the answer to its question
  abbrev pub AreAnswers : (a : A) → List KeptAnswer → Type 0
  AreAnswers a kept = (k : KeptAnswer) → Has kept k → IsAnswer a k.level (string_bytes k.text) k.answer
