-- What a reader is, and what it answers.
use Rattle.std.specs.Prelude.{◌≡◌, ◌⊎◌, ℕ, zero, suc, List, [], ◌∷◌, ◌++◌, length, string_bytes}
use Rattle.std.specs.declared.string.String.{String}
use Rattle.ballots.specs.Replies.{answered}
use Rattle.ballots.specs.declared.reply.Answer.{Answer}
use Rattle.ballots.specs.declared.value.Value.{Value}
use Rattle.paxos.specs.Application.{Application}
use Rattle.sight.specs.Sights.{IsSight}

-- Its number; its sight, the values that it has seen the effect of or was told of; and the list that it was shown when it last asked.
pub record Reader : Type 0 where
  pub number : ℕ
  pub sight : List Value
  pub shown : List Value

-- a reader that has seen these values, and was shown nothing yet
abbrev pub new_reader : (number : ℕ) → (published : List Value) → Reader
new_reader n published = record { number = n; sight = published; shown = [] }

-- so many of them, numbered from 1
abbrev pub first_readers : (count : ℕ) → (published : List Value) → List Reader
first_readers zero published = []
first_readers (suc n) published = first_readers n published ++ new_reader (suc n) published ∷ []

-- A reader that is told of a list has seen no less than before, and no less than it was told of.
abbrev pub Learns : (told old new : List Value) → Type 0
Learns told old new = IsSight old new × IsSight told new × ((new ≡ old) ⊎ (new ≡ told))

-- what a question of a level and a text is answered over these values, and how many they are
abbrev pub IsAnswer : Application → (level : ℕ) → (text : List ℕ) → Answer → (position : ℕ) → (values : List Value) → Type 0
IsAnswer app level text answer position values = (answered answer ≡ app.answer values level text) × (position ≡ length values)

-- These questions, each of a level and a text, were answered by these answers in turn, by a reader that had seen the first list before and the
-- last list then: each over a list that begins with all that it had seen until then, and is from then on what it has seen.
pub data Serves {Z : Type 0} (app : Application) (seen : List Value) : List (ℕ × String Z) → List (Answer × ℕ) → List Value → Type 0 where
  nothing : Serves app seen [] [] seen
  next : (asks : List (ℕ × String Z)) (answers : List (Answer × ℕ)) (then : List Value) (ask : ℕ × String Z) (answer : Answer × ℕ) (now : List Value)
      → Serves app seen asks answers then → IsSight then now → IsAnswer app ask.0 (string_bytes ask.1) answer.0 answer.1 now → Serves app seen (asks ++ ask ∷ []) (answers ++ answer ∷ []) now
