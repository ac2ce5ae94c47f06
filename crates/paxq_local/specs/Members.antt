-- What the members of a group say to its client.
use Rattle.std.specs.Prelude.{◌≡◌, ℕ, ◌+◌, ◌^◌, ◌-◌, ◌<◌, min, max, Bool, true, List, length, Option, Some, IfSome, slice_get, string_bytes}
use Rattle.std.specs.declared.alloc.Global.{Global}
use Rattle.std.specs.declared.string.String.{String}
use Rattle.ballots.specs.declared.request.RequestId.{RequestId}
use Rattle.clients.specs.Hearing.{HeardTerm}
use Rattle.paxq_local.specs.Answering.{has_answered}
use Rattle.paxq_local.specs.Told.{IsSaidFrom, answer_told, told_at}
use Rattle.paxq_local.specs.declared.answers.Answers.{Answers}
use Rattle.paxq_local.specs.declared.answers.Told.{Told}
use Rattle.paxq_local.specs.declared.answers.Told.TheVariants.{Said, Differ, NoAnswer}
use Rattle.paxq_local.specs.declared.asked.Form.{Form}
use Rattle.paxq_local.specs.declared.asked.Form.TheVariants.{Submit, Ask, AskAt}
use Rattle.wires.specs.Wires.{Carried}

-- the group's number
abbrev pub own_group : ℕ
own_group = 0

-- the number of the command before which so many were asked: one more, as far as 64 bits count
abbrev pub number_after : (asked : ℕ) → ℕ
number_after asked = min (asked + 1) (2 ^ 64 - 1)

-- what a question goes by before which so many commands were asked
abbrev pub question_after : (asked : ℕ) → RequestId
question_after asked = record { client = 0; number = number_after asked }

-- The addresses of the members, in member order. Which addresses are the same, `eq` says.
module _ {A : Type 0} (eq : A → A → Bool) (peers : List A) where
  -- it is the address of the member before which so many stand
  abbrev pub IsAt : (before : ℕ) → (address : A) → Type 0
  IsAt before address = (peer : A) × (slice_get peers before ≡ Some peer) × (eq address peer ≡ true)

  module _ (brought : List (Carried A)) where
    -- that member said this, from its own address
    abbrev pub IsSaidBy : {X : Type 0} → (before : ℕ) → (said : Option HeardTerm → Option X) → RequestId → X → Type 0
    IsSaidBy before said id x = (peer : A) × (slice_get peers before ≡ Some peer) × IsSaidFrom eq peer brought said own_group id x

    -- what is printed of that member's answer to a question; the answer says whose it is
    abbrev pub IsAnswerOf : (before : ℕ) → RequestId → (text : List ℕ) → Type 0
    IsAnswerOf before id text = IsSaidBy before answer_told id (before + 1, text)

    -- What came of a line that the first member was asked. What it said is printed, and the floor from then on is the position of a reply, if that is higher.
    abbrev pub IsToldByFirst : Form → RequestId → (floor next : ℕ) → Told → Type 0
    IsToldByFirst form id floor next (Said text) = (position : ℕ) × (next ≡ max floor position) × IsSaidBy 0 (told_at form) id (string_bytes text, position)
    IsToldByFirst form id floor next Differ = ⊥
    IsToldByFirst form id floor next NoAnswer = Unit {0}

    module _ (members : ℕ) where
      -- each of so many members, one at least, answers a question so
      abbrev pub IsSaidByAll : RequestId → (text : List ℕ) → Type 0
      IsSaidByAll id text = (0 < members) × ((before : ℕ) → before < members → IsAnswerOf before id text)

      -- A line that was said by whom it was asked of, with the position that a reply names (else 0): a request and a question with a floor by the first
      -- member, a question without one by each of so many members, all of them the same.
      abbrev pub IsSaidTo : Form → RequestId → (text : List ℕ) → (position : ℕ) → Type 0
      IsSaidTo Submit id text position = IsSaidBy 0 (told_at Submit) id (text, position)
      IsSaidTo Ask id text position = (position ≡ 0) × IsSaidByAll id text
      IsSaidTo AskAt id text position = IsSaidBy 0 (told_at AskAt) id (text, position)

      -- two of so many members answered a question, and not the same
      pub record HaveDiffered (id : RequestId) : Type 0 where
        pub one : ℕ
        pub other : ℕ
        pub text : List ℕ
        pub differing : List ℕ
        pub are_two : ¬ (one ≡ other)
        pub one_is_in : one < members
        pub other_is_in : other < members
        pub by_one : IsAnswerOf one id text
        pub by_other : IsAnswerOf other id differing
        pub is_other_text : ¬ (text ≡ differing)

      -- only where all members are asked can answers differ
      abbrev pub AreDiffering : Form → RequestId → Type 0
      AreDiffering Submit id = ⊥
      AreDiffering Ask id = HaveDiffered id
      AreDiffering AskAt id = ⊥

      -- what came of a question that all were asked
      abbrev pub IsToldByAll : RequestId → Told → Type 0
      IsToldByAll id (Said text) = IsSaidByAll id (string_bytes text)
      IsToldByAll id Differ = HaveDiffered id
      IsToldByAll id NoAnswer = Unit {0}

      -- What came of a line that went by that, and the floor of questions before it and from then on: the highest position of a reply.
      abbrev pub IsToldAs : Form → RequestId → (floor next : ℕ) → Told → Type 0
      IsToldAs form id floor next (Said text) = (position : ℕ) × (next ≡ max floor position) × IsSaidTo form id (string_bytes text) position
      IsToldAs form id floor next Differ = AreDiffering form id
      IsToldAs form id floor next NoAnswer = Unit {0}

      -- what is held of the answers of so many members to a question was said: by each that has answered, one at least where a text is held
      pub record HoldsSaid (id : RequestId) (answers : Answers) : Type 0 where
        pub are_all : length answers.has.items ≡ members
        pub by_some : IfSome answers.text (λ _. (before : ℕ) × (has_answered answers before ≡ true))
        pub by_each : (before : ℕ) → has_answered answers before ≡ true → (text : String Global) × (answers.text ≡ Some text) × IsAnswerOf before id (string_bytes text)
