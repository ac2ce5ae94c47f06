-- What the client of a group sends to its members.
use Rattle.std.specs.Prelude.{◌≡◌, ◌≤◌, ◌<◌, ◌==◌, ℕ, false, List, [], ◌∷◌, length, replicate, count_by, IfOk, Option, Some, None, Result, slice_get}
use Rattle.std.specs.List.{flat_map}
use Rattle.paxos.specs.Lists.{Has}
use Rattle.paxq_files.specs.Script.{Command}
use Rattle.paxq_local.specs.Answering.{has_answered}
use Rattle.paxq_local.specs.Asking.{CanBeAsked, IsInBounds, bytes_of, form_of, most_tries}
use Rattle.paxq_local.specs.Members.{own_group, question_after}
use Rattle.paxq_local.specs.declared.answers.Answers.{Answers}
use Rattle.paxq_local.specs.declared.answers.Told as declared
use Rattle.paxq_local.specs.declared.answers.Told.TheVariants.{Said, Differ, NoAnswer}
use Rattle.paxq_local.specs.declared.asked.Form.{Form}
use Rattle.paxq_local.specs.declared.asked.Form.TheVariants.{Submit, Ask, AskAt}
use Rattle.wires.specs.Wires.{Carried}

-- the client's datagram to an address, if there is one
abbrev pub datagram_at : {A : Type 0} → (bytes : List ℕ) → Option A → List (Carried A)
datagram_at bytes None = []
datagram_at bytes (Some peer) = record { end = 0; peer = peer; bytes = bytes } ∷ []

-- How often something is sent to a member. It is sent to these, one after the other; each is given by how many members stand before it.
abbrev pub times_to : (to : List ℕ) → (before : ℕ) → ℕ
times_to to before = count_by (λ other. other == before) to

-- how often a line is sent to the first member alone, where that comes of it
abbrev pub IsTriedFirst : (times : ℕ) → declared.Told → Type 0
IsTriedFirst times (Said text) = 1 ≤ times
IsTriedFirst times Differ = 1 ≤ times
IsTriedFirst times NoAnswer = times ≡ most_tries

-- The addresses of the members, in member order.
module _ {A : Type 0} (peers : List A) where
  -- the datagrams of these bytes to these members, in order
  abbrev pub sent_to : (bytes to : List ℕ) → List (Carried A)
  sent_to bytes to = flat_map (λ before. datagram_at bytes (slice_get peers before)) to

  -- Whom a line is asked of: a request and a question with a floor the first member, a question without one each that has an address.
  abbrev pub IsAskedOf : Form → (before : ℕ) → Type 0
  IsAskedOf Submit before = before ≡ 0
  IsAskedOf Ask before = before < length peers
  IsAskedOf AskAt before = before ≡ 0

  -- Just the datagram of a line is sent, to these members: only to those that it is asked of, and to none more than 200 times.
  pub record AreSent (form : Form) (bytes to : List ℕ) (went : List (Carried A)) : Type 0 where
    pub are : went ≡ sent_to bytes to
    pub only : (before : ℕ) → Has to before → IsAskedOf form before
    pub most : (before : ℕ) → times_to to before ≤ most_tries

  -- it is sent once at least to each that it is asked of
  abbrev pub AreAllAsked : Form → (to : List ℕ) → Type 0
  AreAllAsked form to = (before : ℕ) → IsAskedOf form before → 1 ≤ times_to to before

  -- so it is where no answer comes, and 200 times where it is asked of the first member alone
  abbrev pub AreAskedInVain : Form → (to : List ℕ) → Type 0
  AreAskedInVain Submit to = times_to to 0 ≡ most_tries
  AreAskedInVain Ask to = AreAllAsked Ask to
  AreAskedInVain AskAt to = times_to to 0 ≡ most_tries

  -- how often it is sent, where that comes of it
  abbrev pub IsTriedAs : Form → (to : List ℕ) → declared.Told → Type 0
  IsTriedAs form to (Said text) = AreAllAsked form to
  IsTriedAs form to Differ = AreAllAsked form to
  IsTriedAs form to NoAnswer = AreAskedInVain form to

  -- what is sent of a line, and how often, where a call has that result
  abbrev pub AreTried : {E : Type 0} → Form → (bytes : List ℕ) → Result declared.Told E → (went : List (Carried A)) → Type 0
  AreTried form bytes result went = (to : List ℕ) × AreSent form bytes to went × IfOk result (IsTriedAs form to)

  -- the same of one that is sent to the first member alone
  abbrev pub AreTriedFirst : {E : Type 0} → (bytes : List ℕ) → Result declared.Told E → (went : List (Carried A)) → Type 0
  AreTriedFirst bytes result went = (times : ℕ) × (times ≤ most_tries) × (went ≡ sent_to bytes (replicate times 0)) × IfOk result (IsTriedFirst times)

  -- It is sent to those of the first so many members that have not answered, and perhaps to others of them: to each once at most.
  pub record IsRound (bytes : List ℕ) (answers : Answers) (members : ℕ) (to : List ℕ) (went : List (Carried A)) : Type 0 where
    pub are : went ≡ sent_to bytes to
    pub only : (before : ℕ) → Has to before → before < members
    pub once : (before : ℕ) → times_to to before ≤ 1
    pub others : (before : ℕ) → before < members → has_answered answers before ≡ false → 1 ≤ times_to to before

  -- Just the datagram of a command is sent, before which so many were asked, at that floor; and nothing where its text is too long, or the floor no position.
  pub record AreSentFor (asked floor : ℕ) (command : Command) (to : List ℕ) (went : List (Carried A)) : Type 0 where
    pub sent : AreSent (form_of command) (bytes_of own_group (question_after asked) floor command) to went
    pub can : (before : ℕ) → Has to before → IsInBounds floor command

  -- how often it is sent, where that comes of it
  abbrev pub IsTriedFor : (floor : ℕ) → Command → (to : List ℕ) → declared.Told → Type 0
  IsTriedFor floor command to (Said text) = AreAllAsked (form_of command) to
  IsTriedFor floor command to Differ = AreAllAsked (form_of command) to
  IsTriedFor floor command to NoAnswer = CanBeAsked floor command → AreAskedInVain (form_of command) to

  -- what is sent of a command, and how often, where a call has that result
  abbrev pub AreTriedFor : {E : Type 0} → (asked floor : ℕ) → Command → Result declared.Told E → (went : List (Carried A)) → Type 0
  AreTriedFor asked floor command result went = (to : List ℕ) × AreSentFor asked floor command to went × IfOk result (IsTriedFor floor command to)
