-- What a command asks of members.
use Rattle.std.specs.Prelude.{◌≡◌, ◌≤◌, ◌==◌, ℕ, true, List, [], ◌++◌, filter, length, replicate, IfOk, MatchOption, Option, Result}
use Rattle.ballots.specs.Messages.{Submit, Ask}
use Rattle.ballots.specs.Terms.{is_level, most_text}
use Rattle.ballots.specs.Values.{positions}
use Rattle.ballots.specs.declared.request.RequestId.{RequestId}
use Rattle.messages.specs.Spelling.{spelling}
use Rattle.paxq_files.specs.Script.{Command, submit, ask, ask_at, command_alone}
use Rattle.paxq_local.specs.declared.asked.Form.{Form}
use Rattle.paxq_local.specs.declared.asked.Form.TheVariants as form
use Rattle.paxq_local.specs.declared.asked.Asked.{Asked}
use Rattle.wires.specs.Wires.{Carried}

abbrev pub form_of : Command → Form
form_of (submit r) = form.Submit
form_of (ask level text) = form.Ask
form_of (ask_at level floor text) = form.AskAt

-- a request goes by its own client and number, a question by those that it is given
abbrev pub id_of : RequestId → Command → RequestId
id_of id (submit r) = record { client = r.client; number = r.number }
id_of id (ask level text) = id
id_of id (ask_at level floor text) = id

abbrev pub question_bytes : (group : ℕ) → RequestId → (floor level : ℕ) → (text : List ℕ) → List ℕ
question_bytes group id floor level text = spelling (record { group = group; sender = 0; body = Ask (record { client = id.client; number = id.number; floor = floor; level = level; text = text }) })

-- the datagram that asks for it; a question without a floor is given one
abbrev pub bytes_of : (group : ℕ) → RequestId → (floor : ℕ) → Command → List ℕ
bytes_of group id floor (submit r) = spelling (record { group = group; sender = 0; body = Submit r })
bytes_of group id floor (ask level text) = question_bytes group id floor level text
bytes_of group id floor (ask_at level own text) = question_bytes group id own level text

-- it is what the command asks
pub record IsAsked (group : ℕ) (own : RequestId) (floor : ℕ) (command : Command) (asked : Asked) : Type 0 where
  pub id : asked.id ≡ id_of own command
  pub form : asked.form ≡ form_of command
  pub bytes : asked.bytes.items ≡ bytes_of group own floor command

-- there is a datagram that asks it: there is the level, the text is not too long, and the floor is 0 or a position
abbrev pub IsQuestion : (floor level : ℕ) → (text : List ℕ) → Type 0
IsQuestion floor level text = (is_level level ≡ true) × (length text ≤ most_text) × (floor ≤ positions)

-- so it is with a command; a request has one
abbrev pub CanBeAsked : (floor : ℕ) → Command → Type 0
CanBeAsked floor (submit r) = Unit {0}
CanBeAsked floor (ask level text) = IsQuestion floor level text
CanBeAsked floor (ask_at level own text) = IsQuestion own level text

-- The same but for the level, which each line of a script has: a question's text is not too long, and its floor is 0 or a position.
abbrev pub IsInBounds : (floor : ℕ) → Command → Type 0
IsInBounds floor (submit r) = Unit {0}
IsInBounds floor (ask level text) = (length text ≤ most_text) × (floor ≤ positions)
IsInBounds floor (ask_at level own text) = (length text ≤ most_text) × (own ≤ positions)

-- the datagram that asks the node at an address for it, from end 0; a question goes by the client and the number 0
abbrev pub datagram_to : {A : Type 0} → (group : ℕ) → (to : A) → Command → Carried A
datagram_to group to command = record { end = 0; peer = to; bytes = bytes_of group (record { client = 0; number = 0 }) 0 command }

-- how often something is sent before it gets no answer
abbrev pub most_tries : ℕ
most_tries = 200

-- those of them that the client sends, from end 0
abbrev pub from_client : {A : Type 0} → List (Carried A) → List (Carried A)
from_client {A} ds = filter (λ (d : Carried A). d.end == 0) ds

module _ {W A : Type 0} (was_given : W → List (Carried A) → Type 0) where
  -- from the one to the other the wire was given these
  abbrev pub IsGiven : (v w : W) → List (Carried A) → Type 0
  IsGiven v w sent = (ds : List (Carried A)) → was_given v ds → was_given w (ds ++ sent)

  -- From the one to the other the wire was given datagrams, and of those of them that the client sent this holds: members send from other ends.
  abbrev pub Gives : (v w : W) → (List (Carried A) → Type 0) → Type 0
  Gives v w P = (all : List (Carried A)) × IsGiven v w all × P (from_client all)

  -- the client sent nothing
  abbrev pub GivesNothing : (v w : W) → Type 0
  GivesNothing v w = Gives v w (λ went. went ≡ [])

  -- It was given a datagram again and again, 200 times at most: once at least where something was said to it, and all of them where nothing was.
  abbrev pub IsTried : {T E : Type 0} → (v w : W) → Carried A → (said : Result (Option T) E) → Type 0
  IsTried v w datagram said = (times : ℕ) × (times ≤ most_tries) × IsGiven v w (replicate times datagram) × IfOk said (λ s. MatchOption s (times ≡ most_tries) (λ _. 1 ≤ times))

  -- The same of what a run that ends with that status sends for a command: it is answered (0), or not (3).
  abbrev pub IsSent : (v w : W) → Carried A → (status : ℕ) → Type 0
  IsSent v w datagram status = (times : ℕ) × (times ≤ most_tries) × IsGiven v w (replicate times datagram) × (status ≡ 0 → 1 ≤ times) × (status ≡ 3 → times ≡ most_tries)

  -- and for a line; where it is no command nothing is sent
  abbrev pub IsSentFor : (v w : W) → (group : ℕ) → (to : A) → (line : List ℕ) → (status : ℕ) → Type 0
  IsSentFor v w group to line status = MatchOption (command_alone line) (IsGiven v w []) (λ command. IsSent v w (datagram_to group to command) status)
