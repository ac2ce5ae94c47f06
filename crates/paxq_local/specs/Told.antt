-- What is printed of what members say.
use Rattle.std.specs.Prelude.{◌≡◌, ℕ, Bool, true, List, ◌++◌, Option, Some, None}
use Rattle.std.specs.Option.{option_map}
use Rattle.ballots.specs.declared.reply.Reply.{Reply as Outcome}
use Rattle.ballots.specs.declared.reply.Reply.TheVariants.{Done, Fault}
use Rattle.ballots.specs.declared.request.RequestId.{RequestId}
use Rattle.clients.specs.Hearing.{HeardTerm, reply, answer, behind, elsewhere, heard_in}
use Rattle.messages.specs.Reading.{datagram_read}
use Rattle.paxos.specs.Lists.{Has}
use Rattle.paxq_local.specs.declared.asked.Form.{Form}
use Rattle.paxq_local.specs.declared.asked.Form.TheVariants.{Submit, Ask, AskAt}
use Rattle.printed_replies.specs.Lines.{reply_text, answer_text, behind_text, elsewhere_text}
use Rattle.wires.specs.Wires.{Carried}

-- What is printed where something that is heard answers a line: a reply a request, an answer a question, and that fewer positions are applied
-- a question with a floor. Nothing else answers it.
abbrev pub told : Form → Option HeardTerm → Option (List ℕ)
told Submit (Some (reply outcome)) = Some (reply_text outcome)
told Ask (Some (answer member applied said)) = Some (answer_text applied said)
told AskAt (Some (answer member applied said)) = Some (answer_text applied said)
told AskAt (Some (behind applied)) = Some (behind_text applied)
told form heard = None

-- the position that a reply names
abbrev pub position_of : Outcome → ℕ
position_of (Done position) = position
position_of (Fault code position) = position

-- the same of what is heard; what is no reply has 0
abbrev pub position_in : Option HeardTerm → ℕ
position_in (Some (reply outcome)) = position_of outcome
position_in heard = 0

-- what is printed, with the position that a request's reply names, and 0 where it is no request
abbrev pub told_at : Form → Option HeardTerm → Option (List ℕ × ℕ)
told_at form heard = option_map (λ text. (text, position_in heard)) (told form heard)

-- the same of a single node, where that it does not lead answers too
abbrev pub told_by_one : Form → Option HeardTerm → Option (List ℕ)
told_by_one form (Some (elsewhere leader)) = Some (elsewhere_text leader)
told_by_one form heard = told form heard

-- which member answers a question, and what is printed of its answer
abbrev pub answer_told : Option HeardTerm → Option (ℕ × List ℕ)
answer_told (Some (answer member applied said)) = Some (member, answer_text applied said)
answer_told heard = None

-- Of what a wire has brought since some moment, this holds. `has_brought` is the wire's own, of which a socket's says nothing: so this is of use where
-- it is proved of every wire, and holds then of one that keeps what it brought.
abbrev pub Brings : {W A : Type 0} → (has_brought : W → List (Carried A) → Type 0) → (old new : W) → (List (Carried A) → Type 0) → Type 0
Brings {W} {A} has_brought old new P = (before : List (Carried A)) → has_brought old before → (brought : List (Carried A)) × has_brought new (before ++ brought) × P brought

-- a datagram of these bytes came to the client, which is end 0
abbrev pub HasCome : {A : Type 0} → (brought : List (Carried A)) → (bytes : List ℕ) → Type 0
HasCome {A} brought bytes = (d : Carried A) × Has brought d × (d.end ≡ 0) × (d.bytes ≡ bytes)

-- a datagram that came to the client says this
pub record IsSaid {A : Type 0} {X : Type 0} (brought : List (Carried A)) (said : Option HeardTerm → Option X) (group : ℕ) (id : RequestId) (x : X) : Type 0 where
  pub datagram : Carried A
  pub came : Has brought datagram
  pub to_client : datagram.end ≡ 0
  pub says : said (heard_in group id (datagram_read datagram.bytes)) ≡ Some x

-- a datagram of these bytes came from there to the client, which is end 0
abbrev pub HasComeFrom : {A : Type 0} → (brought : List (Carried A)) → (from : A) → (bytes : List ℕ) → Type 0
HasComeFrom brought from bytes = Has brought (record { end = 0; peer = from; bytes = bytes })

-- a datagram that came to the client from an address says this; which addresses are the same, `eq` says
pub record IsSaidFrom {A : Type 0} {X : Type 0} (eq : A → A → Bool) (address : A) (brought : List (Carried A)) (said : Option HeardTerm → Option X) (group : ℕ) (id : RequestId) (x : X) : Type 0 where
  pub is_said : IsSaid brought said group id x
  pub came_from : eq is_said.datagram.peer address ≡ true
