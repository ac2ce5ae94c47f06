-- The spelling of messages in bytes, one datagram a message (our own). Numbers are big-endian; a value is spelt as records keep it.
use Rattle.std.specs.Prelude.{ℕ, ◌<◌, ◌≤◌, ◌≡◌, ◌^◌, true, List, [], ◌∷◌, ◌++◌, length, flat_map, All}
use Rattle.std.specs.Str.{is_utf8}
use Rattle.byteorder.specs.Endian.{big_bytes}
use Rattle.fault_codes.specs.Codes.{code_number}
use Rattle.ballots.specs.Ballot.{most_members}
use Rattle.ballots.specs.Terms.{is_level, most_answer, most_text}
use Rattle.ballots.specs.Values.{IsPosition, positions, most_entries}
use Rattle.ballots.specs.Replies.{Answered, text, fault}
use Rattle.ballots.specs.Messages.{Body, Prepare, Promise, Accept, Accepted, Chosen, CatchUp, Submit, Reply, Ask, Answer, Behind, Elsewhere}
use Rattle.ballots.specs.Spelling.{request_spelling, value_spelling, IsRequest, IsValue}
use Rattle.ballots.specs.declared.ballot.Ballot.{Ballot}
use Rattle.ballots.specs.declared.value.Vote.{Vote}
use Rattle.ballots.specs.declared.value.Entry.{Entry}
use Rattle.ballots.specs.declared.value.Pair.{Pair}
use Rattle.ballots.specs.declared.reply.Reply.{Reply as Outcome}
use Rattle.ballots.specs.declared.reply.Reply.TheVariants.{Done, Fault}
use Rattle.paxos.specs.WellFormed.{IsBody, IsSender}

-- what one datagram says: its group, who sends it (a member, or 0 for a client), and a message
pub record Datagram : Type 0 where
  pub group : ℕ
  pub sender : ℕ
  pub body : Body

-- `PXQ1`
abbrev pub mark : ℕ
mark = 1347965233

abbrev pub ballot_spelling : Ballot → List ℕ
ballot_spelling b = big_bytes 8 b.round ++ b.member ∷ []

abbrev pub position_spelling : ℕ → List ℕ
position_spelling = big_bytes 4

abbrev pub vote_spelling : Vote → List ℕ
vote_spelling v = ballot_spelling v.ballot ++ value_spelling v.value

abbrev pub entry_spelling : Entry → List ℕ
entry_spelling e = position_spelling e.position ++ vote_spelling e.vote

abbrev pub pair_spelling : Pair → List ℕ
pair_spelling e = position_spelling e.position ++ value_spelling e.value

-- its length, and its bytes
abbrev pub text_spelling : List ℕ → List ℕ
text_spelling t = big_bytes 2 (length t) ++ t

-- who asked, and the number that it gave to the question or request
abbrev pub id_spelling : (client number : ℕ) → List ℕ
id_spelling client number = big_bytes 4 client ++ big_bytes 8 number

-- 0, or the number of a fault's code; then the position
abbrev pub reply_spelling : Outcome → List ℕ
reply_spelling (Done position) = 0 ∷ position_spelling position
reply_spelling (Fault code position) = code_number code ∷ position_spelling position

-- 0 and a text, or the number of a fault's code
abbrev pub answer_spelling : Answered → List ℕ
answer_spelling (text t) = 0 ∷ text_spelling t
answer_spelling (fault code) = code_number code ∷ []

abbrev pub kind : Body → ℕ
kind (Prepare ballot from) = 1
kind (Promise w) = 2
kind (Accept position vote) = 3
kind (Accepted position vote) = 4
kind (Chosen pairs) = 5
kind (CatchUp from) = 6
kind (Submit request) = 7
kind (Reply client number reply) = 8
kind (Ask question) = 9
kind (Answer client number applied answer) = 10
kind (Behind client number applied) = 11
kind (Elsewhere client number member) = 12

-- an Accept and an Accepted have the vote's ballot before the position
abbrev pub body_spelling : Body → List ℕ
body_spelling (Prepare ballot from) = ballot_spelling ballot ++ position_spelling from
body_spelling (Promise w) =
    ballot_spelling w.ballot ++ position_spelling w.from ++ position_spelling w.covered ++ length w.entries ∷ flat_map entry_spelling w.entries
body_spelling (Accept position v) = ballot_spelling v.ballot ++ position_spelling position ++ value_spelling v.value
body_spelling (Accepted position v) = ballot_spelling v.ballot ++ position_spelling position ++ value_spelling v.value
body_spelling (Chosen pairs) = length pairs ∷ flat_map pair_spelling pairs
body_spelling (CatchUp from) = position_spelling from
body_spelling (Submit request) = request_spelling request
body_spelling (Reply client number reply) = id_spelling client number ++ reply_spelling reply
body_spelling (Ask q) = id_spelling q.client q.number ++ big_bytes 4 q.floor ++ q.level ∷ text_spelling q.text
body_spelling (Answer client number applied answer) = id_spelling client number ++ big_bytes 4 applied ++ answer_spelling answer
body_spelling (Behind client number applied) = id_spelling client number ++ big_bytes 4 applied
body_spelling (Elsewhere client number member) = id_spelling client number ++ member ∷ []

-- a header, and the message
abbrev pub spelling : Datagram → List ℕ
spelling d = big_bytes 4 mark ++ big_bytes 4 d.group ++ d.sender ∷ kind d.body ∷ body_spelling d.body

-- the numbers of a client and of its request or question are any that their bytes hold
abbrev pub IsId : (client number : ℕ) → Type 0
IsId client number = (client < 2 ^ 32) × (number < 2 ^ 64)

-- how far a member may have applied
abbrev pub IsApplied : ℕ → Type 0
IsApplied n = n ≤ positions

-- bytes that are UTF-8, and not too many
abbrev pub IsText : (most : ℕ) → List ℕ → Type 0
IsText most t = (length t ≤ most) × (is_utf8 t ≡ true)

abbrev pub IsReply : Outcome → Type 0
IsReply (Done position) = IsPosition position
IsReply (Fault code position) = IsPosition position

abbrev pub IsAnswer : Answered → Type 0
IsAnswer (text t) = IsText most_answer t
IsAnswer (fault code) = Unit {0}

-- values are spelt, texts are UTF-8 and not too long, and the numbers of what is between clients and members are in range
abbrev pub HasFields : Body → Type 0
HasFields (Promise w) = All (λ (e : Entry). IsValue e.vote.value) w.entries
HasFields (Accept position v) = IsValue v.value
HasFields (Accepted position v) = IsValue v.value
HasFields (Chosen pairs) = All (λ (e : Pair). IsValue e.value) pairs
HasFields (Submit request) = IsRequest request
HasFields (Reply client number reply) = IsId client number × IsReply reply
HasFields (Ask q) = IsId q.client q.number × IsApplied q.floor × (is_level q.level ≡ true) × IsText most_text q.text
HasFields (Answer client number applied answer) = IsId client number × IsApplied applied × IsAnswer answer
HasFields (Behind client number applied) = IsId client number × IsApplied applied
HasFields (Elsewhere client number member) = IsId client number
HasFields body = Unit {0}

-- The position of a reply, and how far a member has applied, are in range. The types of all else see to the rest.
abbrev pub AreInRange : Body → Type 0
AreInRange (Reply client number reply) = IsReply reply
AreInRange (Answer client number applied answer) = IsApplied applied
AreInRange (Behind client number applied) = IsApplied applied
AreInRange body = Unit {0}

-- an answer that is not too long
abbrev pub IsWithin : Answered → Type 0
IsWithin (text t) = length t ≤ most_answer
IsWithin (fault code) = Unit {0}

-- What has no fixed length is no longer than its fields can say. The types of all else see to the rest.
abbrev pub Fits : Body → Type 0
Fits (Promise w) = length w.entries ≤ most_entries
Fits (Chosen pairs) = length pairs ≤ most_entries
Fits (Answer client number applied answer) = IsWithin answer
Fits body = Unit {0}

-- what may be said in a datagram: what members may say among as many as there can be, and no more than the fields hold
pub record IsDatagram (d : Datagram) : Type 0 where
  pub group : d.group < 2 ^ 32
  pub sender : IsSender most_members d.sender d.body
  pub body : IsBody most_members d.body
  pub fields : HasFields d.body
