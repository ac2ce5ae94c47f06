-- What the bytes of a datagram read as, from the left: each field is checked as soon as it is read, and the first fault counts.
use Rattle.std.specs.Prelude.{ℕ, zero, suc, Bool, not, nat_le, ◌==◌, ◌&&◌, ◌||◌, if◌then◌else◌, List, [], ◌∷◌, length, take, drop, Option, None, Some}
use Rattle.std.specs.Str.{is_utf8}
use Rattle.byteorder.specs.Endian.{big_number}
use Rattle.fault_codes.specs.declared.code.Code.{Code}
use Rattle.fault_codes.specs.declared.code.Code.TheVariants.{XPST0003, XPST0008, XPST0017, XQST0090, XUST0001, XPDY0002, XPTY0004, XPTY0018, XPTY0019, XPTY0020, FOAR0001, FOAR0002, FODC0002, FORG0001, FORG0006, XQTY0024, XQDY0025, XQDY0026, XQDY0041, XQDY0064, XQDY0072, XQDY0074, XUTY0004, XUTY0005, XUTY0006, XUTY0007, XUTY0008, XUTY0010, XUTY0011, XUTY0012, XUTY0022, XUDY0009, XUDY0015, XUDY0016, XUDY0017, XUDY0021, XUDY0027, XUDY0029, XUDY0030, PXQ0001, PXQ0002, PXQ0003, PXQ0004, PXQ0005, XQST0089, XUTY0013, XUDY0014, XUST0002}
use Rattle.ballots.specs.Ballot.{below, last_round, most_members}
use Rattle.ballots.specs.Terms.{most_answer, most_level, most_text}
use Rattle.ballots.specs.Values.{positions, most_entries}
use Rattle.ballots.specs.Replies.{Answered, text, fault}
use Rattle.ballots.specs.Messages.{Body, Prepare, Promise, Accept, Accepted, Chosen, CatchUp, Submit, Reply, Ask, Answer, Behind, Elsewhere}
use Rattle.ballots.specs.Spelling.{Read as ValueRead, Gives as ValueGives, Fails as ValueFails, value_read}
use Rattle.ballots.specs.declared.ballot.Ballot.{Ballot}
use Rattle.ballots.specs.declared.value.Value.{Value}
use Rattle.ballots.specs.declared.value.Entry.{Entry}
use Rattle.ballots.specs.declared.value.Pair.{Pair}
use Rattle.ballots.specs.declared.reply.Reply.{Reply as Outcome}
use Rattle.ballots.specs.declared.reply.Reply.TheVariants.{Done, Fault}
use Rattle.ballots.specs.declared.spelling.SpellingFault.{SpellingFault}
use Rattle.ballots.specs.declared.spelling.SpellingFault.TheVariants as of_value
use Rattle.paxos.specs.Lists.{at}
use Rattle.paxos.specs.WellFormed.{last_position}
use Rattle.messages.specs.Spelling.{Datagram, mark}
use Rattle.messages.specs.declared.fault.WireFault.{WireFault}
use Rattle.messages.specs.declared.fault.WireFault.TheVariants.{Short, Mark, Kind, Number, NotUtf8, LeftOver, Memory}

-- something and the bytes after it, or the first fault
pub data Read (A : Type 0) : Type 0 where
  Gives : (value : A) (rest : List ℕ) → Read A
  Fails : (fault : WireFault) → Read A

abbrev pub on_read : {A B : Type 0} → Read A → (A → List ℕ → Read B) → Read B
on_read (Gives a rest) g = g a rest
on_read (Fails why) g = Fails why

infixl 10 ◌>>=◌
-- the one, then the other on the bytes after it
abbrev pub ◌>>=◌ : {A B : Type 0} → (List ℕ → Read A) → (A → List ℕ → Read B) → List ℕ → Read B
(f >>= g) bytes = on_read (f bytes) g

abbrev pub pure : {A : Type 0} → A → List ℕ → Read A
pure a bytes = Gives a bytes

abbrev pub fails : {A : Type 0} → WireFault → List ℕ → Read A
fails why bytes = Fails why

-- the test holds, or it is this fault
abbrev pub check : WireFault → Bool → List ℕ → Read (Unit {0})
check why test bytes = if test then Gives tt bytes else Fails why

abbrev pub bytes_read : (n : ℕ) → List ℕ → Read (List ℕ)
bytes_read n bytes = if nat_le n (length bytes) then Gives (take n bytes) (drop n bytes) else Fails Short

-- the number in so many bytes
abbrev pub number_read : (n : ℕ) → List ℕ → Read ℕ
number_read n bytes = if nat_le n (length bytes) then Gives (big_number n bytes) (drop n bytes) else Fails Short

-- the same, where it has to lie between two numbers
abbrev pub between_read : (n least most : ℕ) → List ℕ → Read ℕ
between_read n least most = do
  x ← number_read n
  _ ← check Number (nat_le least x && nat_le x most)
  pure x

-- a text: its length, at most so much, and its bytes
abbrev pub text_read : (most : ℕ) → List ℕ → Read (List ℕ)
text_read most = do
  n ← number_read 2
  _ ← check Number (nat_le n most)
  t ← bytes_read n
  _ ← check NotUtf8 (is_utf8 t)
  pure t

-- why bytes are no value, as a fault of a message
abbrev pub fault_of : SpellingFault → WireFault
fault_of of_value.Short = Short
fault_of of_value.Number = Number
fault_of of_value.NotUtf8 = NotUtf8
fault_of of_value.Memory = Memory

abbrev pub of_read : {A : Type 0} → ValueRead A → Read A
of_read (ValueGives a rest) = Gives a rest
of_read (ValueFails why) = Fails (fault_of why)

abbrev pub a_value : List ℕ → Read Value
a_value bytes = of_read (value_read bytes)

abbrev pub position_read : (least most : ℕ) → List ℕ → Read ℕ
position_read = between_read 4

abbrev pub ballot_read : List ℕ → Read Ballot
ballot_read = do
  round ← between_read 8 1 last_round
  member ← between_read 1 1 most_members
  pure (record { round = round; member = member })

-- a vote at a position, of a ballot that is not above the highest
abbrev pub entry_read : (highest : Ballot) (least most : ℕ) → List ℕ → Read Entry
entry_read highest least most = do
  position ← position_read least most
  ballot ← ballot_read
  _ ← check Number (not (below highest ballot))
  value ← a_value
  pure (record { position = position; vote = record { ballot = ballot; value = value } })

-- so many votes, by rising position
abbrev pub entries_read : (count : ℕ) (highest : Ballot) (least most : ℕ) → List ℕ → Read (List Entry)
entries_read zero highest least most = pure []
entries_read (suc n) highest least most = do
  e ← entry_read highest least most
  es ← entries_read n highest (suc e.position) most
  pure (e ∷ es)

abbrev pub pair_read : (least : ℕ) → List ℕ → Read Pair
pair_read least = do
  position ← position_read least positions
  value ← a_value
  pure (record { position = position; value = value })

-- so many values, by rising position
abbrev pub pairs_read : (count least : ℕ) → List ℕ → Read (List Pair)
pairs_read zero least = pure []
pairs_read (suc n) least = do
  e ← pair_read least
  es ← pairs_read n (suc e.position)
  pure (e ∷ es)

-- the codes of faults, each at its number
abbrev pub codes_by_number : List Code
codes_by_number =
    XPST0003 ∷ XPST0008 ∷ XPST0017 ∷ XQST0090 ∷ XUST0001 ∷ XPDY0002 ∷ XPTY0004 ∷ XPTY0018 ∷ XPTY0019 ∷ XPTY0020 ∷ FOAR0001 ∷ FOAR0002 ∷ FODC0002 ∷ FORG0001 ∷ FORG0006 ∷ XQTY0024 ∷ XQDY0025 ∷ XQDY0026 ∷ XQDY0041 ∷ XQDY0064 ∷ XQDY0072 ∷ XQDY0074 ∷ XUTY0004 ∷ XUTY0005 ∷ XUTY0006 ∷ XUTY0007 ∷ XUTY0008 ∷ XUTY0010 ∷ XUTY0011 ∷ XUTY0012 ∷ XUTY0022 ∷ XUDY0009 ∷ XUDY0015 ∷ XUDY0016 ∷ XUDY0017 ∷ XUDY0021 ∷ XUDY0027 ∷ XUDY0029 ∷ XUDY0030 ∷ PXQ0001 ∷ PXQ0002 ∷ PXQ0003 ∷ PXQ0004 ∷ PXQ0005 ∷ XQST0089 ∷ XUTY0013 ∷ XUDY0014 ∷ XUST0002 ∷ []

-- the code of a number, or a number is out of range
abbrev pub code_of : Option Code → List ℕ → Read Code
code_of (Some code) = pure code
code_of None = fails Number

-- 0 for none, or the number of a code
abbrev pub outcome_after : ℕ → List ℕ → Read (Option Code)
outcome_after zero = pure None
outcome_after (suc n) = do
  code ← code_of (at codes_by_number (suc n))
  pure (Some code)

abbrev pub outcome_read : List ℕ → Read (Option Code)
outcome_read = number_read 1 >>= outcome_after

-- a ballot's own member alone asks for it and proposes under it
abbrev pub own_ballot_read : (sender : ℕ) → List ℕ → Read Ballot
own_ballot_read sender = do
  ballot ← ballot_read
  _ ← check Number (ballot.member == sender)
  pure ballot

abbrev pub prepare_read : (sender : ℕ) → List ℕ → Read Body
prepare_read sender = do
  ballot ← own_ballot_read sender
  from ← position_read 1 positions
  pure (Prepare ballot from)

-- the positions that are covered end with the last that there is, or with that of the eighth vote
abbrev pub ends_well : (covered : ℕ) → List Entry → Bool
ends_well covered entries = covered == positions || (length entries == most_entries && last_position 0 entries == covered)

abbrev pub promise_read : List ℕ → Read Body
promise_read = do
  ballot ← ballot_read
  from ← position_read 1 positions
  covered ← position_read from positions
  count ← between_read 1 0 most_entries
  entries ← entries_read count ballot from covered
  _ ← check Number (ends_well covered entries)
  pure (Promise (record { ballot = ballot; from = from; covered = covered; entries = entries }))

abbrev pub accept_read : (sender : ℕ) → List ℕ → Read Body
accept_read sender = do
  ballot ← own_ballot_read sender
  position ← position_read 1 positions
  value ← a_value
  pure (Accept position (record { ballot = ballot; value = value }))

abbrev pub accepted_read : List ℕ → Read Body
accepted_read = do
  ballot ← ballot_read
  position ← position_read 1 positions
  value ← a_value
  pure (Accepted position (record { ballot = ballot; value = value }))

abbrev pub chosen_read : List ℕ → Read Body
chosen_read = do
  count ← between_read 1 1 most_entries
  pairs ← pairs_read count 1
  pure (Chosen pairs)

abbrev pub catch_up_read : List ℕ → Read Body
catch_up_read = do
  from ← position_read 1 positions
  pure (CatchUp from)

abbrev pub submit_read : List ℕ → Read Body
submit_read = do
  client ← number_read 4
  number ← number_read 8
  level ← between_read 1 1 most_level
  t ← text_read most_text
  pure (Submit (record { client = client; number = number; level = level; text = t }))

abbrev pub replied : Option Code → ℕ → Outcome
replied None position = Done position
replied (Some code) position = Fault code position

abbrev pub reply_read : List ℕ → Read Body
reply_read = do
  client ← number_read 4
  number ← number_read 8
  outcome ← outcome_read
  position ← position_read 1 positions
  pure (Reply client number (replied outcome position))

abbrev pub ask_read : List ℕ → Read Body
ask_read = do
  client ← number_read 4
  number ← number_read 8
  floor ← position_read 0 positions
  level ← between_read 1 1 most_level
  t ← text_read most_text
  pure (Ask (record { client = client; number = number; floor = floor; level = level; text = t }))

abbrev pub answer_after : Option Code → List ℕ → Read Answered
answer_after (Some code) = pure (fault code)
answer_after None = do
  t ← text_read most_answer
  pure (text t)

abbrev pub answer_read : List ℕ → Read Body
answer_read = do
  client ← number_read 4
  number ← number_read 8
  applied ← position_read 0 positions
  outcome ← outcome_read
  answer ← answer_after outcome
  pure (Answer client number applied answer)

abbrev pub behind_read : List ℕ → Read Body
behind_read = do
  client ← number_read 4
  number ← number_read 8
  applied ← position_read 0 positions
  pure (Behind client number applied)

abbrev pub elsewhere_read : List ℕ → Read Body
elsewhere_read = do
  client ← number_read 4
  number ← number_read 8
  member ← between_read 1 0 most_members
  pure (Elsewhere client number member)

-- the body of each kind, from 1 to 12
abbrev pub bodies : (sender : ℕ) → List (List ℕ → Read Body)
bodies sender =
    prepare_read sender ∷ promise_read ∷ accept_read sender ∷ accepted_read ∷ chosen_read ∷ catch_up_read ∷ submit_read ∷ reply_read ∷ ask_read ∷ answer_read ∷ behind_read ∷ elsewhere_read ∷ []

abbrev pub body_of_kind : Option (List ℕ → Read Body) → List ℕ → Read Body
body_of_kind (Some body) = body
body_of_kind None = fails Kind

-- requests and questions come from clients, all else from members
abbrev pub is_sender : (kind sender : ℕ) → Bool
is_sender kind sender = if kind == 7 || kind == 9 then sender == 0 else (nat_le 1 sender && nat_le sender most_members)

abbrev pub header_read : List ℕ → Read (ℕ × (ℕ × ℕ))
header_read = do
  first ← number_read 4
  _ ← check Mark (first == mark)
  group ← number_read 4
  sender ← number_read 1
  kind ← number_read 1
  _ ← check Kind (nat_le 1 kind && nat_le kind 12)
  _ ← check Number (is_sender kind sender)
  pure (group, (sender, kind))

-- nothing is left over
abbrev pub end_read : List ℕ → Read (Unit {0})
end_read [] = Gives tt []
end_read (b ∷ bytes) = Fails LeftOver

abbrev pub datagram_read : List ℕ → Read Datagram
datagram_read = do
  header ← header_read
  body ← body_of_kind (at (bodies header.1.0) header.1.1)
  _ ← end_read
  pure (record { group = header.0; sender = header.1.0; body = body })
