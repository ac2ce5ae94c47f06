-- No spelling is longer than its kind allows.
use Rattle.std.proofs.Common.{ℕ, suc, ◌+◌, ◌*◌, ◌≤◌, List, [], ◌∷◌, ◌++◌, length, flat_map, All, arith}
use Rattle.std.proofs.lemmas.List.{length-append}
use Rattle.byteorder.specs.Endian.{big_bytes}
use Rattle.byteorder.specs.Numbers.{length-bytes_high_first}
use Rattle.fault_codes.specs.Codes.{code_number}
use Rattle.ballots.specs.Ballot.{most_members}
use Rattle.ballots.specs.Terms.{Question, Request, most_answer, most_text}
use Rattle.ballots.specs.Replies.{Answered, text, fault}
use Rattle.ballots.specs.Messages.{Body, Window, Prepare, Promise, Accept, Accepted, Chosen, CatchUp, Submit, Reply, Ask, Answer, Behind, Elsewhere}
use Rattle.ballots.specs.Spelling.{IsRequest, IsValue, request_spelling, value_spelling}
use Rattle.ballots.specs.declared.ballot.Ballot.{Ballot}
use Rattle.ballots.specs.declared.value.Value.{Value}
use Rattle.ballots.specs.declared.value.Value.TheVariants.{NoOp, Request as Of}
use Rattle.ballots.specs.declared.value.Entry.{Entry}
use Rattle.ballots.specs.declared.value.Pair.{Pair}
use Rattle.ballots.specs.declared.reply.Reply.{Reply as Outcome}
use Rattle.ballots.specs.declared.reply.Reply.TheVariants.{Done, Fault}
use Rattle.paxos.specs.WellFormed.{IsBody}
use Rattle.messages.specs.Spelling.{Datagram, IsAnswer, IsDatagram, ballot_spelling, position_spelling, entry_spelling, pair_spelling, text_spelling, id_spelling, reply_spelling, answer_spelling, body_spelling, kind, mark, spelling, HasFields}
use Rattle.messages.specs.Lengths.{most_request, most_value, most_length}

-- the length of two lists in a row
both : (xs ys : List ℕ) (m n : ℕ) → length xs ≤ m → length ys ≤ n → length (xs ++ ys) ≤ m + n
both xs ys m n p q = rw (length-append xs ys) (omega (arith, p, q))

number : (n x : ℕ) → length (big_bytes n x) ≤ n
number n x = omega (arith, length-bytes_high_first n x)

byte : (b : ℕ) (ys : List ℕ) (n : ℕ) → length ys ≤ n → length (b ∷ ys) ≤ 1 + n
byte b ys n q = omega (arith, q)

written : (most : ℕ) (t : List ℕ) → length t ≤ most → length (text_spelling t) ≤ 2 + most
written most t h = both (big_bytes 2 (length t)) t 2 most (number 2 (length t)) h

request : (r : Request) → IsRequest r → length (request_spelling r) ≤ most_request
request r is =
    both (big_bytes 4 r.client) (big_bytes 8 r.number ++ r.level ∷ text_spelling r.text) 4 (8 + (1 + (2 + most_text))) (number 4 r.client)
    (both (big_bytes 8 r.number) (r.level ∷ text_spelling r.text) 8 (1 + (2 + most_text)) (number 8 r.number) (byte r.level (text_spelling r.text) (2 + most_text) (written most_text r.text is.text)))

value : (v : Value) → IsValue v → length (value_spelling v) ≤ most_value
value NoOp is = omega arith
value (Of r) is = byte 1 (request_spelling r) most_request (request r is)

ballot : (b : Ballot) → length (ballot_spelling b) ≤ 9
ballot b = both (big_bytes 8 b.round) (b.member ∷ []) 8 1 (number 8 b.round) (omega arith)

entry : (e : Entry) → IsValue e.vote.value → length (entry_spelling e) ≤ 4 + 9 + most_value
entry e is =
    both (position_spelling e.position) (ballot_spelling e.vote.ballot ++ value_spelling e.vote.value) 4 (9 + most_value) (number 4 e.position)
    (both (ballot_spelling e.vote.ballot) (value_spelling e.vote.value) 9 most_value (ballot e.vote.ballot) (value e.vote.value is))

pair : (e : Pair) → IsValue e.value → length (pair_spelling e) ≤ 4 + most_value
pair e is = both (position_spelling e.position) (value_spelling e.value) 4 most_value (number 4 e.position) (value e.value is)

entries : (es : List Entry) → All (λ (e : Entry). IsValue e.vote.value) es → length (flat_map entry_spelling es) ≤ length es * (4 + 9 + most_value)
entries [] values = omega arith
entries (e ∷ es) values =
    let first : IsValue e.vote.value = values 0 e (omega arith) in
    let long : length (flat_map entry_spelling (e ∷ es)) ≤ (4 + 9 + most_value) + length es * (4 + 9 + most_value) = both (entry_spelling e) (flat_map entry_spelling es) (4 + 9 + most_value) (length es * (4 + 9 + most_value)) (entry e first) (entries es (λ k d within. values (suc k) d (omega arith))) in
    omega (arith, long)

pairs : (es : List Pair) → All (λ (e : Pair). IsValue e.value) es → length (flat_map pair_spelling es) ≤ length es * (4 + most_value)
pairs [] values = omega arith
pairs (e ∷ es) values =
    let first : IsValue e.value = values 0 e (omega arith) in
    let long : length (flat_map pair_spelling (e ∷ es)) ≤ (4 + most_value) + length es * (4 + most_value) = both (pair_spelling e) (flat_map pair_spelling es) (4 + most_value) (length es * (4 + most_value)) (pair e first) (pairs es (λ k d within. values (suc k) d (omega arith))) in
    omega (arith, long)

id : (client n : ℕ) → length (id_spelling client n) ≤ 12
id client n = both (big_bytes 4 client) (big_bytes 8 n) 4 8 (number 4 client) (number 8 n)

reply : (r : Outcome) → length (reply_spelling r) ≤ 1 + 4
reply (Done position) = byte 0 (position_spelling position) 4 (number 4 position)
reply (Fault code position) = byte (code_number code) (position_spelling position) 4 (number 4 position)

answer : (a : Answered) → IsAnswer a → length (answer_spelling a) ≤ 1 + (2 + most_answer)
answer (text t) is = byte 0 (text_spelling t) (2 + most_answer) (written most_answer t is.0)
answer (fault code) is = omega arith

-- the header has ten bytes
headed : (a group sender b : ℕ) (bs : List ℕ) → length (big_bytes 4 a ++ big_bytes 4 group ++ sender ∷ b ∷ bs) ≤ 10 + length bs
headed a group sender b bs =
    let two : length (sender ∷ b ∷ bs) ≤ 2 + length bs = omega arith in
    let four : length (big_bytes 4 group ++ sender ∷ b ∷ bs) ≤ 4 + (2 + length bs) = both (big_bytes 4 group) (sender ∷ b ∷ bs) 4 (2 + length bs) (number 4 group) two in
    omega (arith, both (big_bytes 4 a) (big_bytes 4 group ++ sender ∷ b ∷ bs) 4 (4 + (2 + length bs)) (number 4 a) four)

window : (w : Window) → length w.entries ≤ 8 → All (λ (e : Entry). IsValue e.vote.value) w.entries → length (body_spelling (Promise w)) ≤ 9 + (4 + (4 + (1 + 8 * (4 + 9 + most_value))))
window w few values =
    let listed : length (flat_map entry_spelling w.entries) ≤ 8 * (4 + 9 + most_value) = omega (arith, few, entries w.entries values) in
    both (ballot_spelling w.ballot) (position_spelling w.from ++ position_spelling w.covered ++ length w.entries ∷ flat_map entry_spelling w.entries) 9 (4 + (4 + (1 + 8 * (4 + 9 + most_value)))) (ballot w.ballot)
    (both (position_spelling w.from) (position_spelling w.covered ++ length w.entries ∷ flat_map entry_spelling w.entries) 4 (4 + (1 + 8 * (4 + 9 + most_value))) (number 4 w.from)
    (both (position_spelling w.covered) (length w.entries ∷ flat_map entry_spelling w.entries) 4 (1 + 8 * (4 + 9 + most_value)) (number 4 w.covered) (byte (length w.entries) (flat_map entry_spelling w.entries) (8 * (4 + 9 + most_value)) listed)))

proposal : (position : ℕ) (b : Ballot) (v : Value) → IsValue v → length (ballot_spelling b ++ position_spelling position ++ value_spelling v) ≤ 9 + (4 + most_value)
proposal position b v is =
    both (ballot_spelling b) (position_spelling position ++ value_spelling v) 9 (4 + most_value) (ballot b)
    (both (position_spelling position) (value_spelling v) 4 most_value (number 4 position) (value v is))

question : (q : Question) → length q.text ≤ most_text → length (body_spelling (Ask q)) ≤ 12 + (4 + (1 + (2 + most_text)))
question q short =
    both (id_spelling q.client q.number) (big_bytes 4 q.floor ++ q.level ∷ text_spelling q.text) 12 (4 + (1 + (2 + most_text))) (id q.client q.number)
    (both (big_bytes 4 q.floor) (q.level ∷ text_spelling q.text) 4 (1 + (2 + most_text)) (number 4 q.floor) (byte q.level (text_spelling q.text) (2 + most_text) (written most_text q.text short)))

applied_answer : (client n applied : ℕ) (a : Answered) → IsAnswer a → length (body_spelling (Answer client n applied a)) ≤ 12 + (4 + (1 + (2 + most_answer)))
applied_answer client n applied a is =
    both (id_spelling client n) (big_bytes 4 applied ++ answer_spelling a) 12 (4 + (1 + (2 + most_answer))) (id client n)
    (both (big_bytes 4 applied) (answer_spelling a) 4 (1 + (2 + most_answer)) (number 4 applied) (answer a is))

-- the header and a body of its kind
body : (b : Body) → IsBody most_members b → HasFields b → 10 + length (body_spelling b) ≤ most_length b
body (Prepare b from) is fields =
    let long : length (body_spelling (Prepare b from)) ≤ 9 + 4 = both (ballot_spelling b) (position_spelling from) 9 4 (ballot b) (number 4 from) in
    omega (arith, long)
body (Promise w) is fields = omega (arith, window w is.many fields)
body (Accept position v) is fields = omega (arith, proposal position v.ballot v.value fields)
body (Accepted position v) is fields = omega (arith, proposal position v.ballot v.value fields)
body (Chosen es) is fields =
    let listed : length (flat_map pair_spelling es) ≤ 8 * (4 + most_value) = omega (arith, is.2, pairs es fields) in
    let long : length (body_spelling (Chosen es)) ≤ 1 + 8 * (4 + most_value) = byte (length es) (flat_map pair_spelling es) (8 * (4 + most_value)) listed in
    omega (arith, long)
body (CatchUp from) is fields = omega (arith, number 4 from)
body (Submit r) is fields = omega (arith, request r fields)
body (Reply client n r) is fields =
    let long : length (body_spelling (Reply client n r)) ≤ 12 + (1 + 4) = both (id_spelling client n) (reply_spelling r) 12 (1 + 4) (id client n) (reply r) in
    omega (arith, long)
body (Ask q) is fields = omega (arith, question q fields.3.0)
body (Answer client n applied a) is fields = omega (arith, applied_answer client n applied a fields.2)
body (Behind client n applied) is fields =
    let long : length (body_spelling (Behind client n applied)) ≤ 12 + 4 = both (id_spelling client n) (big_bytes 4 applied) 12 4 (id client n) (number 4 applied) in
    omega (arith, long)
body (Elsewhere client n member) is fields =
    let long : length (body_spelling (Elsewhere client n member)) ≤ 12 + 1 = both (id_spelling client n) (member ∷ []) 12 1 (id client n) (omega arith) in
    omega (arith, long)

pub no-longer : (d : Datagram) → IsDatagram d → length (spelling d) ≤ most_length d.body
no-longer d is =
    let long : length (spelling d) ≤ 10 + length (body_spelling d.body) = headed mark d.group d.sender (kind d.body) (body_spelling d.body) in
    omega (arith, long, body d.body is.body is.fields)

-- a Promise of eight longest values is the longest
longest : (b : Body) → most_length b ≤ 33028
longest (Prepare b from) = omega arith
longest (Promise w) = omega arith
longest (Accept position v) = omega arith
longest (Accepted position v) = omega arith
longest (Chosen es) = omega arith
longest (CatchUp from) = omega arith
longest (Submit r) = omega arith
longest (Reply client n r) = omega arith
longest (Ask q) = omega arith
longest (Answer client n applied a) = omega arith
longest (Behind client n applied) = omega arith
longest (Elsewhere client n member) = omega arith

pub bounded : (d : Datagram) → IsDatagram d → length (spelling d) ≤ 33028
bounded d is = omega (arith, no-longer d is, longest d.body)
