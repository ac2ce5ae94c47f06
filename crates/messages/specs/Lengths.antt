-- How long a message is at most, in bytes, by its kind: what a buffer has to hold.
use Rattle.std.specs.Prelude.{ℕ, ◌+◌, ◌*◌}
use Rattle.ballots.specs.Messages.{Body, Prepare, Promise, Accept, Accepted, Chosen, CatchUp, Submit, Reply, Ask, Answer, Behind, Elsewhere}
use Rattle.ballots.specs.Terms.{most_answer, most_text}
use Rattle.ballots.specs.Values.{most_entries}

-- a request's client, number, level, and a longest text
abbrev pub most_request : ℕ
most_request = 4 + 8 + 1 + 2 + most_text

abbrev pub most_value : ℕ
most_value = 1 + most_request

-- the header, and the longest body of the kind: a Promise and a Chosen have eight values
abbrev pub most_length : Body → ℕ
most_length (Prepare ballot from) = 10 + 9 + 4
most_length (Promise w) = 10 + 9 + 4 + 4 + 1 + most_entries * (4 + 9 + most_value)
most_length (Accept position v) = 10 + 9 + 4 + most_value
most_length (Accepted position v) = 10 + 9 + 4 + most_value
most_length (Chosen pairs) = 10 + 1 + most_entries * (4 + most_value)
most_length (CatchUp from) = 10 + 4
most_length (Submit request) = 10 + most_request
most_length (Reply client number reply) = 10 + 12 + 1 + 4
most_length (Ask q) = 10 + 12 + 4 + 1 + 2 + most_text
most_length (Answer client number applied answer) = 10 + 12 + 4 + 1 + 2 + most_answer
most_length (Behind client number applied) = 10 + 12 + 4
most_length (Elsewhere client number member) = 10 + 12 + 1
