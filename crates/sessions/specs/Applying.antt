-- What lists of values mean to clients: the replies that are kept, and answers from the store.
use Rattle.std.specs.Prelude.{ℕ, List}
use Rattle.paxos.specs.Application.{Application}
use Rattle.questions.specs.Answers.{answer}
use Rattle.sessions.specs.Meaning.{store_of, kept_reply}

-- over documents of these names
abbrev pub application_of : (names : List (List ℕ)) → Application
application_of names = record {
  reply = λ values client number. kept_reply names values (record { client = client; number = number });
  answer = λ values level text. answer (store_of names values) level text;
}
