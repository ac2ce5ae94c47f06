-- A message that may be sent fits its fields.
use Rattle.ballots.specs.Ballot.{most_members}
use Rattle.ballots.specs.Messages.{Body, Answer, Chosen, Promise}
use Rattle.ballots.specs.Replies.{text}
use Rattle.paxos.specs.WellFormed.{IsBody}
use Rattle.messages.specs.Spelling.{Fits, HasFields}

pub fitting : (b : Body) → IsBody most_members b → HasFields b → Fits b
fitting (Promise w) body fields = body.many
fitting (Chosen pairs) body fields = body.2
fitting (Answer client number applied (text t)) body fields = fields.2.0
fitting b body fields = tt
