-- Values as contracts see them.
use Rattle.std.specs.Prelude.{Bool, false, ◌&&◌, ◌==◌}
use Rattle.ballots.specs.Terms.{Request as RequestTerm}
use Rattle.ballots.specs.declared.value.Value.{Value}
use Rattle.ballots.specs.declared.value.Value.TheVariants.{NoOp, Request}
use Rattle.ballots.specs.declared.request.RequestId.{RequestId}

-- the client and the number of a request
abbrev pub id_of : RequestTerm → RequestId
id_of r = record { client = r.client; number = r.number }

-- whether two requests are the same
abbrev pub is_same : RequestId → RequestId → Bool
is_same a b = (a.client == b.client) && (a.number == b.number)

-- whether a value is that request
abbrev pub is_of : RequestId → Value → Bool
is_of id NoOp = false
is_of id (Request r) = is_same id (id_of r)
