use Rattle.std.proofs.Common.{subst}
use Rattle.server_steps.specs.Going.{Passed, has_brought_beside, was_given_or_held}
use Rattle.server_steps.specs.Moves.{AreTurns}
use Rattle.serving.specs.Serves.{WritesFirst}
use Rattle.paxq_node.proofs.service.serve_from_the_start.Goals as goal

pub returns-clause-took : goal.returns-clause-took
returns-clause-took g c =
    subst (λ x. Passed g.A.Application.has_applied g.A.Application.meaning g.R.Records.failed g.W.Address.PartialEq.eq (was_given_or_held g.W.Wire.was_given) (has_brought_beside g.W.Wire.has_brought) g.R.Records.stands g.R.Records.is_kept g.R.Records.base g.R.FlushRecords.leaves AreTurns c.serve.result x c.serve.new.self.server (x.held, c.args.wire.now) (c.serve.new.self.server.held, c.serve.new.wire)) c.lead_if.ensures.server c.serve.ensures.took

pub returns-clause-acknowledged : goal.returns-clause-acknowledged
returns-clause-acknowledged g c =
    subst (λ x. WritesFirst g.A.Application.has_applied g.A.Application.meaning g.R.Records.failed g.W.Address.PartialEq.eq g.W.Wire.was_given g.W.Wire.has_brought g.R.Records.is_kept g.R.FlushRecords.leaves x c.args.wire.now c.serve.new.wire) c.lead_if.ensures.server c.serve.ensures.acknowledged
