use Rattle.std.proofs.Common.{ap, ◌∙◌}
use Rattle.node.specs.Nodes.{Node}
use Rattle.paxos.specs.Records.{Record}
use Rattle.program_reports.proofs.Reported.{ok-gives}
use Rattle.sessions.specs.Session.{SessionTerm}
use Rattle.paxq_run.proofs.Endings.{cut_by}
use Rattle.paxq_run.proofs.Sites.{runs_opened}
use Rattle.paxq_run.proofs.run.play_over.Goals as goal

pub returns-clause-played : goal.returns-clause-played
returns-clause-played g c =
    ok-gives c.begin_and_play-ended.result c.begin_and_play-ended.ensures.played
    (λ status h u r. h (runs_opened c.in-Ok.site c.args.node c.in-Ok.ensures.node u r (c.in-Ok.ensures.applied u r) c.in-Ok.ensures.pending) (ap (λ (x : Node Record SessionTerm). x.setup.names) c.in-Ok.ensures.node ∙ c.requires.names) c.in-Ok.ensures.readers)

pub returns-clause-cut : goal.returns-clause-cut
returns-clause-cut g c =
    cut_by c.begin_and_play-ended.result
    (λ h u r. h (runs_opened c.in-Ok.site c.args.node c.in-Ok.ensures.node u r (c.in-Ok.ensures.applied u r) c.in-Ok.ensures.pending) (ap (λ (x : Node Record SessionTerm). x.setup.names) c.in-Ok.ensures.node ∙ c.requires.names) c.in-Ok.ensures.readers)
    c.begin_and_play-ended.ensures.cut
