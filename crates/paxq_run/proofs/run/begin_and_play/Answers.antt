use Rattle.std.proofs.Common.{[], sym, ◌∙◌}
use Rattle.program_reports.proofs.Reported.{ok-gives}
use Rattle.paxq_run.proofs.Endings.{cut_by}
use Rattle.paxq_run.proofs.Sites.{only_reader}
use Rattle.paxq_run.proofs.run.begin_and_play.Goals as goal

pub returns-clause-played : goal.returns-clause-played
returns-clause-played g c =
    ok-gives c.play.result c.play.ensures.played (λ status h runs are first. h [] (c.in-Ok.ensures c.in-Some.reader.sight runs are (only_reader c.args.site.now.store.published c.pop.new.self.items c.in-Some.reader (sym c.in-Some.ensures.items ∙ first))))

pub returns-clause-cut : goal.returns-clause-cut
returns-clause-cut g c =
    cut_by c.play.result (λ h runs are first. h [] (c.in-Ok.ensures c.in-Some.reader.sight runs are (only_reader c.args.site.now.store.published c.pop.new.self.items c.in-Some.reader (sym c.in-Some.ensures.items ∙ first)))) c.play.ensures.cut
