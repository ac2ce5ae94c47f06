use Rattle.std.proofs.Common.{arith}
use Rattle.paxq_run.proofs.Sites.{shows_nothing}
use Rattle.paxq_run.proofs.lone.begin.Goals as goal

pub returns : goal.returns
returns g c = shows_nothing g.J.Opening.names c.args.site.now c.deliver.new.site c.in_ok-deliver.ensures (λ u r. (let e = c.applied.ensures u r in let none = c.if-applied-ne0.false in omega (arith, e, none)))
