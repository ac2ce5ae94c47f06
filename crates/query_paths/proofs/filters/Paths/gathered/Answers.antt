use Rattle.query_paths.proofs.Named.{gathered_is}
use Rattle.query_paths.proofs.filters.Paths.gathered.Goals as goal

pub returns-in-Some-2 : goal.returns-in-Some-2
returns-in-Some-2 g c = gathered_is c.args.part.now c.in-Some.test.now c.args.env.now c.args.items.now c.args.run.now c.gathered_children.new.run c.gathered_children.result c.in-Some.ensures c.gathered_children.ensures
