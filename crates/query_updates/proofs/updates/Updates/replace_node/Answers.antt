use Rattle.query_meaning.specs.Meaning.{mean}
use Rattle.query_meaning.specs.Updates as meaning
use Rattle.query_updates.specs.declared.targets.Role.TheVariants.{Replaced}
use Rattle.query_updates.specs.Parts.{node_replaced}
use Rattle.query_updates.proofs.Found.{given_first, of_replace_node}
use Rattle.query_updates.proofs.updates.Updates.replace_node.Goals as goal

pub returns : goal.returns
returns g c =
    let env = c.args.env.now in
    let m = mean c.args.target.now in
    let rest = mean c.args.source.now in
    given_first (meaning.replace_node m rest env) Replaced m env (node_replaced rest env) c.args.run.now c.target.new.run c.node_replaced.new.run c.in_ok-target.target c.node_replaced.result (of_replace_node m rest env c.args.run.now) c.in_ok-target.ensures c.node_replaced.ensures
