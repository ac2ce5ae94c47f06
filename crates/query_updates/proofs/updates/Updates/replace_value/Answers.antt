use Rattle.query_meaning.specs.Meaning.{mean}
use Rattle.query_meaning.specs.Updates as meaning
use Rattle.query_updates.specs.declared.targets.Role.TheVariants.{Replaced}
use Rattle.query_updates.specs.Parts.{value_replaced}
use Rattle.query_updates.proofs.Found.{given_first, of_replace_value}
use Rattle.query_updates.proofs.updates.Updates.replace_value.Goals as goal

pub returns : goal.returns
returns g c =
    let env = c.args.env.now in
    let m = mean c.args.target.now in
    let rest = mean c.args.source.now in
    given_first (meaning.replace_value m rest env) Replaced m env (value_replaced rest env) c.args.run.now c.target.new.run c.value_replaced.new.run c.in_ok-target.target c.value_replaced.result (of_replace_value m rest env c.args.run.now) c.in_ok-target.ensures c.value_replaced.ensures
