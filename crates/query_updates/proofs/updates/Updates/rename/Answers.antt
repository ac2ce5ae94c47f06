use Rattle.query_meaning.specs.Meaning.{mean}
use Rattle.query_meaning.specs.Updates as meaning
use Rattle.query_updates.specs.declared.targets.Role.TheVariants.{Renamed}
use Rattle.query_updates.specs.Parts.{renamed}
use Rattle.query_updates.proofs.Found.{given_first, of_rename}
use Rattle.query_updates.proofs.updates.Updates.rename.Goals as goal

pub returns : goal.returns
returns g c =
    let env = c.args.env.now in
    let m = mean c.args.target.now in
    let rest = mean c.args.name.now in
    given_first (meaning.rename m rest env) Renamed m env (renamed rest env) c.args.run.now c.target.new.run c.renamed.new.run c.in_ok-target.target c.renamed.result (of_rename m rest env c.args.run.now) c.in_ok-target.ensures c.renamed.ensures
