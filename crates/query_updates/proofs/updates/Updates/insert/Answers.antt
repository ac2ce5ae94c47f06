use Rattle.copied_content.specs.New.{IsNew}
use Rattle.query_meaning.specs.Meaning.{mean}
use Rattle.query_updates.proofs.Placed.{insert_gives}
use Rattle.query_updates.proofs.updates.Updates.insert.Goals as goal

pub returns : goal.returns
returns g c =
    insert_gives (mean c.args.source.now) c.args.place (mean c.args.target.now) c.args.env.now (IsNew c.value_of.new.run) c.args.run.now c.value_of.new.run c.content.new.run c.placed.new.run c.in_ok-items.items c.in_ok-new.new c.placed.result
    c.in_ok-items.ensures c.in_ok-new.ensures c.placed.ensures
