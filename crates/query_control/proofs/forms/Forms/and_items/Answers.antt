use Rattle.std.proofs.Common.{◌++◌}
use Rattle.query_meaning.specs.Meaning.{mean}
use Rattle.query_meaning.specs.Running.{joined, within}
use Rattle.evaluation.specs.Gives.{Stand}
use Rattle.evaluation.proofs.Each.{then_gives}
use Rattle.item_expressions.specs.Lasting.{stand_on}
use Rattle.item_expressions.specs.Looped.{leaving}
use Rattle.item_expressions.proofs.Returned.{joined_gives, says_left}
use Rattle.query_control.proofs.forms.Forms.and_items.Goals as goal

pub returns : goal.returns
returns g c =
    let value = c.in_ok-items.ensures in
    let items = c.in_ok-items.items in
    let given = c.args.given.now in
    let left = leaving c.append.result c.append.new.self in
    let stand = stand_on given c.args.run.now c.value_of.new.run value.1.0 c.requires.stand in
    then_gives Stand Stand (mean c.args.x.now c.args.env.now) (joined given) c.args.run.now c.value_of.new.run c.value_of.new.run items left value
    (joined_gives given items c.value_of.new.run left stand value.1.1 (says_left (within (given ++ items)) c.append.result c.append.new.self c.append.ensures.joined c.append.ensures.code))
