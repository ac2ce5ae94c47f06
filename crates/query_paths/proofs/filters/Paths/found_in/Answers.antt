use Rattle.std.proofs.Common.{Ok, ◌+◌, subst}
use Rattle.query_meaning.specs.Environment.{Environment, with_focus}
use Rattle.query_meaning.specs.Meaning.{mean}
use Rattle.evaluation.specs.Gives.{Gives}
use Rattle.query_paths.proofs.Finds.{found_gives}
use Rattle.query_paths.proofs.filters.Paths.found_in.Goals as goal

pub returns : goal.returns
returns g c =
    let P : Environment → Type 0 = λ env. Gives (mean c.args.part.now env) c.turn.new.self (Ok c.in_ok-items.items) c.value_of.new.run in
    found_gives (mean c.args.part.now) c.args.env.now c.args.size c.args.index c.args.given c.args.item.now c.args.run.now c.turn.new.self c.value_of.new.run c.in_ok-items.items c.as_slice.result.now c.and_all.result
    c.in_ok-turn.ensures (subst P {y = with_focus c.args.item.now (c.args.index + 1) c.args.size c.args.env.now} c.with_focus-focus.ensures c.in_ok-items.ensures) c.as_slice.ensures.items c.and_all.ensures
