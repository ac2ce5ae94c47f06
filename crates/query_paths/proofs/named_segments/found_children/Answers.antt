use Rattle.query_meaning.specs.Environment.{no_environment}
use Rattle.query_meaning.specs.Running.{counted}
use Rattle.evaluation.proofs.Counted.{counted_gives}
use Rattle.query_paths.specs.Named.{children_of_item}
use Rattle.query_paths.proofs.Finds.{found_gives}
use Rattle.query_paths.proofs.named_segments.found_children.Goals as goal

pub returns-clause-found : goal.returns-clause-found
returns-clause-found c =
    let own = children_of_item c.args.test.now c.args.item.now in
    found_gives (λ _. counted own) no_environment 0 0 c.args.given c.args.item.now c.args.run.now c.turn.new.self c.count.new.self c.in_ok-items.items c.as_slice.result.now c.and_all.result
    c.in_ok-turn.ensures
    (counted_gives own c.turn.new.self c.children_of_item.new.run c.count.new.self c.in_ok-items.items c.in_ok-count.field-0 c.in_ok-items.ensures.given c.in_ok-count.ensures.counted c.in_ok-count.ensures.same)
    c.as_slice.ensures.items c.and_all.ensures
