use Rattle.std.proofs.lemmas.Result.{err_from_is_err_and}
use Rattle.query_paths.proofs.Directions.{found_stand, step_fails, step_gives}
use Rattle.query_paths.proofs.filters.Paths.step_from.Goals as goal

pub chosen_from-requires-clause-stand : goal.chosen_from-requires-clause-stand
chosen_from-requires-clause-stand g c =
    found_stand c.args.axis c.args.test.now c.args.node c.args.run.now c.spend.new.self c.in_ok-listing.listing.nodes.items c.deref.result.now
    c.in_ok-spend.ensures.same c.in_ok-listing.ensures.nodes c.deref.ensures.value

pub returns-in_err-spend : goal.returns-in_err-spend
returns-in_err-spend g c =
    let p = err_from_is_err_and c.from_residual-in_err-spend.result c.from_residual-in_err-spend.ensures.1 in
    rw (p.1, p.2) (step_fails c.args.axis c.args.test.now _ c.args.node c.args.env.now c.args.run.now c.spend.new.self c.in_ok-listing.listing.looked_at c.in_err-spend.field-0.0 c.in_ok-listing.ensures.looked c.in_err-spend.ensures.spent)

pub returns : goal.returns
returns g c =
    step_gives c.args.axis c.args.test.now _ c.args.node c.args.env.now c.args.run.now c.spend.new.self c.chosen_from.new.run c.in_ok-listing.listing.looked_at c.in_ok-listing.listing.nodes.items c.deref.result.now c.chosen_from.result
    c.in_ok-listing.ensures.looked c.in_ok-listing.ensures.nodes c.deref.ensures.value c.in_ok-spend.ensures.spent c.in_ok-spend.ensures.same c.chosen_from.ensures
