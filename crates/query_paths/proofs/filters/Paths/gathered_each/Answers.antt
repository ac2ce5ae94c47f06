use Rattle.std.proofs.Common.{ℕ, [], Ok, ◌+◌, length, subst, ap}
use Rattle.query_meaning.specs.Meaning.{mean}
use Rattle.evaluation.specs.Gives.{GivesIn}
use Rattle.evaluation.proofs.Each.{goes_on}
use Rattle.query_paths.specs.Gathered.{IsFewIn, found_in}
use Rattle.query_paths.proofs.filters.Paths.gathered_each.Goals as goal

pub loop-item-preserved : goal.loop-item-preserved
loop-item-preserved g c =
    let own = found_in (mean c.args.part.now) c.args.env.now (length c.args.items.now) in
    let P : ℕ → Type 0 = λ k. GivesIn IsFewIn (own k c.loop-item.found c.item-item.result) c.loop-item.run (Ok c.in_ok-found.found) c.found_in.new.run in (
      ap (λ k. k + 1) c.loop-item.invariant.0,
      goes_on IsFewIn own c.args.items.now (record { nodes = []; atoms = [] }) c.args.run.now c.loop-item.item-index c.loop-item.found c.in_ok-found.found c.loop-item.run c.found_in.new.run c.item-item.result
          c.loop-item.invariant.1 c.loop-item-test.true c.item-item.is (subst P c.loop-item.invariant.0 c.in_ok-found.ensures),
    )
