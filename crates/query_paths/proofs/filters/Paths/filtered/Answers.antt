use Rattle.query_paths.proofs.Numbers.{filtered_by_number}
use Rattle.query_paths.proofs.filters.Paths.filtered.Goals as goal

pub returns-in-Integer-clause-kept : goal.returns-in-Integer-clause-kept
returns-in-Integer-clause-kept g c =
    filtered_by_number c.args.predicate.now c.in-Integer.literal c.args.env.now c.args.items.now c.args.run.now c.numbered.new.run c.numbered.result c.in-Integer.is c.numbered.ensures.in_range c.numbered.ensures.kept
