use Rattle.query_paths.proofs.Calls.{evaluates_others}
use Rattle.query_paths.proofs.filters.Paths.filter.Goals as goal

pub filtered_items-requires-clause-evaluates : goal.filtered_items-requires-clause-evaluates
filtered_items-requires-clause-evaluates g c = evaluates_others _ _ _ _ _ c.as_slice.ensures c.requires.evaluates
