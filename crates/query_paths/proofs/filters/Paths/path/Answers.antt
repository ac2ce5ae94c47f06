use Rattle.query_paths.proofs.Calls.{evaluates_others}
use Rattle.query_paths.proofs.filters.Paths.path.Goals as goal

pub followed-requires-clause-evaluates : goal.followed-requires-clause-evaluates
followed-requires-clause-evaluates g c = evaluates_others _ _ _ _ _ c.as_slice.ensures c.requires.evaluates
