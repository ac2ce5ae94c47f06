use Rattle.meaning_laws.proofs.Ordered.{path_in_order}
use Rattle.meaning_laws.proofs.laws.paths_are_in_order.Goals as goal

pub returns : goal.returns
returns c = λ m n ms env run after items. path_in_order m n ms env run (items, after)
