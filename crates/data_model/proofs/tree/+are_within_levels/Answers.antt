use Rattle.data_model.proofs.Levels.{none_within}
use Rattle.data_model.proofs.tree.+are_within_levels.Goals as goal

pub returns-then-levels-eq0 : goal.returns-then-levels-eq0
returns-then-levels-eq0 t c = rw (c.is_empty.ensures, c.if-levels-eq0.true) (none_within c.args.trees.now)
