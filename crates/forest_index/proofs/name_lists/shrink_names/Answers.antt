use Rattle.forest_index.proofs.Named.{list-same}
use Rattle.forest_index.proofs.name_lists.shrink_names.Goals as goal

pub returns-then-capacity-count : goal.returns-then-capacity-count
returns-then-capacity-count c = list-same c.args.lists.now c.shrink_to.new.self c.shrink_to.ensures.entries
