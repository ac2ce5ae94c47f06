use Rattle.std.proofs.Common.{subst}
use Rattle.forest_index.specs.Named.{IsListed}
use Rattle.forest_index.proofs.Named.{add-here}
use Rattle.forest_index.proofs.name_lists.NameLists.add_changed.Goals as goal

pub returns-in_ok-add-clause-listed : goal.returns-in_ok-add-clause-listed
returns-in_ok-add-clause-listed c = λ n e was. subst (λ m. IsListed c.add.new.self m c.args.id) e.1 (add-here c.args.self.now c.add.new.self c.args.row.now.name c.args.id (rw c.as_str-then-not-is_element.ensures.value at c.in_ok-add.ensures.added))
