use Rattle.std.proofs.Common.{Option, subst}
use Rattle.data_model.specs.Trees.{find}
use Rattle.node_table.specs.Flat.{Entry}
use Rattle.node_table.specs.Rows.{table_of}
use Rattle.forest_index.specs.Named.{IsElement, Covers}
use Rattle.forest_index.specs.declared.index.ForestIndex.{ForestIndex}
use Rattle.trees.proofs.Forests.{entry-is}
use Rattle.forest_index.proofs.Named.{element-at}
use Rattle.trees.proofs.forest.Forest.elements_named.Goals as goal

pub returns-in-Some : goal.returns-in-Some
returns-in-Some c =
    let n = c.args.name.now in
    let P : Option ForestIndex → Type 0 = λ o. Covers o (table_of c.self.inside.rows) in
    let Q : Option Entry → Type 0 = IsElement n in
    λ i h. rw c.list.ensures (subst P c.in-Some.is c.self.invariant.named n i (subst Q (entry-is c.self.inside c.args.self.now c.self.view_is c.self.invariant i) (element-at n (find i c.args.self.now.trees) h)))
