use Rattle.node_table.specs.Rows.{table_of}
use Rattle.node_table.specs.Labels.{place_of}
use Rattle.trees.proofs.Forests.{now-table}
use Rattle.node_table.proofs.Ups.{orders-of}
use Rattle.trees.proofs.forest.Forest.numbered.Goals as goal

pub returns : goal.returns
returns c = (place_of c.self.inside.rows, orders-of (place_of c.self.inside.rows) (table_of c.self.inside.rows) c.self.inside.next c.args.self.now.trees (now-table c.self.inside c.args.self.now c.self.view_is c.self.invariant) c.self.invariant.numbered)
