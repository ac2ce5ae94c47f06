use Rattle.std.proofs.Common.{◌+◌, length}
use Rattle.data_model.specs.Order.{identities}
use Rattle.trees.specs.Inside.{AreRowsOf}
use Rattle.trees.proofs.Merged.{AreMerged}
use Rattle.trees.proofs.forest.Forest.merged.Given as goal

-- what is out is the front of both, merged
abbrev pub invariant-loop-first : goal.invariant-loop-first
invariant-loop-first l =
    record {
      rows : AreRowsOf l.rows l.self;
      merged : AreMerged (identities l.self.trees) l.ids l.nodes.items l.left l.right;
    }

abbrev pub decreases-loop-first : goal.decreases-loop-first
decreases-loop-first l = length l.left + length l.right
