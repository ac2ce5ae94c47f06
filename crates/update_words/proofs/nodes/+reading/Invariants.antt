use Rattle.std.proofs.Common.{◌+◌, ◌*◌}
use Rattle.update_words.specs.New.{IsGrown}
use Rattle.update_words.proofs.nodes.+reading.Given as goal

abbrev pub decreases-read_below : goal.decreases-read_below
decreases-read_below l = 3 * l.levels

abbrev pub decreases-read_next : goal.decreases-read_next
decreases-read_next l = 3 * l.levels + 1

abbrev pub decreases-read_nodes : goal.decreases-read_nodes
decreases-read_nodes l = 3 * l.levels + 2

abbrev pub invariant-read_nodes-loop : goal.invariant-read_nodes-loop
invariant-read_nodes-loop l = IsGrown l.fn.first l.grown
