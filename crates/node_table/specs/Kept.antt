-- How a list of nodes is kept. No public clause cites this module.
use Rattle.std.specs.Prelude.{[], ◌∷◌, vec_capacity}
use Rattle.node_table.specs.Lists.{Nodes}
use Rattle.node_table.specs.declared.list.Kept.{Kept}
use Rattle.node_table.specs.declared.list.Kept.TheVariants.{Empty, One, Many}

abbrev pub nodes_of : Kept → Nodes
nodes_of Empty = record { items = []; capacity = 1 }
nodes_of (One i) = record { items = i ∷ []; capacity = 1 }
nodes_of (Many b) = record { items = b.value.items; capacity = vec_capacity b.value }
