-- What one look-up reads of a node's name.
use Rattle.std.specs.Prelude.{◌≡◌, Option, Some, None}
use Rattle.data_model.specs.Trees.{Place}
use Rattle.node_table.specs.declared.cursor.NodeName.{NodeName}

-- the kind and the name of a node where there is one, and none elsewhere
abbrev pub Names : Option NodeName → Option Place → Type 0
Names None None = Unit {0}
Names None (Some x) = ⊥
Names (Some v) None = ⊥
Names (Some v) (Some x) = (v.kind ≡ x.content.kind) × (v.name.now ≡ x.content.name)
