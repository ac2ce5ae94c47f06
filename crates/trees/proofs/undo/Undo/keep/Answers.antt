use Rattle.std.proofs.Common.{◌≡◌, ◌∙◌, ap, refl}
use Rattle.node_table.specs.Rows.{table_of}
use Rattle.node_table.proofs.Rows.{table-same, places-same}
use Rattle.trees.specs.Undo.{UndoTerm}
use Rattle.trees.specs.Settled.{changed_forest}
use Rattle.trees.specs.declared.forest.Forest.TheInside.{Inside}
use Rattle.forest_index.proofs.Sized.{sizes-of}
use Rattle.trees.proofs.Forests.{sound-rows, term-same}
use Rattle.trees.proofs.undo.Undo.keep.Goals as goal

abbrev made : goal.After-drop-self-inside → Inside
made c = record (changed_forest c.self.inside.parts) { rows = c.shrink.new.self; index = c.settle.new.index }

pub invariant_of-result : goal.invariant_of-result
invariant_of-result c =
    let a = c.self.inside.parts in
    let h = c.self.invariant in
    let same : table_of c.shrink.new.self ≡ table_of a.rows = table-same a.rows c.shrink.new.self c.shrink.ensures in
    sound-rows (changed_forest a) (made c) same (places-same a.rows c.shrink.new.self c.shrink.ensures) refl refl refl (c.settle.ensures.named (table_of c.shrink.new.self) (rw same h.renamed)) (sizes-of _ _ _ c.settle.ensures.sizes h.resized) h.after

pub returns : goal.returns
returns c =
    let a = c.self.inside.parts in
    term-same (changed_forest a) (made c) (table-same a.rows c.shrink.new.self c.shrink.ensures) refl refl ∙ ap (λ (u : UndoTerm). u.after) c.self.view_is
