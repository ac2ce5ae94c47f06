use Rattle.std.proofs.Common.{◌≡◌, ◌∙◌, ap}
use Rattle.node_table.specs.Rows.{row_of}
use Rattle.node_table.proofs.Rows.{rows-same}
use Rattle.trees.specs.Undo.{UndoTerm}
use Rattle.trees.specs.Settled.{rows_before}
use Rattle.trees.proofs.Undone.{back-sound, back-is}
use Rattle.trees.proofs.undo.Undo.back.Goals as goal

rows : (c : goal.After-drop-self-inside-3) → row_of c.shrink.new.self ≡ rows_before c.self.inside.parts
rows c =
    let same : row_of c.shrink.new.self ≡ row_of c.exchange.new.rows = λ t i. rows-same c.exchange.new.rows c.shrink.new.self c.shrink.ensures i t in
    same ∙ rw c.deref_mut.ensures.value at c.exchange.ensures.rows

pub invariant_of-result : goal.invariant_of-result
invariant_of-result c = back-sound c.self.inside.parts c.shrink.new.self (rows c) c.self.invariant

pub returns : goal.returns
returns c = back-is c.self.inside.parts c.shrink.new.self (rows c) c.self.invariant ∙ ap (λ (u : UndoTerm). u.before) c.self.view_is
