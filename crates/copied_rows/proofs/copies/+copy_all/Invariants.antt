use Rattle.std.proofs.Common.{◌≡◌, ℕ, ◌+◌, ◌≤◌, ◌<◌, None}
use Rattle.data_model.specs.Trees.{bytes_in, height, roots, size}
use Rattle.data_model.specs.Changes.{renumbered}
use Rattle.node_table.specs.Flat.{Holds, read_trees, both}
use Rattle.node_table.specs.Rows.{table_of}
use Rattle.node_table.specs.Labels.{place_of}
use Rattle.node_table.proofs.Copies.{first_trees}
use Rattle.copied_rows.proofs.copies.+copy_all.Given as goal

abbrev pub decreases-copy_all : goal.decreases-copy_all
decreases-copy_all l = l.deep

-- the first trees are copied
abbrev pub invariant-loop-id : goal.invariant-loop-id
invariant-loop-id l =
    let us = read_trees l.deep (both (table_of l.initial.copying.lent) (table_of l.initial.rows)) l.ids in
    let front = first_trees l.id-index us in
    record {
      lent : l.copying.lent ≡ l.initial.copying.lent;
      first : l.copying.first ≡ l.initial.copying.first;
      end : l.copying.end ≡ l.initial.copying.end;
      levels : l.copying.levels ≡ l.initial.copying.levels;
      next : l.copying.next ≡ l.initial.copying.next + size front;
      within : l.initial.copying.next ≤ l.initial.copying.end → l.copying.next ≤ l.initial.copying.end;
      bytes : l.copying.bytes + bytes_in front ≡ l.initial.copying.bytes;
      high : height front ≤ l.initial.copying.levels;
      copies : l.copies.items ≡ roots (renumbered l.initial.copying.next front);
      copied : Holds (table_of l.rows) l.fn.parent (renumbered l.initial.copying.next front);
      same : (i : ℕ) → i < l.initial.copying.next → table_of l.rows i ≡ table_of l.initial.rows i;
      fresh : (i : ℕ) → l.copying.next ≤ i → table_of l.rows i ≡ None;
      places : place_of l.rows ≡ place_of l.initial.rows;
    }
