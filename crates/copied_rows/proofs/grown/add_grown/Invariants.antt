use Rattle.std.proofs.Common.{◌≡◌, ℕ, ◌+◌, ◌≤◌, ◌<◌, Some, None, take}
use Rattle.data_model.specs.Trees.{height, roots, size}
use Rattle.data_model.specs.Changes.{renumbered}
use Rattle.node_table.specs.Flat.{Holds, both}
use Rattle.node_table.specs.Labels.{place_of}
use Rattle.node_table.specs.Rows.{table_of}
use Rattle.copied_rows.specs.Copies.{read_each, read_work}
use Rattle.copied_rows.proofs.grown.add_grown.Given as goal

-- the trees of the first nodes are copied
abbrev pub invariant-loop-id : goal.invariant-loop-id
invariant-loop-id l =
    let n = l.fn.node.identity in
    let f = both (table_of l.fn.copying.lent) (table_of l.fn.rows) in
    let us = read_each n f (take l.id-index l.ids) in
    record {
      lent : l.copying.lent ≡ l.fn.copying.lent;
      first : l.copying.first ≡ l.fn.copying.first;
      end : l.copying.end ≡ l.fn.copying.end;
      levels : l.copying.levels ≡ l.fn.copying.levels;
      next : l.copying.next ≡ n + 1 + size us;
      within : l.copying.next ≤ l.fn.copying.end;
      work : l.work + read_work n f (take l.id-index l.ids) ≡ l.fn.work;
      high : height us ≤ l.fn.copying.levels;
      children : l.children.items ≡ roots (renumbered (n + 1) us);
      copied : Holds (table_of l.rows) (Some n) (renumbered (n + 1) us);
      same : (i : ℕ) → i < n + 1 → table_of l.rows i ≡ table_of l.fn.rows i;
      fresh : (i : ℕ) → l.copying.next ≤ i → table_of l.rows i ≡ None;
      places : place_of l.rows ≡ place_of l.fn.rows;
    }
