use Rattle.std.proofs.Common.{◌≡◌, ℕ, ◌≤◌, ◌<◌, None}
use Rattle.node_table.specs.Rows.{row_of}
use Rattle.copied_rows.proofs.copies.remove_range.Given as goal

abbrev pub invariant-loop-number : goal.invariant-loop-number
invariant-loop-number l =
    record {
      none : l.end < l.first → l.number ≡ l.first;
      removed : (i : ℕ) → l.first ≤ i → i < l.number → row_of l.rows i ≡ None;
      below : (i : ℕ) → i < l.first → row_of l.rows i ≡ row_of l.initial.rows i;
      above : (i : ℕ) → l.number ≤ i → row_of l.rows i ≡ row_of l.initial.rows i;
    }
