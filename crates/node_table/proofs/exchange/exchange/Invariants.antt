use Rattle.std.proofs.Common.{◌≡◌, ◌+◌, ◌≤◌, ◌++◌, take, drop}
use Rattle.row_pages.specs.Rows.{spare}
use Rattle.node_table.specs.Rows.{row_of}
use Rattle.node_table.specs.Plans.{over, replaced, all_places}
use Rattle.node_table.proofs.exchange.exchange.Given as goal

-- what is left to change, from the rows as they are now
abbrev pub invariant-loop-change : goal.invariant-loop-change
invariant-loop-change l =
    let f = row_of l.rows in
    let left = drop l.change-index l.plan in
    record {
      rows : over left f ≡ over l.fn.plan (row_of l.fn.rows);
      plan : take l.change-index l.plan ++ replaced left f ≡ replaced l.fn.plan (row_of l.fn.rows);
      room : all_places left ≤ spare l.rows;
      spare : spare l.fn.rows + all_places left ≤ spare l.rows + all_places l.fn.plan;
    }
