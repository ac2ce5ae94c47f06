use Rattle.std.proofs.Common.{rules}
use Rattle.node_table.specs.Rows.{table_of}
use Rattle.forest_index.specs.Named.{list_in}
use Rattle.forest_index.proofs.Named.{sweep-kept, sweep-swept}
use Rattle.forest_index.proofs.name_lists.sweep_all.Goals as goal

pub returns-clause-kept : goal.returns-clause-kept
unfolding list_in
returns-clause-kept c = λ n i e l. rw (c.shrink_names.ensures n) (sweep-kept _ _ (table_of c.args.rows.now) (λ k v b w h call. (rw (← call.shows.0, ← call.shows.1, ← call.leaves) call.called.met.1, search rules)) c.args.lists.now.entries c.retain.new.self.entries c.retain.ensures.filtered n i e l)

pub returns-clause-swept : goal.returns-clause-swept
unfolding list_in
returns-clause-swept c = λ n i l. sweep-swept _ _ (table_of c.args.rows.now) (λ k v b w h call. (rw (← call.shows.0, ← call.shows.1, ← call.leaves) call.called.met.1, search rules)) c.args.lists.now.entries c.retain.new.self.entries c.retain.ensures.filtered n i (rw (c.shrink_names.ensures n) at l)
