use Rattle.std.proofs.Common.{◌≡◌, ◌≤◌, ◌^◌, ◌∙◌, ap, arith, subst, sym}
use Rattle.node_table.specs.Flat.{Table, IsTableOf}
use Rattle.node_table.specs.Rows.{row_of, table_of}
use Rattle.node_table.specs.Labels.{place_of}
use Rattle.node_table.proofs.Tables.{IsTableOf-later}
use Rattle.node_plans.specs.Planned.{places_with}
use Rattle.trees.specs.Forest.{ForestTerm}
use Rattle.forest_index.specs.Sized.{kept_sizes}
use Rattle.trees.specs.Drafted.{table_after}
use Rattle.trees.specs.declared.draft.Drafted.{Drafted}
use Rattle.trees.proofs.Forests as forests
use Rattle.forest_index.proofs.Sized.{sizes-of, with-none, empty-get}
use Rattle.trees.proofs.Drafts.{drafted, draft-is, settled-table, settled-places}
use Rattle.trees.proofs.forest.Forest.drafted.Goals as goal

abbrev made : goal.After-number → Drafted
made c = record { rows = c.self.inside.rows; documents = c.self.inside.documents; first = c.self.inside.next; nodes = c.self.inside.nodes; index = c.self.inside.index; names = c.self.inside.names; plan = c.new.result; resized = c.new-2.result; next = c.number.result; count = c.self.inside.nodes }

table-is : (c : goal.After-number) → table_of c.self.inside.rows ≡ table_after (made c)
table-is c = settled-table c.new.result c.self.inside.rows c.self.inside.rows (sym (c.new.ensures (row_of c.self.inside.rows)))

places-are : (c : goal.After-number) → place_of c.self.inside.rows ≡ places_with c.new.result c.self.inside.rows
places-are c = settled-places c.new.result c.self.inside.rows c.self.inside.rows (sym (c.new.ensures (row_of c.self.inside.rows)))

whole : (c : goal.After-number) → IsTableOf (table_after (made c)) c.number.result c.args.self.trees
whole c =
    let P : Table → Type 0 = λ f. IsTableOf f c.number.result c.args.self.trees in
    let next = ap (λ (t : ForestTerm). t.next) c.self.view_is in
    subst P (table-is c) (IsTableOf-later (table_of c.self.inside.rows) c.self.inside.next c.number.result c.args.self.trees (omega (arith, next, c.requires.later, c.number.ensures)) (forests.now-table c.self.inside c.args.self c.self.view_is c.self.invariant))

pub returns-clause-drafted : goal.returns-clause-drafted
returns-clause-drafted c =
    let bound : c.number.result ≤ 2 ^ 62 = rw c.number.ensures c.requires.bound in
    drafted (made c) c.args.self.trees c.self.invariant (whole c) (forests.now-nodes c.self.inside c.args.self c.self.view_is c.self.invariant) (rw (← table-is c, ← places-are c) c.self.invariant.numbered) bound (rw (← table-is c) c.self.invariant.standing)
    (sizes-of _ _ c.args.self.trees (λ r n e. sym (with-none (kept_sizes c.self.inside.index) c.new-2.result (λ k. empty-get c.new-2.result k c.new-2.ensures) r) ∙ e) (forests.now-sizes c.self.inside c.args.self c.self.view_is c.self.invariant))

pub returns-clause-shown : goal.returns-clause-shown
returns-clause-shown c = draft-is (made c) c.args.self.trees (whole c) ∙ rw c.number.ensures (ap (λ (t : ForestTerm). record { before = t; after = c.args.self.trees; next = c.args.next }) c.self.view_is)
