use Rattle.std.proofs.Common.{◌≡◌, ◌∙◌, ap, sym, subst}
use Rattle.node_table.specs.Flat.{Table, IsTableOf}
use Rattle.node_table.specs.Rows.{table_of}
use Rattle.node_table.specs.Labels.{place_of}
use Rattle.node_plans.specs.Planned.{places_with}
use Rattle.trees.specs.Drafts.{DraftTerm}
use Rattle.trees.specs.Drafted.{table_after}
use Rattle.trees.specs.declared.forest.Forest.TheInside.{Inside}
use Rattle.forest_index.proofs.Sized.{sizes-of}
use Rattle.trees.proofs.Forests.{sound, term-is}
use Rattle.trees.proofs.Drafts.{now-table, now-count, now-sizes, settled-table, settled-places}
use Rattle.trees.proofs.draft.Prepared.settle.Goals as goal

abbrev made : goal.After-settle-2 → Inside
made c = record { rows = c.settle.new.rows; documents = c.self.inside.parts.documents; next = c.self.inside.parts.next; nodes = c.self.inside.parts.count; index = c.settle-2.new.index; names = c.self.inside.parts.names }

table-is : (c : goal.After-settle-2) → table_of c.settle.new.rows ≡ table_after c.self.inside.parts
table-is c = settled-table c.self.inside.parts.plan c.self.inside.parts.rows c.settle.new.rows c.settle.ensures

places-are : (c : goal.After-settle-2) → place_of c.settle.new.rows ≡ places_with c.self.inside.parts.plan c.self.inside.parts.rows
places-are c = settled-places c.self.inside.parts.plan c.self.inside.parts.rows c.settle.new.rows c.settle.ensures

whole : (c : goal.After-settle-2) → IsTableOf (table_of c.settle.new.rows) c.self.inside.parts.next c.args.self.after
whole c = let P : Table → Type 0 = λ f. IsTableOf f c.self.inside.parts.next c.args.self.after in subst P (sym (table-is c)) (now-table c.self.inside.parts c.args.self c.self.view_is c.self.invariant.drafted)

pub invariant_of-result : goal.invariant_of-result
invariant_of-result c =
    let h = c.self.invariant.drafted in
    sound (made c) c.args.self.after (whole c) (now-count c.self.inside.parts c.args.self c.self.view_is h) (rw (table-is c, places-are c) h.numbered) h.bound (rw (table-is c) h.standing) (c.settle-2.ensures.named (table_of c.settle.new.rows) (rw (table-is c) c.self.invariant.named))
    (sizes-of _ _ c.args.self.after c.settle-2.ensures.sizes (now-sizes c.self.inside.parts c.args.self c.self.view_is h))

pub returns : goal.returns
returns c = term-is (made c) c.args.self.after (whole c) ∙ ap (λ (d : DraftTerm). record d.before { trees = c.args.self.after; next = d.next }) c.self.view_is
