-- What one look-up reads of a node, from the table's entry.
use Rattle.std.proofs.Common.{◌≡◌, ℕ, ap, ◌∙◌, Option, Some, None, option_map, subst}
use Rattle.data_model.specs.declared.node.NodeView.{NodeView}
use Rattle.data_model.specs.Trees.{Trees, Place}
use Rattle.data_model.specs.Views.{Views}
use Rattle.row_pages.specs.Rows.{Term}
use Rattle.node_table.specs.declared.table.Row.{Row}
use Rattle.node_table.specs.Rows.{table_of, trees_of}
use Rattle.node_table.proofs.Tables.{find-table}
use Rattle.node_table.specs.Flat.{Entry, entry_at, entry_in, IsTableOf}
use Rattle.node_table.specs.Cursors.{Names}
use Rattle.node_table.specs.declared.cursor.NodeName.{NodeName}

pub view-entry : (v : NodeView) (e : Entry) (o : Option Place) → option_map entry_at o ≡ Some e → v.kind ≡ e.kind → v.name.now ≡ e.name → v.text.now ≡ e.text → v.parent ≡ e.parent → v.attributes.now ≡ e.attributes → v.children.now ≡ e.children → Views (Some v) o
view-entry v e None h kind name text parent attributes children = cc
view-entry v e (Some x) h kind name text parent attributes children =
    let k : e ≡ entry_at x = cc in
    record {
      kind = kind ∙ ap (λ (z : Entry). z.kind) k;
      name = name ∙ ap (λ (z : Entry). z.name) k;
      text = text ∙ ap (λ (z : Entry). z.text) k;
      parent = parent ∙ ap (λ (z : Entry). z.parent) k;
      attributes = attributes ∙ ap (λ (z : Entry). z.attributes) k;
      children = children ∙ ap (λ (z : Entry). z.children) k;
    }

pub view-none : (o : Option Place) → option_map entry_at o ≡ None → Views None o
view-none None h = tt
view-none (Some x) h = cc

-- ---- its name alone
pub name-entry : (v : NodeName) (e : Entry) (o : Option Place) → option_map entry_at o ≡ Some e → v.kind ≡ e.kind → v.name.now ≡ e.name → Names (Some v) o
name-entry v e None h kind name = cc
name-entry v e (Some x) h kind name =
    let k : e ≡ entry_at x = cc in
    (kind ∙ ap (λ (z : Entry). z.kind) k, name ∙ ap (λ (z : Entry). z.name) k)

pub name-none : (o : Option Place) → option_map entry_at o ≡ None → Names None o
name-none None h = tt
name-none (Some x) h = cc

-- ---- from a cursor's rows to its trees
pub cursor-entry : (rows : Term Row) (next : ℕ) (ts : Trees) → trees_of (table_of rows) next ≡ ts → IsTableOf (table_of rows) next (trees_of (table_of rows) next) → (i : ℕ) → entry_in i ts ≡ table_of rows i
cursor-entry rows next ts is h i = (let P : Trees → Type 0 = IsTableOf (table_of rows) next in find-table (table_of rows) next ts i (subst P is h))
