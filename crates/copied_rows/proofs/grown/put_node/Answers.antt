use Rattle.std.proofs.Common.{◌≡◌, ◌∙◌, ℕ, List, [], Option, ap, sym, Some, None}
use Rattle.node_table.specs.Rows.{table_of}
use Rattle.node_table.proofs.Rows.{table-sets, table-same, places-same, places-new}
use Rattle.node_table.specs.Flat.{Entry}
use Rattle.data_model.specs.declared.node.Kind.{Kind}
use Rattle.copied_rows.proofs.grown.put_node.Goals as goal

-- what a new node's row says
entry-new : (kind : Kind) (name t : List ℕ) (p : Option ℕ) (xs ys : List ℕ) → t ≡ [] → p ≡ None → xs ≡ [] → ◌≡◌ {A = Entry} (record { kind = kind; name = name; text = t; parent = p; attributes = xs; children = ys }) (record { kind = kind; name = name; text = []; parent = None; attributes = []; children = ys })
entry-new kind name t p xs ys h k l = λ j. record { kind = kind; name = name; text = h j; parent = k j; attributes = l j; children = ys }

pub returns-in_err-insert-clause-same : goal.returns-in_err-insert-clause-same
returns-in_err-insert-clause-same c = λ i ne. ap (λ h. h i) (table-same c.args.rows.now c.insert.new.self c.in_err-insert.ensures.refused)

pub returns-in_err-insert-clause-places : goal.returns-in_err-insert-clause-places
returns-in_err-insert-clause-places c = places-same c.args.rows.now c.insert.new.self c.in_err-insert.ensures.refused

pub returns-clause-put : goal.returns-clause-put
returns-clause-put c =
    let set = table-sets c.args.rows.now c.insert.new.self c.number-2.result _ c.in_ok-insert.ensures.put in
    ap (table_of c.insert.new.self) (sym c.number-2.ensures) ∙ set.here ∙ ap Some (entry-new c.args.node.kind c.args.node.name _ _ _ c.args.children.items c.empty.ensures c.as_in_row-has_parent.ensures c.new.ensures)

pub returns-clause-same : goal.returns-clause-same
returns-clause-same c = λ i ne. (let set = table-sets c.args.rows.now c.insert.new.self c.number-2.result _ c.in_ok-insert.ensures.put in set.apart i (λ same. ne (same ∙ c.number-2.ensures)))

pub returns-clause-places : goal.returns-clause-places
returns-clause-places c = places-new c.args.rows.now c.insert.new.self c.number-2.result _ (ap (table_of c.args.rows.now) c.number-2.ensures ∙ c.requires) (c.number.ensures ∙ sym c.number-2.ensures) c.in_ok-insert.ensures.put
