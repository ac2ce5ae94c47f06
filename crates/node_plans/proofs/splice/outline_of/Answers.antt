use Rattle.std.proofs.Common.{◌≡◌, ◌∙◌, ◌-◌, ◌++◌, ℕ, List, ap, sym, arith, take, drop, option_map, Some, Bor, subst}
use Rattle.std.specs.List.{sum_by}
use Rattle.data_model.specs.Tree.{all_of}
use Rattle.data_model.specs.Trees.{roots, size, weigh}
use Rattle.node_table.specs.declared.table.Row.{Row}
use Rattle.node_table.specs.Flat.{Entry, listed, read_trees}
use Rattle.node_table.specs.Rows.{entry_of_row}
use Rattle.node_table.specs.Labels.{lists_in, position_in}
use Rattle.node_table.proofs.Copies.{same-entry}
use Rattle.node_plans.specs.Planned.{table_with, places_with}
use Rattle.node_plans.specs.Splices.{IsFree}
use Rattle.node_plans.proofs.Plans.{entry-with}
use Rattle.node_plans.proofs.splice.outline_of.Goals as goal

pub spliced_list-requires-clause-within : goal.spliced_list-requires-clause-within
spliced_list-requires-clause-within c =
    let at = entry-with c.args.plan.now c.args.rows.now c.args.span.parent (Some c.in-Some.row.now) (sym (ap (option_map (λ (x : Bor Row). x.now)) c.in-Some.is) ∙ c.find.ensures) in
    rw c.list_of-old.ensures (c.requires.within (entry_of_row c.in-Some.row.now) at)

pub part_of-requires-clause-within : goal.part_of-requires-clause-within
part_of-requires-clause-within c =
    let at = entry-with c.args.plan.now c.args.rows.now c.args.span.parent (Some c.in-Some.row.now) (sym (ap (option_map (λ (x : Bor Row). x.now)) c.in-Some.is) ∙ c.find.ensures) in
    rw c.list_of-old.ensures (c.requires.within (entry_of_row c.in-Some.row.now) at)

pub position-start-requires-clause-within : goal.position-start-requires-clause-within
position-start-requires-clause-within c =
    let at = entry-with c.args.plan.now c.args.rows.now c.args.span.parent (Some c.in-Some.row.now) (sym (ap (option_map (λ (x : Bor Row). x.now)) c.in-Some.is) ∙ c.find.ensures) in
    let within = c.requires.within (entry_of_row c.in-Some.row.now) at in
    let ordered = c.requires.ordered in omega arith

pub position-end-requires-clause-within : goal.position-end-requires-clause-within
position-end-requires-clause-within c =
    let at = entry-with c.args.plan.now c.args.rows.now c.args.span.parent (Some c.in-Some.row.now) (sym (ap (option_map (λ (x : Bor Row). x.now)) c.in-Some.is) ∙ c.find.ensures) in
    c.requires.within (entry_of_row c.in-Some.row.now) at

pub first_number-requires-clause-all : goal.first_number-requires-clause-all
first_number-requires-clause-all c =
    let at = entry-with c.args.plan.now c.args.rows.now c.args.span.parent (Some c.in-Some.row.now) (sym (ap (option_map (λ (x : Bor Row). x.now)) c.in-Some.is) ∙ c.find.ensures) in
    c.deref.ensures.value ∙ c.in_ok-all.ensures ∙ ap lists_in (sym at)

pub returns-clause-free : goal.returns-clause-free
returns-clause-free c = λ e h.
    (let f = table_with c.args.plan.now c.args.rows.now in
    let at = entry-with c.args.plan.now c.args.rows.now c.args.span.parent (Some c.in-Some.row.now) (sym (ap (option_map (λ (x : Bor Row). x.now)) c.in-Some.is) ∙ c.find.ensures) in
    let P : Entry → Type 0 = λ d. IsFree (places_with c.first_number.new.plan c.args.rows.now) (lists_in (Some d)) (position_in c.args.span.part c.args.span.from (Some d)) (position_in c.args.span.part c.args.span.to (Some d)) (size (all_of c.args.trees.now)) c.in_ok-first.first in
    let listing : c.deref.result.now ≡ lists_in (Some (entry_of_row c.in-Some.row.now)) = c.deref.ensures.value ∙ c.in_ok-all.ensures in
    subst P (same-entry (f c.args.span.parent) (entry_of_row c.in-Some.row.now) e at h) (rw (listing, c.position-start.ensures, c.position-end.ensures, c.node_count-count.ensures) at c.in_ok-first.ensures.free))

pub returns-clause-list : goal.returns-clause-list
returns-clause-list c = λ e h.
    (let f = table_with c.args.plan.now c.args.rows.now in
    let at = entry-with c.args.plan.now c.args.rows.now c.args.span.parent (Some c.in-Some.row.now) (sym (ap (option_map (λ (x : Bor Row). x.now)) c.in-Some.is) ∙ c.find.ensures) in
    let old : c.list_of-old.result.now ≡ listed c.args.span.part e = c.list_of-old.ensures ∙ ap (listed c.args.span.part) (same-entry (f c.args.span.parent) (entry_of_row c.in-Some.row.now) e at h) in
    c.in_ok-list.ensures ∙ ap (λ (xs : List ℕ). take c.args.span.from xs ++ roots (all_of c.args.trees.now) ++ drop c.args.span.to xs) old)

pub returns-clause-gone : goal.returns-clause-gone
returns-clause-gone c = λ e h w.
    (let f = table_with c.args.plan.now c.args.rows.now in
    let at = entry-with c.args.plan.now c.args.rows.now c.args.span.parent (Some c.in-Some.row.now) (sym (ap (option_map (λ (x : Bor Row). x.now)) c.in-Some.is) ∙ c.find.ensures) in
    let old : c.list_of-old.result.now ≡ listed c.args.span.part e = c.list_of-old.ensures ∙ ap (listed c.args.span.part) (same-entry (f c.args.span.parent) (entry_of_row c.in-Some.row.now) e at h) in
    let cut = c.part_of.ensures ∙ ap (λ (xs : List ℕ). take (c.args.span.to - c.args.span.from) (drop c.args.span.from xs)) old in
    let none = ap (sum_by w) c.new-gone.ensures.items in
    let sum = c.in_ok-add_all.ensures w in
    let read = ap (λ (xs : List ℕ). weigh w (read_trees c.args.levels f xs)) cut in
    omega arith)
