use Rattle.std.proofs.Common.{◌≡◌, ℕ, Bool, is_some, IsSome, map, All, ap, sym, ◌∙◌, refl, subst}
use Rattle.node_table.specs.declared.label.Labelled.{Labelled}
use Rattle.std.proofs.lemmas.List.Elements.{All-push}
use Rattle.node_table.specs.Rows.{table_of, trees_of}
use Rattle.node_table.specs.Labels.{place_of, label_of}
use Rattle.node_table.proofs.LabelLists.{one-more, none-more}
use Rattle.node_table.proofs.Rows.{is_some-table}
use Rattle.node_table.proofs.label.with_labels.Goals as goal
use Rattle.node_table.proofs.label.with_labels.Goals.{then-contains_key+in_ok-label+in_ok-push, else-contains_key}

pub read_label-requires-clause-here : goal.read_label-requires-clause-here
read_label-requires-clause-here c = is_some-table c.args.rows.now c.id-item.result ∙ sym (rw c.number.ensures at c.contains_key.ensures) ∙ c.if-contains_key.true

pub loop-id-preserved : goal.loop-id-preserved
loop-id-preserved c =
    let i = c.loop-id.invariant in
    let m = c.args.rows.now in
    let id = c.id-item.result in
    let has = is_some-table m id ∙ sym (rw c.number.ensures at c.contains_key.ensures) in
    let stands : ℕ → Bool = λ j. is_some (table_of m j) in
    let there : Labelled → Type 0 = λ x. IsSome (table_of m x.node) in
    let labels : Labelled → Type 0 = λ x. x.label.items ≡ label_of (place_of m) x.node (trees_of (table_of m) c.args.levels) in
    elim c.if-contains_key.branch [
      | then-contains_key+in_ok-label+in_ok-push b ↦
          (let pushed = ap (λ v. v.items) b.labelled-is ∙ b.in_ok-push.ensures.items in
          record {
            nodes = one-more stands c.args.ids.now c.loop-id.id-index id c.loop-id.labelled.items _ _ c.loop-id-test.true c.id-item.is pushed refl (has ∙ b.if-contains_key.true) i.nodes;
            there = subst (All there) (sym pushed) (All-push there c.loop-id.labelled.items _ i.there (has ∙ b.if-contains_key.true));
            labels = subst (All labels) (sym pushed) (All-push labels c.loop-id.labelled.items _ i.labels b.in_ok-label.ensures);
          })
      | else-contains_key b ↦
          (let kept = ap (λ v. v.items) b.labelled-is in
          record {
            nodes = ap (map (λ x. x.node)) kept ∙ none-more stands c.args.ids.now c.loop-id.id-index id _ c.loop-id-test.true c.id-item.is (has ∙ b.if-contains_key.false) i.nodes;
            there = subst (All there) (sym kept) i.there;
            labels = subst (All labels) (sym kept) i.labels;
          })
    ]
