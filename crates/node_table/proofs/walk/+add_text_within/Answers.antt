use Rattle.std.proofs.Common.{◌≡◌, ◌-◌, ◌++◌, Some, None, cond, string_bytes, ap, sym, ◌∙◌, option_copied, append-nil}
use Rattle.data_model.specs.Trees.{text_within}
use Rattle.node_table.specs.Flat.{read_trees}
use Rattle.node_table.specs.Rows.{table_of, entry_of_row}
use Rattle.node_table.proofs.Texts.{text-stop, piece, within-all, within-turn, within-stop}
use Rattle.node_table.proofs.Rows.{row-entry, row-none}
use Rattle.node_table.proofs.walk.+add_text_within.Goals as goal
use Rattle.node_table.proofs.walk.+add_text_within.Goals.{then-is_inner+in_ok-fits, else-is_inner+then-is_text+in_ok-fits-2, else-is_inner+else-is_text}

pub returns-in_default-clause-value : goal.returns-in_default-clause-value
returns-in_default-clause-value t c =
    let f = table_of c.args.rows.now in
    within-all c.args.most _ _ c.loop-id.invariant.0
    (text-stop f (read_trees (c.args.levels - 1) f) c.args.ids.now c.loop-id.id-index c.id-item.result _ _ c.loop-id-test.true c.id-item.is (rw c.number.ensures at (row-none c.args.rows.now c.number.result (sym c.get.ensures ∙ ap option_copied c.in_default.is))) c.loop-id.invariant.1)

pub returns-then-not-fits-clause-value : goal.returns-then-not-fits-clause-value
returns-then-not-fits-clause-value t c =
    let f = table_of c.args.rows.now in
    let below = read_trees (c.args.levels - 1) f in
    let e = entry_of_row c.in-Some.row.now in
    let stop = λ (a : text_within c.args.most (string_bytes c.loop-id.out ++ piece below e) ≡ cond c.if-is_inner.fits (Some (string_bytes c.if-is_inner.out)) None).
    within-stop f below c.args.ids.now c.loop-id.id-index c.id-item.result c.args.most e _ _ _ c.if-is_inner.fits c.loop-id-test.true c.id-item.is
    (rw c.number.ensures at (row-entry c.args.rows.now c.number.result c.in-Some.row.now (sym c.get.ensures ∙ ap option_copied c.in-Some.is))) a c.loop-id.invariant.1 c.if-not-fits.true in
    elim c.if-is_inner.branch [
      | then-is_inner+in_ok-fits w ↦ stop (rw (sym c.is_inner.ensures ∙ w.if-is_inner.true, ← w.deref.ensures.value, w.out-is, w.fits-is) w.in_ok-fits.ensures.value)
      | else-is_inner+then-is_text+in_ok-fits-2 w ↦ stop (rw (sym c.is_inner.ensures ∙ w.if-is_inner.false, sym w.is_text.ensures ∙ w.if-is_text.true, ← w.as_str.ensures, w.out-is, w.fits-is) w.in_ok-fits-2.ensures.value)
      | else-is_inner+else-is_text w ↦ (let z = sym c.if-not-fits.true ∙ w.fits-is in cc)
    ]

pub loop-id-preserved : goal.loop-id-preserved
loop-id-preserved t c =
    let f = table_of c.args.rows.now in
    let below = read_trees (c.args.levels - 1) f in
    let e = entry_of_row c.in-Some.row.now in
    let turn = λ (a : text_within c.args.most (string_bytes c.loop-id.out ++ piece below e) ≡ cond c.if-is_inner.fits (Some (string_bytes c.if-is_inner.out)) None).
    within-turn f below c.args.ids.now c.loop-id.id-index c.id-item.result c.args.most e _ _ _ c.if-is_inner.fits c.loop-id-test.true c.id-item.is
    (rw c.number.ensures at (row-entry c.args.rows.now c.number.result c.in-Some.row.now (sym c.get.ensures ∙ ap option_copied c.in-Some.is))) a c.loop-id.invariant.1 c.if-not-fits.false in
    elim c.if-is_inner.branch [
      | then-is_inner+in_ok-fits w ↦ (rw w.out-is w.in_ok-fits.ensures.most, turn (rw (sym c.is_inner.ensures ∙ w.if-is_inner.true, ← w.deref.ensures.value, w.out-is, w.fits-is) w.in_ok-fits.ensures.value))
      | else-is_inner+then-is_text+in_ok-fits-2 w ↦ (rw w.out-is w.in_ok-fits-2.ensures.most, turn (rw (sym c.is_inner.ensures ∙ w.if-is_inner.false, sym w.is_text.ensures ∙ w.if-is_text.true, ← w.as_str.ensures, w.out-is, w.fits-is) w.in_ok-fits-2.ensures.value))
      | else-is_inner+else-is_text w ↦ (rw w.out-is c.loop-id.invariant.0, turn (rw (sym c.is_inner.ensures ∙ w.if-is_inner.false, sym w.is_text.ensures ∙ w.if-is_text.false, w.out-is, w.fits-is) (within-all c.args.most (string_bytes c.loop-id.out) _ c.loop-id.invariant.0 (sym (append-nil _)))))
    ]
