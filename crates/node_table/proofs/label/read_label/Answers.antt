use Rattle.std.proofs.Common.{◌≡◌, ◌++◌, ◌∷◌, [], length, ap, sym, ◌∙◌, arith, reverse, option_copied}
use Rattle.std.proofs.lemmas.List.{reverse-append}
use Rattle.data_model.proofs.Paths.{depth-size}
use Rattle.node_table.specs.Rows.{table_of, trees_of}
use Rattle.node_table.specs.Labels.{place_of, parent_in, label_of}
use Rattle.node_table.proofs.LabelLists.{read-back, whole-write}
use Rattle.node_table.proofs.Rows.{row-entry, row-none, place-some}
use Rattle.node_table.proofs.Ups.{row-label-up, row-label-top, row-label-end}
use Rattle.node_table.proofs.label.read_label.Goals as goal
use Rattle.node_table.proofs.label.read_label.Goals.{else-loop-test, then-loop-test+in_default, then-loop-test+in-Some+in_default-parent}

pub loop-preserved : goal.loop-preserved
loop-preserved c =
    let i = c.loop.invariant in
    let m = c.args.rows.now in
    let f = table_of m in
    let ts = trees_of f c.args.levels in
    let w = place_of m in
    let read = sym c.get.ensures ∙ ap option_copied c.in-Some.is in
    let at = rw c.number.ensures at (row-entry m c.number.result c.in-Some.row.now read) in
    let place = rw c.number.ensures at (place-some m c.number.result c.in-Some.row.now read) in
    let up = row-label-up w f c.args.levels ts c.requires.table c.loop.at c.in-Some-parent.parent i.there (ap parent_in at ∙ sym c.parent.ensures ∙ c.in-Some-parent.is) in
    let level = up.1 in
    let was = i.level in
    let pushed = c.in_ok-push.ensures.ok ∙ ap (λ n. c.loop.label.items ++ n ∷ []) (sym place) in
    record {
      there = up.0;
      level = omega arith;
      label = i.label ∙ ap (λ l. l ++ reverse c.loop.label.items) up.2 ∙ read-back (label_of w c.in-Some-parent.parent ts) c.loop.label.items _ (w c.loop.at) pushed;
    }

pub returns : goal.returns
returns c =
    let i = c.loop.invariant in
    let m = c.args.rows.now in
    let f = table_of m in
    let h = c.requires.table in
    let ts = trees_of f c.args.levels in
    let w = place_of m in
    let top : label_of w c.loop.at ts ≡ c.loop.at ∷ [] =
    elim c.loop-test.branch [
      | else-loop-test b ↦ (let over = b.loop-test.false in let level = i.level in let deep = depth-size c.args.id ts in let few = h.fits in row-label-end w f c.args.levels ts h c.loop.at i.there (omega arith))
      | then-loop-test+in_default b ↦ row-label-top w f c.args.levels ts h c.loop.at i.there (ap parent_in (rw b.number.ensures at (row-none m b.number.result (sym b.get.ensures ∙ ap option_copied b.in_default.is))))
      | then-loop-test+in-Some+in_default-parent b ↦
          row-label-top w f c.args.levels ts h c.loop.at i.there (ap parent_in (rw b.number.ensures at (row-entry m b.number.result b.in-Some.row.now (sym b.get.ensures ∙ ap option_copied b.in-Some.is))) ∙ sym b.parent.ensures ∙ b.in_default-parent.is)
    ] in
    let same = c.reverse.ensures.after ∙ ap reverse c.as_mut_slice.ensures.value in
    let len = c.reverse.ensures.len in
    let value = ap length c.as_mut_slice.ensures.value in
    whole-write _ _ (omega arith) ∙ same ∙ ap reverse (c.in_ok-push-2.ensures.ok ∙ ap (λ n. c.loop.label.items ++ n ∷ []) c.number-2.ensures) ∙ reverse-append c.loop.label.items (c.loop.at ∷ [])
    ∙ sym (i.label ∙ ap (λ l. l ++ reverse c.loop.label.items) top)
