use Rattle.std.proofs.Common.{nat_le, ap, sym, ◌∙◌, arith}
use Rattle.data_model.specs.Tree.{all_of}
use Rattle.data_model.specs.Limits.{most_bytes}
use Rattle.pending.specs.Texts.{texts_within}
use Rattle.copied_content.specs.Merging.{and_merged}
use Rattle.copied_content.proofs.Merging.{fits_beside, last_within, within_apart, within_first, within_joined}
use Rattle.copied_content.proofs.adjacent.is_within.Goals as goal

pub overflow_sub-result : goal.overflow_sub-result
overflow_sub-result c =
    let h = ap (λ xs. texts_within most_bytes (all_of xs)) (sym c.in-Some.ensures.cases.0) ∙ c.requires.within in
    let short = last_within most_bytes c.in-Some.field-0-1.now c.in-Some.last.now h in
    omega (arith, short, c.text_len.ensures)

pub returns-then-are_texts : goal.returns-then-are_texts
returns-then-are_texts c =
    let rest = c.in-Some.field-0-1.now in
    let last = c.in-Some.last.now in
    let h = ap (λ xs. texts_within most_bytes (all_of xs)) (sym c.in-Some.ensures.cases.0) ∙ c.requires.within in
    fits_beside c.text_len.result c.text_len-length.result _ _ c.text_len.ensures c.text_len-length.ensures (last_within most_bytes rest last h)
    ∙ sym (ap (λ xs. texts_within most_bytes (and_merged (all_of xs) c.args.tree.now)) c.in-Some.ensures.cases.0 ∙ within_joined most_bytes rest last c.args.tree.now h (sym c.are_texts.ensures ∙ c.if-are_texts.true))

pub returns-else-are_texts : goal.returns-else-are_texts
returns-else-are_texts c =
    let rest = c.in-Some.field-0-1.now in
    let last = c.in-Some.last.now in
    let h = ap (λ xs. texts_within most_bytes (all_of xs)) (sym c.in-Some.ensures.cases.0) ∙ c.requires.within in
    ap (λ n. nat_le n most_bytes) c.text_len-length.ensures
    ∙ sym (ap (λ xs. texts_within most_bytes (and_merged (all_of xs) c.args.tree.now)) c.in-Some.ensures.cases.0 ∙ within_apart most_bytes rest last c.args.tree.now h (sym c.are_texts.ensures ∙ c.if-are_texts.false))

pub returns-in-None : goal.returns-in-None
returns-in-None c =
    ap (λ n. nat_le n most_bytes) c.text_len-length.ensures ∙ sym (within_first most_bytes c.args.merged.now c.args.tree.now c.in-None.ensures.cases)
