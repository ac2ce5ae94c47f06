use Rattle.std.proofs.Common.{◌≡◌, false, length, sym, ap, ◌∙◌, Ok, arith}
use Rattle.std.proofs.lemmas.Result.{err_from_is_err_and}
use Rattle.std.specs.Vec.Iter.{into_iter_items}
use Rattle.copied_content.specs.Merging.{are_apart}
use Rattle.copied_content.proofs.Merging.{merges_on, merges_not, merges_all, apart_stays, few}
use Rattle.copied_content.proofs.copied.CopiedContent.without_adjacent_texts.Goals as goal

pub loop-tree-preserved : goal.loop-tree-preserved
loop-tree-preserved c = merges_on _ _ _ _ _ _ c.in-Some.tree c.loop-tree.invariant c.in-Some.ensures.steps.0 c.in_ok-merged.ensures.ok

pub returns-in_err-merged-clause-parts : goal.returns-in_err-merged-clause-parts
returns-in_err-merged-clause-parts c =
    let p = err_from_is_err_and c.from_residual.result c.from_residual.ensures.1 in
    rw (p.1, p.2) (merges_not _ _ _ (into_iter_items c.next.new.self) _ c.in-Some.tree _ c.loop-tree.invariant c.in-Some.ensures.steps.0 c.in_err-merged.ensures.err)

pub returns-clause-parts : goal.returns-clause-parts
returns-clause-parts c =
    let left = c.without_empty_texts.result.items in
    let none : length (into_iter_items c.loop-tree.tree-iterator) ≡ 0 = omega (arith, c.in-None.ensures.steps.0, c.loop-tree.tree-iterator.rest.ok) in
    merges_all c.args.self c.loop-tree.yielded _ c.loop-tree.merged.items left c.loop-tree.invariant none c.without_empty_texts.ensures ∙ ap Ok (sym c.of.ensures)

pub returns-clause-few : goal.returns-clause-few
returns-clause-few c =
    let left = c.without_empty_texts.result.items in
    let none : length (into_iter_items c.loop-tree.tree-iterator) ≡ 0 = omega (arith, c.in-None.ensures.steps.0, c.loop-tree.tree-iterator.rest.ok) in
    few c.args.self c.of.result (merges_all c.args.self c.loop-tree.yielded _ c.loop-tree.merged.items left c.loop-tree.invariant none c.without_empty_texts.ensures ∙ ap Ok (sym c.of.ensures))

pub returns-then-are_apart-clause-parts : goal.returns-then-are_apart-clause-parts
returns-then-are_apart-clause-parts c = apart_stays c.args.self (ap (are_apart false) (sym c.as_slice.ensures) ∙ sym c.are_apart.ensures ∙ c.if-are_apart.true)
