use Rattle.std.proofs.Common.{◌≡◌, ◌∙◌, true, map, sym}
use Rattle.std.proofs.lemmas.Result.{err_from_is_err_and}
use Rattle.pending.specs.Primitives.{primitive_term}
use Rattle.update_meaning.specs.Changed.{chosen, rooted_at}
use Rattle.query_meaning.specs.Copies.{modified, target_these}
use Rattle.query_copies.specs.Steps.{updated}
use Rattle.query_copies.proofs.Forms.{at_last, comes_same, conflicting}
use Rattle.query_copies.proofs.changes.modified.Goals as goal

pub returns-in_err-check : goal.returns-in_err-check
returns-in_err-check c =
    let is = c.args.roots.now in
    let ps = map primitive_term c.args.list.now in
    let p = err_from_is_err_and c.from_residual.result c.from_residual.ensures.1 in
    let inside : target_these (chosen (rooted_at is) c.args.run.now.shelf.own.trees) ps ≡ true =
    (λ j. target_these (chosen (rooted_at is) (sym c.shelf.ensures j).own.trees) (map primitive_term (sym c.as_slice.ensures j))) ∙ sym c.are_in_copies.ensures ∙ c.if-not-are_in_copies.false in
    rw (p.1, p.2) (conflicting is ps c.args.run.now _ inside (c.in_err-check.ensures c.args.run.now))

pub returns : goal.returns
returns c =
    let is = c.args.roots.now in
    let ps = map primitive_term c.args.list.now in
    let inside : target_these (chosen (rooted_at is) c.args.run.now.shelf.own.trees) ps ≡ true =
    (λ j. target_these (chosen (rooted_at is) (sym c.shelf.ensures j).own.trees) (map primitive_term (sym c.as_slice.ensures j))) ∙ sym c.are_in_copies.ensures ∙ c.if-not-are_in_copies.false in
    comes_same (modified is ps) (updated is ps) c.args.run.now c.update.new.run c.update.result (at_last is ps c.args.run.now inside (c.in_ok-check.ensures c.args.run.now)) c.update.ensures
