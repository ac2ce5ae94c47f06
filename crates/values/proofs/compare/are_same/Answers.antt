-- Texts are the same where their characters are in no order.
use Rattle.std.proofs.Common.{◌∙◌, ap, sym}
use Rattle.std.specs.Ordering.{is_eq}
use Rattle.std.proofs.lemmas.Map.Text.{is_eq-slice_cmp}
use Rattle.values.proofs.Codes.{bytes-order}
use Rattle.values.proofs.compare.are_same.Goals as goal

pub returns : goal.returns
returns c = c.eq.ensures ∙ sym (is_eq-slice_cmp c.args.left.now c.args.right.now) ∙ ap is_eq (bytes-order c.args.left.now c.args.right.now c.utf8.left c.utf8.right)
