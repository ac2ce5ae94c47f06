-- Bytes of UTF-8 have the order of the characters.
use Rattle.std.proofs.Common.{◌∙◌}
use Rattle.values.proofs.Codes.{bytes-order}
use Rattle.sorted_tuples.proofs.tuples.compare_text.Goals as goal

pub returns : goal.returns
returns c = c.cmp.ensures ∙ bytes-order c.args.left.now c.args.right.now c.utf8.left c.utf8.right
