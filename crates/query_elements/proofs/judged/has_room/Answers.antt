use Rattle.std.proofs.Common.{refl, arith}
use Rattle.std.proofs.lemmas.Bool.Decides.{nat_tests}
use Rattle.query_elements.proofs.Distinct.{has_none, has_some}
use Rattle.query_elements.proofs.judged.has_room.Goals as goal

pub returns-then-trees-le-MOST_LISTED : goal.returns-then-trees-le-MOST_LISTED
returns-then-trees-le-MOST_LISTED c = has_some c.args.trees.now c.are_within_levels.result (grind (arith, nat_tests, c.if-trees-le-MOST_LISTED.true)) c.are_within_levels.ensures

pub returns-else-trees-le-MOST_LISTED : goal.returns-else-trees-le-MOST_LISTED
returns-else-trees-le-MOST_LISTED c = has_none c.args.trees.now _ refl (grind (arith, nat_tests, c.if-trees-le-MOST_LISTED.false))
