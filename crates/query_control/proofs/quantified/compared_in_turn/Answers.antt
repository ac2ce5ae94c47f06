use Rattle.std.proofs.Common.{rules}
use Rattle.query_control.proofs.quantified.compared_in_turn.Goals as goal

pub holds-requires : goal.holds-requires
holds-requires c = record { read = c.unread.ensures.read _ (search rules) }
