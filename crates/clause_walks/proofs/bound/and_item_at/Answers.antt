use Rattle.std.proofs.Common.{ap, option_copied}
use Rattle.clause_walks.proofs.Values.{without_position}
use Rattle.clause_walks.proofs.bound.and_item_at.Goals as goal

pub and_item-requires : goal.and_item-requires
and_item-requires c = record { former = without_position _ _ _ _ (ap option_copied c.in-None.is) c.requires.former }
