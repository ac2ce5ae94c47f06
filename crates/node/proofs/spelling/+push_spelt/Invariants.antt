use Rattle.std.proofs.Common.{length}
use Rattle.node.proofs.spelling.+push_spelt.Given as goal

abbrev pub decreases-push_spelt : goal.decreases-push_spelt
decreases-push_spelt l = length l.sends.now
