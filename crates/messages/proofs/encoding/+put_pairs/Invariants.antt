use Rattle.std.proofs.Common.{length}
use Rattle.messages.proofs.encoding.+put_pairs.Given as goal

abbrev pub decreases-put_pairs : goal.decreases-put_pairs
decreases-put_pairs l = length l.pairs.now
