use Rattle.std.proofs.Common.{length}
use Rattle.server_steps.proofs.sending.+post.Given as goal

abbrev pub decreases-post : goal.decreases-post
decreases-post g l = length l.sent.now
