use Rattle.std.proofs.Common.{◌≡◌, map, take}
use Rattle.std.specs.Prelude.{reverse}
use Rattle.learner.specs.Hearing.{HasHeard}
use Rattle.learner.specs.Messages.{heard_of}
use Rattle.learner.proofs.heard.run.Given as goal

abbrev pub invariant-loop-message : goal.invariant-loop-message
invariant-loop-message l = record {
  heard : HasHeard (reverse (map heard_of (take l.message-index l.heard))) l.learner;
  members : l.learner.members ≡ l.fn.members;
}
