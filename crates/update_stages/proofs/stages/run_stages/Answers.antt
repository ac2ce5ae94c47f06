use Rattle.std.proofs.Common.{map}
use Rattle.pending.specs.Primitives.{primitive_term}
use Rattle.update_stages.proofs.Turns.{ready-first}
use Rattle.update_stages.proofs.stages.run_stages.Goals as goal

pub run_stage-requires : goal.run_stage-requires
run_stage-requires c = ready-first 1 (map primitive_term c.args.primitives.now) c.args.draft.now.draft c.requires.distinct c.requires.below c.requires.apart
