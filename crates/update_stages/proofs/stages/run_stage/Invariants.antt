use Rattle.std.proofs.Common.{map, drop}
use Rattle.pending.specs.Primitives.{primitive_term}
use Rattle.update_stages.proofs.Turns.{Runs}
use Rattle.update_stages.proofs.stages.run_stage.Given as goal

abbrev pub invariant-loop-primitive : goal.invariant-loop-primitive
invariant-loop-primitive l = Runs l.stage (map primitive_term l.primitives) (map primitive_term (drop l.primitive-index l.primitives)) l.fn.draft.draft l.draft.draft
