use Rattle.std.proofs.Common.{◌≡◌, ℕ, ◌||◌, drop}
use Rattle.data_model.specs.Axes.{is_in}
use Rattle.query_steps.proofs.identities.set_of.Given as goal

abbrev pub invariant-loop-node : goal.invariant-loop-node
invariant-loop-node l = (i : ℕ) → (is_in i l.set || is_in i (drop l.node-index l.nodes)) ≡ is_in i l.nodes
