use Rattle.std.proofs.Common.{◌≡◌, ◌∙◌, List, ℕ, [], subst}
use Rattle.paxq_run.specs.Play.{commands_run, IsPlayed}
use Rattle.paxq_run.proofs.Endings.{ran-commands}
use Rattle.paxq_run.proofs.run.run_commands.Goals as goal

pub returns-in-Ok-play_over : goal.returns-in-Ok-play_over
returns-in-Ok-play_over g c =
    let names : c.in-Ok.node.setup.names ≡ c.args.script.names = c.in-Ok.ensures.names ∙ c.names.ensures in
    let P : List (List ℕ) → Type 0 = λ ns. IsPlayed (commands_run ns [] c.args.script.commands) c.in-Ok-play_over.status (g.W.Write.contents c.args.output.now) (g.W.Write.contents c.play_over.new.output) in
    ran-commands (g.W.Write.contents c.args.output.now) (g.W.Write.contents c.play_over.new.output) (g.E.Write.contents c.args.errors.now) c.args.script.names c.args.script.commands c.in-Ok-play_over.status
    (subst P names (c.in-Ok-play_over.ensures.played c.in-Ok.ensures.runs.0 c.in-Ok.ensures.runs.1))
