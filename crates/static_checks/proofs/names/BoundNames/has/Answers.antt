use Rattle.std.proofs.Common.{ap, ◌∙◌}
use Rattle.static_checks.specs.Variables.{is_bound}
use Rattle.static_checks.proofs.Scopes.{found_among}
use Rattle.static_checks.proofs.names.BoundNames.has.Goals as goal

pub returns : goal.returns
returns c = c.contains.ensures ∙ found_among c.args.name.now c.self.inside.names.keys ∙ ap (is_bound c.args.name.now) c.self.view_is
