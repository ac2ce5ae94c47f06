use Rattle.std.proofs.Common.{ap, ◌∙◌}
use Rattle.static_checks.specs.Scopes.{with_name}
use Rattle.static_checks.proofs.Scopes.{names_of, added}
use Rattle.static_checks.proofs.names.BoundNames.add.Goals as goal

pub returns : goal.returns
returns c = ap names_of c.in_ok-insert.ensures.keys ∙ added _ c.self.inside.names.keys ∙ ap (with_name c.args.name.now) c.self.view_is
