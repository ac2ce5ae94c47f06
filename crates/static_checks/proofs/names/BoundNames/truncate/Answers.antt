use Rattle.std.proofs.Common.{ap, ◌∙◌, take}
use Rattle.static_checks.proofs.Scopes.{names_of, first_names}
use Rattle.static_checks.proofs.names.BoundNames.truncate.Goals as goal

pub returns : goal.returns
returns c = ap names_of c.truncate.ensures.keys ∙ first_names c.args.len c.self.inside.names.keys ∙ ap (take c.args.len) c.self.view_is
