use Rattle.std.proofs.Common.{◌≡◌, Some, ap, sym, ◌∙◌, option_copied}
use Rattle.query_meaning.specs.Environment.{value_in}
use Rattle.evaluation.proofs.Looking.{variable_found}
use Rattle.evaluation.proofs.run.Evaluation.lend.Goals as goal

pub returns-in-Some-clause-given : goal.returns-in-Some-clause-given
returns-in-Some-clause-given c =
    let found : value_in c.args.name.now c.args.env.now.variables ≡ Some c.in-Some.items.now = rw (c.as_str.ensures, c.variables.ensures) at (sym c.in_ok-items.ensures.value ∙ ap option_copied c.in-Some.is) in
    let looked = rw (c.as_str.ensures, c.variables.ensures) at c.in_ok-items.ensures.looked in
    variable_found c.args.name.now c.args.env.now _ _ _ _ found looked c.in_ok-items.ensures.same c.requires.ready
