use Rattle.query_strings.proofs.Pieces.{spaced_says}
use Rattle.query_strings.proofs.texts.all_spaced.Goals as goal

pub returns-in-Some : goal.returns-in-Some
returns-in-Some c = spaced_says c.args.values.now c.in-Some.first.now c.in-Some.others.now _ c.in-Some.ensures.cases.0 c.with_spaced.ensures
