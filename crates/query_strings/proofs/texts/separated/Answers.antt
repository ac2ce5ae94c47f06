use Rattle.query_strings.proofs.Pieces.{separated_says}
use Rattle.query_strings.proofs.texts.separated.Goals as goal

pub returns-in-Some : goal.returns-in-Some
returns-in-Some c =
    separated_says c.args.separator.now c.args.texts.now c.in-Some.first.now c.in-Some.others.now _ c.in-Some.ensures.cases.0 c.with_others.ensures
