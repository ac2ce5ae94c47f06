use Rattle.std.proofs.Common.{sym, ◌∙◌}
use Rattle.query_strings.proofs.Hyphens.{ends_so}
use Rattle.query_strings.proofs.tests.ends_in_hyphen.Goals as goal

pub returns-in-Some : goal.returns-in-Some
returns-in-Some c = ends_so c.args.text.now c.in-Some.field-0-1.now c.in-Some.last.now (sym c.as_bytes.ensures.value ∙ c.in-Some.ensures.cases.0)
