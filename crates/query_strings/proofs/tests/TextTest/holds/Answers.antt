use Rattle.std.proofs.lemmas.Str.Pattern.{starts_text, ends_text}
use Rattle.query_strings.proofs.tests.TextTest.holds.Goals as goal

pub returns-in-Contains : goal.returns-in-Contains
returns-in-Contains c = rw c.in-Contains.is c.holds.ensures

pub returns-in-StartsWith : goal.returns-in-StartsWith
returns-in-StartsWith c = rw c.in-StartsWith.is (starts_text _ _ _ c.starts_with.ensures.cases)

pub returns-in-EndsWith : goal.returns-in-EndsWith
returns-in-EndsWith c = rw c.in-EndsWith.is (ends_text _ _ _ c.ends_with.ensures.cases)
