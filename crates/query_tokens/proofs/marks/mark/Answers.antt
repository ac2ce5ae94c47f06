use Rattle.std.proofs.Common.{sym}
use Rattle.query_tokens.proofs.Tables.{pair_found, single_found, none_found}
use Rattle.query_tokens.proofs.marks.mark.Goals as goal

pub returns-in-Some : goal.returns-in-Some
returns-in-Some c = rw (c.mark_token.ensures, c.past_two.ensures) (pair_found _ _ (sym c.in-Some.ensures))

pub returns-in-Some-single_at : goal.returns-in-Some-single_at
returns-in-Some-single_at c = rw (c.mark_token-in-Some-single_at.ensures, c.past_one.ensures) (single_found _ _ (sym c.in_default.ensures) (sym c.in-Some-single_at.ensures))

pub returns-in_default-single_at : goal.returns-in_default-single_at
returns-in_default-single_at c = none_found _ (sym c.in_default.ensures) (sym c.in_default-single_at.ensures)
