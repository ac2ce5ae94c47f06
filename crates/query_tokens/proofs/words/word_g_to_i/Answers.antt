use Rattle.std.proofs.Common.{sym, ◌∙◌}
use Rattle.std.specs.List.{filter}
use Rattle.query_tokens.specs.Words.{kind_of, words, begins_between}
use Rattle.query_tokens.proofs.Tables.{of_test, among_none}
use Rattle.query_tokens.proofs.words.word_g_to_i.Goals as goal

pub returns-in_default : goal.returns-in_default
unfolding kind_of
returns-in_default c =
    sym (of_test (begins_between 103 105) c.args.name.now c.requires words ∙ among_none c.args.name.now (filter (λ w. begins_between 103 105 w.0) words) (c.in_default.not-ge, (c.in_default.not-gt, (c.in_default.not-idiv, (c.in_default.not-if, (c.in_default.not-in, (c.in_default.not-insert, (c.in_default.not-intersect, (c.in_default.not-into, (c.in_default.not-is, tt))))))))))
