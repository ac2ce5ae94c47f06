use Rattle.std.proofs.Common.{sym, ◌∙◌}
use Rattle.std.specs.List.{filter}
use Rattle.query_tokens.specs.Words.{kind_of, words, begins_between}
use Rattle.query_tokens.proofs.Tables.{of_test, among_none}
use Rattle.query_tokens.proofs.words.word_a.Goals as goal

pub returns-in_default : goal.returns-in_default
unfolding kind_of
returns-in_default c =
    sym (of_test (begins_between 97 97) c.args.name.now c.requires words ∙ among_none c.args.name.now (filter (λ w. begins_between 97 97 w.0) words) (c.in_default.not-after, (c.in_default.not-ancestor, (c.in_default.not-and, (c.in_default.not-as, (c.in_default.not-ascending, (c.in_default.not-at, (c.in_default.not-attribute, tt))))))))
