use Rattle.std.proofs.Common.{sym, ◌∙◌}
use Rattle.std.specs.List.{filter}
use Rattle.query_tokens.specs.Words.{kind_of, words, begins_between}
use Rattle.query_tokens.proofs.Tables.{of_test, among_none}
use Rattle.query_tokens.proofs.words.word_b_to_d.Goals as goal

pub returns-in_default : goal.returns-in_default
unfolding kind_of
returns-in_default c =
    sym (of_test (begins_between 98 100) c.args.name.now c.requires words ∙ among_none c.args.name.now (filter (λ w. begins_between 98 100 w.0) words) (c.in_default.not-before, (c.in_default.not-by, (c.in_default.not-child, (c.in_default.not-comment, (c.in_default.not-copy, (c.in_default.not-delete, (c.in_default.not-descendant, (c.in_default.not-text, (c.in_default.not-descending, (c.in_default.not-document, (c.in_default.not-text-2, tt))))))))))))
