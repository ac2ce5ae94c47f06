use Rattle.std.proofs.Common.{sym, ◌∙◌}
use Rattle.std.specs.List.{filter}
use Rattle.query_tokens.specs.Words.{kind_of, words, begins_between}
use Rattle.query_tokens.proofs.Tables.{of_test, among_none}
use Rattle.query_tokens.proofs.words.word_o_to_r.Goals as goal

pub returns-in_default : goal.returns-in_default
unfolding kind_of
returns-in_default c =
    sym (of_test (begins_between 111 114) c.args.name.now c.requires words ∙ among_none c.args.name.now (filter (λ w. begins_between 111 114 w.0) words) (c.in_default.not-of, (c.in_default.not-or, (c.in_default.not-order, (c.in_default.not-parent, (c.in_default.not-text, (c.in_default.not-text-2, (c.in_default.not-rename, (c.in_default.not-replace, (c.in_default.not-return, tt))))))))))
