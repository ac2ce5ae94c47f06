use Rattle.std.proofs.Common.{sym, ◌∙◌}
use Rattle.std.specs.List.{filter}
use Rattle.query_tokens.specs.Words.{kind_of, words, begins_between}
use Rattle.query_tokens.proofs.Tables.{of_test, among_none}
use Rattle.query_tokens.proofs.words.word_e_to_f.Goals as goal

pub returns-in_default : goal.returns-in_default
unfolding kind_of
returns-in_default c =
    sym (of_test (begins_between 101 102) c.args.name.now c.requires words ∙ among_none c.args.name.now (filter (λ w. begins_between 101 102 w.0) words) (c.in_default.not-element, (c.in_default.not-else, (c.in_default.not-eq, (c.in_default.not-every, (c.in_default.not-except, (c.in_default.not-first, (c.in_default.not-text, (c.in_default.not-for, tt)))))))))
