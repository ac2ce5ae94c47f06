use Rattle.std.proofs.Common.{sym, ◌∙◌}
use Rattle.std.specs.List.{filter}
use Rattle.query_tokens.specs.Words.{kind_of, words, begins_between}
use Rattle.query_tokens.proofs.Tables.{of_test, among_none}
use Rattle.query_tokens.proofs.words.word_l_to_n.Goals as goal

pub returns-in_default : goal.returns-in_default
unfolding kind_of
returns-in_default c =
    sym (of_test (begins_between 108 110) c.args.name.now c.requires words ∙ among_none c.args.name.now (filter (λ w. begins_between 108 110 w.0) words) (c.in_default.not-last, (c.in_default.not-le, (c.in_default.not-let, (c.in_default.not-lt, (c.in_default.not-mod, (c.in_default.not-modify, (c.in_default.not-ne, (c.in_default.not-node, (c.in_default.not-nodes, tt))))))))))
