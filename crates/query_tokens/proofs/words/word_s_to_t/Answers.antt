use Rattle.std.proofs.Common.{sym, ◌∙◌}
use Rattle.std.specs.List.{filter}
use Rattle.query_tokens.specs.Words.{kind_of, words, begins_between}
use Rattle.query_tokens.proofs.Tables.{of_test, among_none}
use Rattle.query_tokens.proofs.words.word_s_to_t.Goals as goal

pub returns-in_default : goal.returns-in_default
unfolding kind_of
returns-in_default c =
    sym (of_test (begins_between 115 116) c.args.name.now c.requires words ∙ among_none c.args.name.now (filter (λ w. begins_between 115 116 w.0) words) (c.in_default.not-satisfies, (c.in_default.not-self, (c.in_default.not-some, (c.in_default.not-text, (c.in_default.not-then, (c.in_default.not-to, tt)))))))
