use Rattle.std.proofs.Common.{rules, ap, ap₂, ◌≡◌, ◌∙◌}
use Rattle.std.proofs.lemmas.Result.{IfOk-weaker}
use Rattle.clap.specs.Words.{App, rule_of, with_rule}
use Rattle.command_line.specs.Words.{file_rule}
use Rattle.command_line.proofs.words.subcommand.Goals as goal

pub returns-clause-shape : goal.returns-clause-shape
returns-clause-shape c =
    let file_is : rule_of c.required-file.result ≡ file_rule = search rules in
    IfOk-weaker c.arg.result _ _ (λ r h. ap (λ (a : App). a.top) (h.shape (search rules) ∙ ap₂ with_rule c.new-2.ensures.app file_is)) c.arg.ensures
