use Rattle.std.proofs.Common.{rules, ap, map, sym, ◌≡◌, ◌∙◌}
use Rattle.std.specs.String.{string_bytes}
use Rattle.clap.specs.Words.{App, app_of, fault_of, is_simple, is_simple_and_free, subcommand_of}
use Rattle.command_line.specs.Words.{network_app}
use Rattle.command_line.proofs.words.parse_network.Goals as goal

pub returns-in-Ok-clause-matches : goal.returns-in-Ok-clause-matches
returns-in-Ok-clause-matches c =
    let app_is : app_of c.in_ok-command.command ≡ network_app = search rules in
    (c.in-Ok.ensures.matches (ap is_simple app_is)).1 ∙ ap (λ (a : App). subcommand_of a (map string_bytes c.args.words.now)) app_is

pub returns-in-Ok-clause-ok : goal.returns-in-Ok-clause-ok
returns-in-Ok-clause-ok c =
    let app_is : app_of c.in_ok-command.command ≡ network_app = search rules in
    sym (ap (λ (a : App). fault_of a (map string_bytes c.args.words.now)) app_is) ∙ c.in-Ok.ensures.kinds (ap is_simple_and_free app_is)
