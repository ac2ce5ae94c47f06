use Rattle.std.proofs.Common.{rules, ap, ap₂, codes, true, ◌≡◌, ◌∙◌}
use Rattle.std.proofs.lemmas.Result.{IfOk-weaker}
use Rattle.clap.specs.Words.{app_of, new_app, with_subcommand}
use Rattle.clap.specs.declared.builder.command.Command.TheViews.{out-Command as fields_of}
use Rattle.clap.specs.Simple.{app_of_fields, on_top}
use Rattle.command_line.specs.Words.{form_shape, with_settings}
use Rattle.command_line.proofs.words.command.Goals as goal

pub returns : goal.returns
returns c =
    let named : app_of c.no_binary_name.result ≡ on_top (λ s. record s { no_binary_name = true }) (new_app (codes "paxq")) =
    ap app_of_fields {y = record (fields_of c.new.result) { no_binary_name = true }} c.no_binary_name.ensures ∙ ap (on_top (λ s. record s { no_binary_name = true })) c.new.ensures.app in
    let wanted : app_of c.subcommand_required.result ≡ on_top (λ s. record s { no_binary_name = true; subcommand_required = true }) (new_app (codes "paxq")) =
    ap app_of_fields {y = record (fields_of c.no_binary_name.result) { subcommand_required = true }} c.subcommand_required.ensures ∙ ap (on_top (λ s. record s { subcommand_required = true })) named in
    let silent : app_of c.disable_help_flag.result ≡ on_top (λ s. record s { no_binary_name = true; subcommand_required = true; disable_help_flag = true }) (new_app (codes "paxq")) =
    ap app_of_fields {y = record (fields_of c.subcommand_required.result) { disable_help_flag = true }} c.disable_help_flag.ensures ∙ ap (on_top (λ s. record s { disable_help_flag = true })) wanted in
    let top_is : app_of c.disable_help_subcommand.result ≡ on_top with_settings (new_app (codes "paxq")) =
    ap app_of_fields {y = record (fields_of c.disable_help_flag.result) { disable_help_subcommand = true }} c.disable_help_subcommand.ensures ∙ ap (on_top (λ s. record s { disable_help_subcommand = true })) silent in
    let with_run : app_of c.in_ok-subcommand.field-0 ≡ with_subcommand (on_top with_settings (new_app (codes "paxq"))) (form_shape (codes "run")) =
    c.in_ok-subcommand.ensures.shape (search rules) ∙ ap₂ with_subcommand top_is c.in_ok-run.ensures.shape in
    IfOk-weaker c.subcommand-4.result _ _ (λ r h. h.shape (search rules) ∙ ap₂ with_subcommand with_run c.in_ok-sim.ensures.shape) c.subcommand-4.ensures
