use Rattle.std.proofs.Common.{rules, ap, ap₂, refl, sym, List, Option, Some, None, [], ◌≡◌, ◌∙◌, option_map}
use Rattle.std.specs.Option.{unwrap_or}
use Rattle.std.specs.Prelude.{Box}
use Rattle.std.specs.Box.{box_value}
use Rattle.std.proofs.lemmas.Slice.Eq.{bytes_eq-Decides}
use Rattle.clap.specs.Words.{Row, Text, first_of, found_of, rows_of, subcommand_rows}
use Rattle.clap.specs.declared.parser.matches.SubCommand.{SubCommand}
use Rattle.clap.specs.declared.parser.matches.ArgMatches.TheViews.{out-ArgMatches, out-SubCommand}
use Rattle.clap.proofs.WalkLemmas.{first_value-rows}
use Rattle.command_line.specs.Words.{value_in}
use Rattle.command_line.proofs.Refusals.{some≢none}
use Rattle.command_line.proofs.words.value_of.Goals as goal

-- the value of an argument of the subcommand of that name, by its rows
value_of_form : {Z : Type 0} (form argument : Text) (o : Option (Box SubCommand Z)) (rows : List Row) → option_map (λ b. (out-SubCommand (box_value b)).name.now) o ≡ Some form
    → option_map (λ p. p.1) (subcommand_rows o) ≡ Some rows → first_of argument rows ≡ value_in form argument (subcommand_rows o)
value_of_form form argument None rows name same = absurd (some≢none _ (sym name))
value_of_form form argument (Some b) rows name same =
    let found : value_in form argument (Some (form, rows)) ≡ first_of argument rows = rw ((bytes_eq-Decides form form).1 refl) refl in
    sym (ap₂ (λ (n : Text) (rs : List Row). value_in form argument (Some (n, rs))) (ap (λ o. unwrap_or o []) name) (ap (λ o. unwrap_or o []) same) ∙ found)

pub returns : goal.returns
returns c =
    let m = c.in_ok-subcommand_matches.field-0.now in
    let name = c.in_ok-subcommand_matches.ensures.found.0 (search rules) in
    c.get_str.ensures ∙ first_value-rows (found_of m) c.args.argument.now
    ∙ value_of_form c.args.form.now c.args.argument.now (out-ArgMatches c.args.matches.now).subcommand (rows_of (found_of m)) name c.in_ok-subcommand_matches.ensures.rows
