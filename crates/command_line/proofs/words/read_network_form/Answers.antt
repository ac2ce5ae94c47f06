use Rattle.std.proofs.Common.{◌∙◌, map, sym}
use Rattle.std.specs.Str.{bytes_eq}
use Rattle.std.specs.String.{string_bytes}
use Rattle.clap.proofs.WalkLemmas.{list_any-map}
use Rattle.command_line.proofs.NetworkForms.{form_if_ok}
use Rattle.command_line.proofs.Refusals.{dashes}
use Rattle.command_line.proofs.words.read_network_form.Goals as goal

pub returns-in-Some : goal.returns-in-Some
returns-in-Some c =
    let any = list_any-map (λ word. bytes_eq word dashes) string_bytes c.args.words.now in
    form_if_ok (map string_bytes c.args.words.now) _ c.in_ok-matches.ensures.matches (sym any ∙ sym c.has_terminator.ensures ∙ c.if-has_terminator.false) c.in_ok-matches.ensures.ok c.read_local.result c.read_local.ensures

pub returns-in-Some-value_of : goal.returns-in-Some-value_of
returns-in-Some-value_of c =
    let any = list_any-map (λ word. bytes_eq word dashes) string_bytes c.args.words.now in
    form_if_ok (map string_bytes c.args.words.now) _ c.in_ok-matches.ensures.matches (sym any ∙ sym c.has_terminator.ensures ∙ c.if-has_terminator.false) c.in_ok-matches.ensures.ok c.read_node.result c.read_node.ensures

pub returns : goal.returns
returns c =
    let any = list_any-map (λ word. bytes_eq word dashes) string_bytes c.args.words.now in
    form_if_ok (map string_bytes c.args.words.now) _ c.in_ok-matches.ensures.matches (sym any ∙ sym c.has_terminator.ensures ∙ c.if-has_terminator.false) c.in_ok-matches.ensures.ok c.read_send.result c.read_send.ensures
