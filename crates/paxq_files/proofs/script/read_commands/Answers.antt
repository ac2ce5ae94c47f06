use Rattle.std.proofs.Common.{◌≡◌, ◌++◌, ◌∷◌, [], map, Some, rules, sym, ap, ◌∙◌}
use Rattle.std.proofs.lemmas.List.{map-append}
use Rattle.std.specs.Option.{option_map}
use Rattle.paxq_files.specs.Script.{command_of}
use Rattle.paxq_files.specs.Commands.{command_term}
use Rattle.paxq_files.proofs.script.read_commands.Goals as goal

pub loop-line-preserved : goal.loop-line-preserved
loop-line-preserved c =
    let pushed : c.push_back.new.self.items ≡ c.loop-line.commands.items ++ c.in-Some-2.command ∷ [] = search rules in
    let line = c.in-Some.line.text.now in
    let command : command_of line ≡ Some (command_term c.in-Some-2.command) = sym c.in_ok-command.ensures ∙ ap (option_map command_term) c.in-Some-2.is in
    let terms : map command_term c.push_back.new.self.items ≡ map command_term c.loop-line.commands.items ++ command_term c.in-Some-2.command ∷ [] = ap (map command_term) pushed ∙ map-append command_term c.loop-line.commands.items (c.in-Some-2.command ∷ []) in
    record {
      is_text = search rules;
      read = search rules;
      room = search rules;
    }
