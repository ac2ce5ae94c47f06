-- The forms that have to do with a network.
use Rattle.std.proofs.Common.{◌≡◌, false, List, [], Option, subst}
use Rattle.std.specs.List.{list_any}
use Rattle.std.specs.Prelude.{IfOk, Result, Ok, Err, codes}
use Rattle.std.specs.Str.{bytes_eq}
use Rattle.clap.specs.Faults.{fault_of}
use Rattle.clap.specs.Simple.{subcommand_of}
use Rattle.clap.specs.Words.{Row, Text}
use Rattle.command_line.specs.Words.{IsForm, IsNetworkForm, network_app}
use Rattle.command_line.specs.declared.words.Form.{Form}
use Rattle.command_line.specs.declared.words.Form.TheVariants.{Local, Node, Run, Send, Sim}
use Rattle.command_line.specs.declared.words.WordsFault.{WordsFault}

module _ (words : List Text) (m : Option (Text × List Row)) (is : m ≡ subcommand_of network_app words) (plain : list_any (λ word. bytes_eq word (codes "--")) words ≡ false) (taken : fault_of network_app words ≡ []) where
  -- what the matches of the words are of is what the words ask for
  form_of_matches : (f : Form) → IsNetworkForm m f → IsForm words f
  form_of_matches (Run script) h = absurd h
  form_of_matches (Sim events) h = absurd h
  form_of_matches (Local members script) h = record { plain = plain; taken = taken; is_form = subst (λ x. IsNetworkForm x (Local members script)) is h }
  form_of_matches (Node config turns) h = record { plain = plain; taken = taken; is_form = subst (λ x. IsNetworkForm x (Node config turns)) is h }
  form_of_matches (Send group address line) h = record { plain = plain; taken = taken; is_form = subst (λ x. IsNetworkForm x (Send group address line)) is h }

  pub form_if_ok : (r : Result Form WordsFault) → IfOk r (IsNetworkForm m) → IfOk r (IsForm words)
  form_if_ok (Ok f) h = form_of_matches f h
  form_if_ok (Err e) h = tt
