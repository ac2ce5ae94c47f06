-- The words of the command line, and what they ask for.
use Rattle.std.specs.Prelude.{◌≡◌, ◌==◌, ◌≤◌, ◌^◌, ℕ, Bool, true, false, List, [], ◌∷◌, Option, None, Some, codes, option_and_then, if◌then◌else◌}
use Rattle.std.specs.List.{list_any}
use Rattle.std.specs.String.{string_bytes}
use Rattle.std.specs.Str.{bytes_eq}
use Rattle.clap.specs.Words.{App, Row, Rule, Shape, Text, first_of, new_app, new_rule, with_rule, with_subcommand}
use Rattle.clap.specs.Faults.{fault_of}
use Rattle.clap.specs.Simple.{on_top, subcommand_of}
use Rattle.clap.specs.declared.builder.command.Command.{Command}
use Rattle.clap.specs.declared.builder.command.Command.TheViews.{out-Command}
use Rattle.line_parts.specs.Parts.{number_below}
use Rattle.command_line.specs.declared.words.Form.{Form}
use Rattle.command_line.specs.declared.words.Form.TheVariants.{Local, Node, Run, Send, Sim}

-- the word begins with `-` (45), and is more than that
abbrev pub is_option : List ℕ → Bool
is_option [] = false
is_option (first ∷ []) = false
is_option (first ∷ second ∷ rest) = first == 45

-- the words are the name of a form and a file, which is no option
abbrev pub IsFormOf : (name : List ℕ) → (words : List (List ℕ)) → (file : List ℕ) → Type 0
IsFormOf name words file = (words ≡ name ∷ file ∷ []) × (is_option file ≡ false)

-- ---- the command as `clap` reads it

-- the argument `file`, which is required
abbrev pub file_rule : Rule
file_rule = record (new_rule (codes "file")) { required = true }

-- the subcommand of a form
abbrev pub form_shape : (name : List ℕ) → Shape
form_shape name = (with_rule (new_app name) file_rule).top

-- a subcommand has no argument of the whole command
abbrev pub IsLocal : Command → Type 0
IsLocal c = (out-Command c).has_globals ≡ false

-- the settings of the whole command: each word counts, a form is required, and none asks for help
abbrev pub with_settings : Shape → Shape
with_settings shape = record shape {
  no_binary_name = true;
  subcommand_required = true;
  disable_help_flag = true;
  disable_help_subcommand = true;
}

-- the whole command
abbrev pub paxq_app : App
paxq_app = with_subcommand (with_subcommand (on_top with_settings (new_app (codes "paxq"))) (form_shape (codes "run"))) (form_shape (codes "sim"))

-- the file that the matches of a form hold
abbrev pub file_in : (name : List ℕ) → Option (Text × List Row) → Option Text
file_in name = option_and_then (λ entered. if bytes_eq entered.0 name then first_of (codes "file") entered.1 else None)

-- ---- the forms that have to do with a network, as `clap` reads them

-- an argument of a name, which is required
abbrev pub required_rule : (name : List ℕ) → Rule
required_rule name = record (new_rule name) { required = true }

-- an option of a name, as `--turns`
abbrev pub option_rule : (name : List ℕ) → Rule
option_rule name = record (new_rule name) { long = Some name }

-- `local N SCRIPT`
abbrev pub local_shape : Shape
local_shape = (with_rule (with_rule (new_app (codes "local")) (required_rule (codes "members"))) (required_rule (codes "file"))).top

-- `node CONFIG [--turns K]`
abbrev pub node_shape : Shape
node_shape = (with_rule (with_rule (new_app (codes "node")) (option_rule (codes "turns"))) (required_rule (codes "file"))).top

-- `send --group G ADDRESS LINE`
abbrev pub send_shape : Shape
send_shape = (with_rule (with_rule (with_rule (new_app (codes "send")) (record (option_rule (codes "group")) { required = true })) (required_rule (codes "address"))) (required_rule (codes "line"))).top

-- the command with these forms
abbrev pub network_app : App
network_app = with_subcommand (with_subcommand (with_subcommand (on_top with_settings (new_app (codes "paxq"))) local_shape) node_shape) send_shape

-- the value of an argument that the matches of a form hold
abbrev pub value_in : (form argument : List ℕ) → Option (Text × List Row) → Option Text
value_in form argument = option_and_then (λ entered. if bytes_eq entered.0 form then first_of argument entered.1 else None)

-- the number below 2^32 that it stands for, in decimal and without a sign
abbrev pub number_in : (form argument : List ℕ) → Option (Text × List Row) → Option ℕ
number_in form argument entered = option_and_then (number_below (2 ^ 32)) (value_in form argument entered)

-- what the option's value says: nothing where it is not given
abbrev pub IsOptional : (value number : Option ℕ) → (given : Option Text) → Type 0
IsOptional None number given = given ≡ None
IsOptional (Some k) number given = number ≡ Some k

-- the matches are of the form, with these values
abbrev pub IsNetworkForm : Option (Text × List Row) → Form → Type 0
IsNetworkForm m (Local members script) =
    (number_in (codes "local") (codes "members") m ≡ Some members) × (1 ≤ members) × (members ≤ 15) × (value_in (codes "local") (codes "file") m ≡ Some (string_bytes script))
IsNetworkForm m (Node config turns) =
    (value_in (codes "node") (codes "file") m ≡ Some (string_bytes config)) × IsOptional turns (number_in (codes "node") (codes "turns") m) (value_in (codes "node") (codes "turns") m)
IsNetworkForm m (Send group address line) =
    (number_in (codes "send") (codes "group") m ≡ Some group) × (value_in (codes "send") (codes "address") m ≡ Some (string_bytes address)) × (value_in (codes "send") (codes "line") m ≡ Some (string_bytes line))
IsNetworkForm m form = ⊥

-- no word is `--`, `clap` takes the words, and what it makes of them is of the form
pub record IsTakenAs (words : List (List ℕ)) (form : Form) : Type 0 where
  pub plain : list_any (λ word. bytes_eq word (codes "--")) words ≡ false
  pub taken : fault_of network_app words ≡ []
  pub is_form : IsNetworkForm (subcommand_of network_app words) form

-- ---- all forms

-- the words ask for the form
abbrev pub IsForm : List (List ℕ) → Form → Type 0
IsForm words (Run script) = IsFormOf (codes "run") words (string_bytes script)
IsForm words (Sim events) = IsFormOf (codes "sim") words (string_bytes events)
IsForm words form = IsTakenAs words form
