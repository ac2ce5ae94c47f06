-- How the logic stores a script.
use Rattle.std.specs.Prelude.{◌≡◌, ◌⊎◌, ℕ, List, refl}
use Rattle.std.proofs.Common.{inl, inr}
use Rattle.std.specs.Coded.{Coded, code_by, coded×, coded⊎, coded_ℕ, coded_list}
use Rattle.ballots.specs.Terms.{Request as RequestTerm, request_code}
use Rattle.paxq_files.specs.Script.{Command, submit, ask, ask_at, ScriptTerm}

-- a command as one of three
abbrev Parts : Type 0
Parts = RequestTerm ⊎ ((ℕ × List ℕ) ⊎ (ℕ × (ℕ × List ℕ)))

abbrev pub parts_of : Command → Parts
parts_of (submit r) = inl r
parts_of (ask level text) = inr (inl (level, text))
parts_of (ask_at level floor text) = inr (inr (level, (floor, text)))

-- the command of those parts
abbrev pub command_from : Parts → Command
command_from (inl r) = submit r
command_from (inr (inl p)) = ask p.0 p.1
command_from (inr (inr p)) = ask_at p.0 p.1.0 p.1.1

-- the parts of a command make it again
pub command_from-parts_of : (c : Command) → command_from (parts_of c) ≡ c
command_from-parts_of (submit r) = refl
command_from-parts_of (ask level text) = refl
command_from-parts_of (ask_at level floor text) = refl

-- how a command is stored
abbrev pub command_code : Coded Command
command_code = code_by Parts (coded⊎ request_code (coded⊎ (coded× coded_ℕ (coded_list coded_ℕ)) (coded× coded_ℕ (coded× coded_ℕ (coded_list coded_ℕ))))) parts_of command_from command_from-parts_of

-- how a script is stored
abbrev pub script_code : Coded ScriptTerm
script_code =
    code_by (List (List ℕ) × List Command) (coded× (coded_list (coded_list coded_ℕ)) (coded_list command_code)) (λ s. (s.names, s.commands)) (λ p. record { names = p.0; commands = p.1 }) (λ _. refl)
