-- Copies in the order in which they were made.
use Rattle.std.specs.Prelude.{ℕ, List, [], ◌∷◌, refl}
use Rattle.std.specs.Coded.{Coded, code_by, coded×, coded_ℕ, coded_list}
use Rattle.query_meaning.specs.Copies.{Copy, bound_to}
use Rattle.query_meaning.specs.Environment.{Bound}
use Rattle.query_copies.specs.declared.made.MadeCopy.{MadeCopy}

abbrev pub copy_code : Coded Copy
copy_code = code_by (List ℕ × ℕ) (coded× (coded_list coded_ℕ) coded_ℕ) (λ c. (c.variable, c.root)) (λ p. record { variable = p.0; root = p.1 }) (λ _. refl)

abbrev pub copy_in : MadeCopy → Copy
copy_in c = record { variable = c.variable; root = c.root }

-- copies after others, the last one first
abbrev pub copies_after : List Copy → List MadeCopy → List Copy
copies_after others [] = others
copies_after others (c ∷ more) = copies_after (copy_in c ∷ others) more

-- their variables after others, the last one first
abbrev pub variables_after : List Bound → List MadeCopy → List Bound
variables_after others [] = others
variables_after others (c ∷ more) = variables_after (bound_to (copy_in c) ∷ others) more
