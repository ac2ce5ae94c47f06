-- The functions that are given two arguments or more.
use Rattle.std.specs.Prelude.{◌==◌, List, [], ◌∷◌}
use Rattle.std.specs.List.{starts_with, ends_with}
use Rattle.fault_codes.specs.declared.code.Code.TheVariants.{XPST0017}
use Rattle.values.specs.declared.atom.Item.{Item}
use Rattle.query_grammar.specs.declared.functions.Function.{Function}
use Rattle.query_grammar.specs.declared.functions.Function.TheVariants as function
use Rattle.query_meaning.specs.Environment.{no_environment}
use Rattle.query_meaning.specs.Functions.{concatenated, contains, of_texts, string_join}
use Rattle.query_meaning.specs.Operators.{between_atoms}
use Rattle.query_meaning.specs.Running.{M, fault}

-- two arguments, to others than `concat`
abbrev pub of_two : Function → (left right : List Item) → M (List Item)
of_two function.Contains x y = between_atoms (of_texts contains) x y
of_two function.StartsWith x y = between_atoms (of_texts (starts_with ◌==◌)) x y
of_two function.EndsWith x y = between_atoms (of_texts (ends_with ◌==◌)) x y
of_two function.StringJoin x y = between_atoms string_join x y
of_two _ x y = fault XPST0017

-- two or more, to others than `concat`
abbrev pub of_several : Function → List (List Item) → M (List Item)
of_several f (x ∷ y ∷ []) = of_two f x y
of_several f _ = fault XPST0017

-- two or more
abbrev pub of_more : Function → List (List Item) → M (List Item)
of_more function.Concat values = concatenated no_environment values
of_more f values = of_several f values
