-- What is asked of two texts (Functions and Operators, section 7.5).
use Rattle.std.specs.Prelude.{ℕ, Bool, ◌==◌, List}
use Rattle.std.specs.List.{starts_with, ends_with}
use Rattle.query_meaning.specs.Functions.{contains}
use Rattle.query_strings.specs.declared.tests.TextTest.{TextTest}
use Rattle.query_strings.specs.declared.tests.TextTest.TheVariants.{Contains, StartsWith, EndsWith}

abbrev pub holds_by : TextTest → List ℕ → List ℕ → Bool
holds_by Contains s t = contains s t
holds_by StartsWith s t = starts_with ◌==◌ s t
holds_by EndsWith s t = ends_with ◌==◌ s t
