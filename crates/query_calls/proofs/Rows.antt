-- What functions make of two arguments or more.
use Rattle.std.proofs.Common.{◌≡◌, List, [], ◌∷◌, refl}
use Rattle.values.specs.declared.atom.Item.{Item}
use Rattle.query_grammar.specs.declared.functions.Function.{Function}
use Rattle.query_grammar.specs.declared.functions.Function.TheVariants as function
use Rattle.query_meaning.specs.Environment.{Environment}
use Rattle.query_meaning.specs.Functions.{application}
use Rattle.query_calls.specs.Table.{of_more}

pub application_is : (f : Function) (env : Environment) (x y : List Item) (rest : List (List Item)) → application f env (x ∷ y ∷ rest) ≡ of_more f (x ∷ y ∷ rest)
application_is function.Doc env x y [] = refl
application_is function.Doc env x y (z ∷ rest) = refl
application_is function.Root env x y [] = refl
application_is function.Root env x y (z ∷ rest) = refl
application_is function.Name env x y [] = refl
application_is function.Name env x y (z ∷ rest) = refl
application_is function.String env x y [] = refl
application_is function.String env x y (z ∷ rest) = refl
application_is function.Data env x y [] = refl
application_is function.Data env x y (z ∷ rest) = refl
application_is function.Count env x y [] = refl
application_is function.Count env x y (z ∷ rest) = refl
application_is function.Empty env x y [] = refl
application_is function.Empty env x y (z ∷ rest) = refl
application_is function.Exists env x y [] = refl
application_is function.Exists env x y (z ∷ rest) = refl
application_is function.Reverse env x y [] = refl
application_is function.Reverse env x y (z ∷ rest) = refl
application_is function.Not env x y [] = refl
application_is function.Not env x y (z ∷ rest) = refl
application_is function.Boolean env x y [] = refl
application_is function.Boolean env x y (z ∷ rest) = refl
application_is function.True env x y [] = refl
application_is function.True env x y (z ∷ rest) = refl
application_is function.False env x y [] = refl
application_is function.False env x y (z ∷ rest) = refl
application_is function.Position env x y [] = refl
application_is function.Position env x y (z ∷ rest) = refl
application_is function.Last env x y [] = refl
application_is function.Last env x y (z ∷ rest) = refl
application_is function.Concat env x y rest = refl
application_is function.Contains env x y [] = refl
application_is function.Contains env x y (z ∷ rest) = refl
application_is function.StartsWith env x y [] = refl
application_is function.StartsWith env x y (z ∷ rest) = refl
application_is function.EndsWith env x y [] = refl
application_is function.EndsWith env x y (z ∷ rest) = refl
application_is function.StringLength env x y [] = refl
application_is function.StringLength env x y (z ∷ rest) = refl
application_is function.StringJoin env x y [] = refl
application_is function.StringJoin env x y (z ∷ rest) = refl
application_is function.Sum env x y [] = refl
application_is function.Sum env x y (z ∷ rest) = refl
application_is function.DistinctValues env x y [] = refl
application_is function.DistinctValues env x y (z ∷ rest) = refl
