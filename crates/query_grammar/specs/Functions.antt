-- The functions that there are: those of XQuery 1.0 and XPath 2.0 Functions and Operators that the profile has, written without a prefix.
use Rattle.std.specs.Prelude.{codes, ℕ, Bool, true, ◌&&◌, nat_le, if◌then◌else◌, List, [], ◌∷◌, Option, Some, None}
use Rattle.std.specs.Str.{bytes_eq}
use Rattle.query_grammar.specs.declared.functions.Function.{Function}
use Rattle.query_grammar.specs.declared.functions.Function.TheVariants as f

-- a function's name, and how many arguments it takes, from the least number to the most, where there is one
pub record Signature : Type 0 where
  pub name : List ℕ
  pub least : ℕ
  pub most : Option ℕ

abbrev pub from_to : (least most : ℕ) → (name : List ℕ) → Signature
from_to least most name = record { name = name; least = least; most = Some most }

abbrev pub signature : Function → Signature
signature f.Doc = from_to 1 1 (codes "doc")
signature f.Root = from_to 0 1 (codes "root")
signature f.Name = from_to 0 1 (codes "name")
signature f.String = from_to 0 1 (codes "string")
signature f.Data = from_to 1 1 (codes "data")
signature f.Count = from_to 1 1 (codes "count")
signature f.Empty = from_to 1 1 (codes "empty")
signature f.Exists = from_to 1 1 (codes "exists")
signature f.Reverse = from_to 1 1 (codes "reverse")
signature f.Not = from_to 1 1 (codes "not")
signature f.Boolean = from_to 1 1 (codes "boolean")
signature f.True = from_to 0 0 (codes "true")
signature f.False = from_to 0 0 (codes "false")
signature f.Position = from_to 0 0 (codes "position")
signature f.Last = from_to 0 0 (codes "last")
signature f.Concat = record { name = codes "concat"; least = 2; most = None }
signature f.Contains = from_to 2 2 (codes "contains")
signature f.StartsWith = from_to 2 2 (codes "starts-with")
signature f.EndsWith = from_to 2 2 (codes "ends-with")
signature f.StringLength = from_to 1 1 (codes "string-length")
signature f.StringJoin = from_to 2 2 (codes "string-join")
signature f.Sum = from_to 1 1 (codes "sum")
signature f.DistinctValues = from_to 1 1 (codes "distinct-values")

abbrev pub all_functions : List Function
all_functions =
    f.Doc ∷ f.Root ∷ f.Name ∷ f.String ∷ f.Data ∷ f.Count ∷ f.Empty ∷ f.Exists ∷ f.Reverse ∷ f.Not ∷ f.Boolean ∷ f.True ∷ f.False ∷ f.Position ∷ f.Last ∷
    f.Concat ∷ f.Contains ∷ f.StartsWith ∷ f.EndsWith ∷ f.StringLength ∷ f.StringJoin ∷ f.Sum ∷ f.DistinctValues ∷ []

-- the one of that name
abbrev pub named : (name : List ℕ) → List Function → Option Function
named name [] = None
named name (g ∷ gs) = if bytes_eq name (signature g).name then Some g else named name gs

abbrev pub is_at_most : ℕ → Option ℕ → Bool
is_at_most n None = true
is_at_most n (Some most) = nat_le n most

-- it takes so many arguments
abbrev pub takes : (arguments : ℕ) → Function → Bool
takes n g = nat_le (signature g).least n && is_at_most n (signature g).most

abbrev pub if_it_takes : (arguments : ℕ) → Option Function → Option Function
if_it_takes n None = None
if_it_takes n (Some g) = if takes n g then Some g else None

-- the function of that name, where there is one and it takes so many arguments
abbrev pub function_of : (name : List ℕ) → (arguments : ℕ) → Option Function
function_of name n = if_it_takes n (named name all_functions)
