-- Functions, by their names and how many arguments they take.
use Rattle.std.proofs.Common.{◌≡◌, ◌↔◌, ℕ, Bool, true, false, if◌then◌else◌, List, [], ◌∷◌, Option, Some, None, refl, subst, ap, ◌∙◌}
use Rattle.std.proofs.lemmas.Option.{none-some, same_Some}
use Rattle.std.proofs.lemmas.Slice.Eq.{bytes_eq-Decides}
use Rattle.std.specs.Str.{bytes_eq}
use Rattle.query_grammar.specs.declared.functions.Function.{Function}
use Rattle.query_grammar.specs.declared.functions.Function.TheVariants as f
use Rattle.query_grammar.specs.Functions.{signature, all_functions, named, takes, if_it_takes, function_of}

-- what is found has that name
named_so : (name : List ℕ) (gs : List Function) (g : Function) → named name gs ≡ Some g → name ≡ (signature g).name
named_so name [] g h = absurd (none-some g h)
named_so name (first ∷ gs) g h = of (bytes_eq name (signature first).name) refl h (named_so name gs g)
  where
    of : (b : Bool) → bytes_eq name (signature first).name ≡ b → (if b then Some first else named name gs) ≡ Some g → (named name gs ≡ Some g → name ≡ (signature g).name) → name ≡ (signature g).name
    of true e i later = (bytes_eq-Decides name (signature first).name).0 e ∙ ap (λ x. (signature x).name) (same_Some first g i)
    of false e i later = later i

-- and takes so many arguments
taken_so : (n : ℕ) (found : Option Function) (g : Function) → if_it_takes n found ≡ Some g → (found ≡ Some g) × (takes n g ≡ true)
taken_so n None g h = absurd (none-some g h)
taken_so n (Some first) g h = of (takes n first) refl h
  where
    of : (b : Bool) → takes n first ≡ b → (if b then Some first else None) ≡ Some g → (Some first ≡ Some g) × (takes n g ≡ true)
    of true e i = (i, subst (λ x. takes n x ≡ true) (same_Some first g i) e)
    of false e i = absurd (none-some g i)

pub called : (name : List ℕ) (n : ℕ) (g : Function) → function_of name n ≡ Some g → (name ≡ (signature g).name) × (takes n g ≡ true)
called name n g h = let found = taken_so n (named name all_functions) g h in (named_so name all_functions g found.0, found.1)

-- each function is found by its name
found : (g : Function) → named (signature g).name all_functions ≡ Some g
found f.Doc = refl
found f.Root = refl
found f.Name = refl
found f.String = refl
found f.Data = refl
found f.Count = refl
found f.Empty = refl
found f.Exists = refl
found f.Reverse = refl
found f.Not = refl
found f.Boolean = refl
found f.True = refl
found f.False = refl
found f.Position = refl
found f.Last = refl
found f.Concat = refl
found f.Contains = refl
found f.StartsWith = refl
found f.EndsWith = refl
found f.StringLength = refl
found f.StringJoin = refl
found f.Sum = refl
found f.DistinctValues = refl

calling : (name : List ℕ) (n : ℕ) (g : Function) → name ≡ (signature g).name → takes n g ≡ true → function_of name n ≡ Some g
calling name n g e h = ap (λ x. function_of x n) e ∙ ap (if_it_takes n) (found g) ∙ ap (λ b. if b then Some g else None) h

pub called_exactly : (name : List ℕ) (n : ℕ) (g : Function) → (function_of name n ≡ Some g) ↔ ((name ≡ (signature g).name) × (takes n g ≡ true))
called_exactly name n g = (called name n g, λ h. calling name n g h.0 h.1)
