-- Content item by item, and part by part.
use Rattle.std.proofs.Common.{◌≡◌, ℕ, suc, List, [], ◌∷◌, ◌++◌, Result, Ok, Err, refl, ap, sym, ◌∙◌}
use Rattle.data_model.specs.Trees.{Trees, no_trees, append}
use Rattle.fault_codes.specs.declared.code.Code.{Code}
use Rattle.values.specs.declared.atom.Atom.{Atom}
use Rattle.values.specs.declared.atom.Item.{Item}
use Rattle.values.specs.declared.atom.Item.TheVariants as item
use Rattle.values.specs.declared.fault.ValueFault.{ValueFault}
use Rattle.values.specs.declared.fault.ValueFault.TheVariants as fault
use Rattle.query_meaning.specs.Running.{M, Run, pure, and_then, ◌>>=◌, each}
use Rattle.query_meaning.specs.Content.{Part, values, node, with_value, parts_of, copied, made, content}
use Rattle.evaluation.specs.Gives.{Any, GivesIn}
use Rattle.evaluation.proofs.Each.{then_gives}
use Rattle.copied_content.specs.Copying.{Partial, after, nothing, closed, and_item}

-- one part more
abbrev put : ℕ → Trees → Part → M Trees
put k given p = made p >>= (λ us. pure (append given us))

-- values before parts
abbrev with_values : List Atom → List Part → List Part
with_values [] ps = ps
with_values (a ∷ more) ps = with_value a (with_values more ps)

with_last : (vs : List Atom) (a : Atom) (ps : List Part) → with_values (vs ++ a ∷ []) ps ≡ with_values vs (with_value a ps)
with_last [] a ps = refl
with_last (v ∷ vs) a ps = ap (with_value v) (with_last vs a ps)

at_end : (a : Atom) (more : List Atom) → with_values (a ∷ more) [] ≡ values (a ∷ more) ∷ []
at_end a [] = refl
at_end a (b ∷ more) = ap (with_value a) (at_end b more)

before_node : (a : Atom) (more : List Atom) (i : ℕ) (ps : List Part) → with_values (a ∷ more) (node i ∷ ps) ≡ values (a ∷ more) ∷ node i ∷ ps
before_node a [] i ps = refl
before_node a (b ∷ more) i ps = ap (with_value a) (before_node b more i ps)

abbrev state : Trees → List Atom → Partial
state given vs = record { trees = given; values = vs }

-- what is left of the items comes to the same as what is left of the parts
abbrev SameLeft : List Item → Type 0
SameLeft xs = (n m : ℕ) (given : Trees) (vs : List Atom) (run : Run) → and_then (each (λ _. and_item) n xs (state given vs) run) closed ≡ each put m (with_values vs (parts_of xs)) given run

none_left : SameLeft []
none_left n m given [] run = refl
none_left n m given (a ∷ more) run = of (made (values (a ∷ more)) run) ∙ ap (λ ps. each put m ps given run) (sym (at_end a more))
  where
    of : (r : Result (Trees × Run) Code) → and_then r (λ us. pure (append given us)) ≡ and_then (and_then r (λ us. pure (append given us))) (each put (suc m) [])
    of (Ok p) = refl
    of (Err code) = refl

-- a node after content that is closed
node_left : (i : ℕ) (xs : List Item) → SameLeft xs → (n m : ℕ) (given : Trees) (run : Run)
    → and_then (and_then ((after given (copied i) >>= (λ us. pure (state us []))) run) (each (λ _. and_item) n xs)) closed ≡ each put m (node i ∷ parts_of xs) given run
node_left i xs rest n m given run = of (copied i run)
  where
    of : (r : Result (Trees × Run) Code)
        → and_then (and_then (and_then (and_then r (λ us. pure (append given us))) (λ us. pure (state us []))) (each (λ _. and_item) n xs)) closed
        ≡ and_then (and_then r (λ us. pure (append given us))) (each put (suc m) (parts_of xs))
    of (Ok p) = rest n (suc m) (append given p.0) [] p.1
    of (Err code) = refl

one_more : (x : Item) (xs : List Item) → SameLeft xs → SameLeft (x ∷ xs)
one_more (item.Atomic a) xs rest n m given vs run = rest (suc n) m given (vs ++ a ∷ []) run ∙ ap (λ ps. each put m ps given run) (with_last vs a (parts_of xs))
one_more (item.Node i) xs rest n m given [] run = node_left i xs rest (suc n) m given run
one_more (item.Node i) xs rest n m given (a ∷ more) run = of (made (values (a ∷ more)) run) ∙ ap (λ ps. each put m ps given run) (sym (before_node a more i (parts_of xs)))
  where
    of : (r : Result (Trees × Run) Code)
        → and_then (and_then (and_then (and_then r (λ us. pure (append given us))) (λ before. after before (copied i) >>= (λ us. pure (state us [])))) (each (λ _. and_item) (suc n) xs)) closed
        ≡ and_then (and_then r (λ us. pure (append given us))) (each put (suc m) (node i ∷ parts_of xs))
    of (Ok p) = node_left i xs rest (suc n) (suc m) (append given p.0) p.1
    of (Err code) = refl

same_left : (xs : List Item) → SameLeft xs
same_left [] = none_left
same_left (x ∷ xs) = one_more x xs (same_left xs)

-- the same of what is equal
pub gives_same : (m q : M Trees) (old new : Run) (r : Result Trees ValueFault) → m old ≡ q old → GivesIn Any q old r new → GivesIn Any m old r new
gives_same m q old new (Ok us) e g = (e ∙ g.0, g.1)
gives_same m q old new (Err fault.Memory) e g = tt
gives_same m q old new (Err (fault.Code code)) e g = e ∙ g

pub content_gives : (items seen : List Item) (old mid new : Run) (s : Partial) (r : Result Trees ValueFault) → seen ≡ items
    → GivesIn Any (each (λ _. and_item) 0 seen nothing) old (Ok s) mid → GivesIn Any (closed s) mid r new → GivesIn Any (content items) old r new
content_gives items seen old mid new s r is g h =
    gives_same (content items) (each (λ _. and_item) 0 seen nothing >>= closed) old new r (ap (λ xs. content xs old) (sym is) ∙ sym (same_left seen 0 0 no_trees [] old))
    (then_gives Any Any (each (λ _. and_item) 0 seen nothing) closed old mid new s r g h)

pub content_fails : (items seen : List Item) (old new : Run) (f : ValueFault) → seen ≡ items
    → GivesIn Any (each (λ _. and_item) 0 seen nothing) old (Err f) new → GivesIn Any (content items) old (Err f) new
content_fails items seen old new fault.Memory is g = tt
content_fails items seen old new (fault.Code code) is g = ap (λ xs. content xs old) (sym is) ∙ sym (same_left seen 0 0 no_trees [] old) ∙ ap (λ r. and_then r closed) g
