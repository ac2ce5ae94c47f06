-- The steps of the one walk over an expression.
use Rattle.std.proofs.Common.{◌≡◌, ◌⊎◌, ⊎_elim, inl, inr, ℕ, ◌+◌, Bool, true, false, ◌||◌, [], map, drop, slice_get, Option, Some, None, is_some, not, if◌then◌else◌, refl, ap, sym, ◌∙◌}
use Rattle.std.specs.List.{list_any}
use Rattle.query_grammar.specs.declared.ast.Expr.{Expr, out-Expr}
use Rattle.static_checks.specs.Categories.{is_faulty, judged}
use Rattle.static_checks.specs.Functions.{has_unknown_call}
use Rattle.static_checks.specs.Inside.{IsInner, children, concluded, is_inner, nothing, taken, walk}
use Rattle.static_checks.specs.Parts.{Scope, parts}
use Rattle.static_checks.specs.Scopes.{AreBound, Names, bound_before, with_names}
use Rattle.static_checks.specs.Variables.{binds_a_name_twice, has_unbound}
use Rattle.static_checks.specs.Walk.{IsFaultless, IsFaulty, IsWalked}
use Rattle.static_checks.specs.declared.categories.Category.{Category}
use Rattle.static_checks.specs.declared.judging.Found.{Found}
use Rattle.static_checks.proofs.Bindings.{part_unbound}
use Rattle.static_checks.proofs.Forms.{form}
use Rattle.static_checks.proofs.Passes.{any_past, found_in, not_in}
use Rattle.static_checks.proofs.Unbound as unbound
use Rattle.static_checks.proofs.Walks as walks

-- what the loop knows at the part of an index
pub record Left (x : Expr) (names now : Names) (from to k : ℕ) (found : Found) : Type 0 where
  pub functions : list_any has_unknown_call (drop k (children x)) ≡ has_unknown_call x
  pub twice : list_any binds_a_name_twice (drop k (children x)) ≡ binds_a_name_twice x
  pub bound : now ≡ with_names (bound_before (out-Expr x) k) names
  pub variables : (scope : Scope) → AreBound names scope → list_any (part_unbound scope) (drop k (parts (out-Expr x))) ≡ has_unbound x scope
  pub place : walk from to k (map judged (drop k (children x))) found ≡ walk from to 0 (map judged (children x)) nothing

module _ (x : Expr) (names now : Names) (from to k : ℕ) (found : Found) (left : Left x names now from to k found) (inner : IsInner (form x) from to) where
  module _ (y : Expr) (there : Some y ≡ slice_get (children x) k) where
    -- a fault in a part is one in the whole
    pub faulty : IsFaulty y now → IsFaulty x names
    faulty = ⊎_elim
        (λ h. inl (found_in has_unknown_call (children x) k y (has_unknown_call x) true left.functions there h refl))
        (⊎_elim
        (λ h. inr (inl (found_in binds_a_name_twice (children x) k y (binds_a_name_twice x) true left.twice there h refl)))
        (⊎_elim
        (λ h. inr (inr (inl (unbound.stands_in_part x names now k left.bound left.variables y there true h refl))))
        (λ h. inr (inr (inr (walks.misplaced_in from to x inner k found left.place y there (sym h)))))))

    module _ (c : Category) (fine : IsFaultless y now c) where
      pub misplaced : taken found c (is_inner from to k) ≡ None → IsFaulty x names
      misplaced e = inr (inr (inr (walks.misplaced_here from to x inner k found left.place y there c (sym fine.place) e)))

      pub goes_on : (more : Found) (next : Names) → taken found c (is_inner from to k) ≡ Some more → next ≡ with_names (bound_before (out-Expr x) (k + 1)) names
          → Left x names next from to (k + 1) more
      goes_on more next e same = record {
        functions = not_in has_unknown_call (children x) k y (has_unknown_call x) false left.functions there fine.functions refl;
        twice = not_in binds_a_name_twice (children x) k y (binds_a_name_twice x) false left.twice there fine.twice refl;
        bound = same;
        variables = unbound.none_in_part x names now k left.bound left.variables y there false fine.variables refl;
        place = walks.goes_on from to x inner k found left.place y there c (sym fine.place) more e;
      }

  -- past the last part
  pub ends : None ≡ slice_get (children x) k → (o : Option Category) → o ≡ concluded (form x).own (Some found) → IsWalked x names o
  ends e None is = inr (inr (inr (is ∙ walks.ends from to x inner k found left.place e)))
  ends e (Some c) is = record {
    functions = sym (any_past has_unknown_call (children x) k (sym e)) ∙ left.functions;
    twice = sym (any_past binds_a_name_twice (children x) k (sym e)) ∙ left.twice;
    variables = unbound.stands_nowhere x names now k left.bound left.variables e;
    place = is ∙ walks.ends from to x inner k found left.place e;
  }

-- What is told of a whole, where no name is bound at first.

or_one : (a b c m : Bool) → (true ≡ a) ⊎ ((true ≡ b) ⊎ ((true ≡ c) ⊎ (true ≡ m))) → true ≡ a || (b || (c || m))
or_one true b c m h = refl
or_one false true c m h = refl
or_one false false true m h = refl
or_one false false false true h = refl
or_one false false false false h = ⊎_elim (λ e. e) (⊎_elim (λ e. e) (⊎_elim (λ e. e) (λ e. e))) h

or_none : (a b c m : Bool) → false ≡ a → false ≡ b → false ≡ c → false ≡ m → false ≡ a || (b || (c || m))
or_none a b c m p q r s = s ∙ ap (λ t. t || m) r ∙ ap (λ t. t || (c || m)) q ∙ ap (λ t. t || (b || (c || m))) p

misplaced_is : (b : Bool) (c : Category) → None ≡ (if b then None else Some c) → true ≡ b
misplaced_is true c h = refl
misplaced_is false c h = absurd (let f : ⊥ = cc in f)

placed_is : (b : Bool) (c d : Category) → Some d ≡ (if b then None else Some c) → false ≡ b
placed_is true c d h = absurd (let f : ⊥ = cc in f)
placed_is false c d h = refl

pub fault_told : (x : Expr) → IsFaulty x [] → true ≡ has_unknown_call x || (binds_a_name_twice x || (has_unbound x [] || is_faulty (judged x)))
fault_told x h = or_one (has_unknown_call x) (binds_a_name_twice x) (has_unbound x []) (is_faulty (judged x))
    (⊎_elim (λ e. inl e) (⊎_elim (λ e. inr (inl e)) (⊎_elim (λ e. inr (inr (inl (e [] (λ y. refl))))) (λ e. inr (inr (inr (misplaced_is (is_faulty (judged x)) (judged x).category e)))))) h)

pub none_told : (x : Expr) (c : Category) → IsFaultless x [] c → false ≡ has_unknown_call x || (binds_a_name_twice x || (has_unbound x [] || is_faulty (judged x)))
none_told x c h = or_none (has_unknown_call x) (binds_a_name_twice x) (has_unbound x []) (is_faulty (judged x))
    h.functions h.twice (h.variables [] (λ y. refl)) (placed_is (is_faulty (judged x)) (judged x).category c h.place)

is_one : (r : Bool) → false ≡ not r → r ≡ true
is_one true h = refl
is_one false h = absurd (let f : ⊥ = cc in f)

is_nought : (r : Bool) → true ≡ not r → r ≡ false
is_nought false h = refl
is_nought true h = absurd (let f : ⊥ = cc in f)

pub told : (x : Expr) (o : Option Category) (r : Bool) → IsWalked x [] o → is_some o ≡ not r → r ≡ has_unknown_call x || (binds_a_name_twice x || (has_unbound x [] || is_faulty (judged x)))
told x None r h e = is_one r e ∙ fault_told x h
told x (Some c) r h e = is_nought r e ∙ none_told x c h
