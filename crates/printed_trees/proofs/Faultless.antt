-- The passes over the expression of an item find no fault.
use Rattle.std.proofs.Common.{cond, ◌&&◌, ◌≡◌, ℕ, ℤ, pos, negsuc, suc, Bool, true, false, ◌||◌, List, [], ◌∷◌, ◌++◌, map, refl, ap, ap₂, ◌∙◌, rules, if◌then◌else◌, Some}
use Rattle.std.specs.List.{list_any}
use Rattle.data_model.specs.Trees.{Trees, no_trees, tree}
use Rattle.data_model.specs.declared.node.Kind.{Kind as NodeKind}
use Rattle.data_model.specs.declared.node.Kind.TheVariants as node
use Rattle.fault_codes.specs.declared.code.Code.TheVariants.{XUST0001}
use Rattle.query_grammar.specs.declared.functions.Function.{Function}
use Rattle.query_grammar.specs.declared.functions.Function.TheVariants as function
use Rattle.query_grammar.specs.Grammar.{of_list}
use Rattle.query_grammar.specs.declared.ast.Expr.{Expr, map-Expr, fold-Expr, out-Expr}
use Rattle.query_grammar.specs.declared.ast.Expr.TheFolds.{fold_out-Expr}
use Rattle.query_grammar.specs.declared.ast.Expr.TheOpen.{Expr-F}
use Rattle.query_grammar.specs.declared.ast.Expr.TheVariants as e
use Rattle.query_grammar.specs.declared.ast.Expr.TheViews.{the_lemmas}
use Rattle.query_grammar.specs.declared.ast.Name.TheVariants.{Written}
use Rattle.query_grammar.specs.declared.ast.Sign.TheVariants.{Minus}
use Rattle.static_checks.specs.Categories.{Form, outside, judged, judged_form, form_of, is_faulty, is_mixed, is_updating, is_simple, may_not_stand, categories}
use Rattle.static_checks.specs.declared.categories.Category.TheVariants.{Updating, Vacuous, Simple}
use Rattle.static_checks.specs.Functions.{is_unknown_call, has_unknown_call}
use Rattle.static_checks.specs.Inside.{children}
use Rattle.static_checks.specs.Parts.{Part, Scope, parts, under}
use Rattle.static_checks.specs.Static.{HasNoFault}
use Rattle.static_checks.specs.Variables.{has_twice_bound, binds_a_name_twice, is_unbound, has_unbound, unbound_step}
use Rattle.static_checks.proofs.Faults.{faulty_form, none_is, some_when}
use Rattle.static_checks.proofs.Folds.{parts_under}
use Rattle.static_checks.proofs.Forms.{judged_out, map_form}
use Rattle.static_checks.proofs.Here.{unknown_out, twice_out}
use Rattle.static_checks.proofs.Mapped.{mapped, parts_mapped}
use Rattle.printed_trees.specs.Constructors.{constructor_of, tree_expressions, integer_expression}

-- no pass finds a fault in the expression, whatever is bound, and it updates nothing
pub record IsPlain (x : Expr) : Type 0 where
  pub functions : has_unknown_call x ≡ false
  pub names : binds_a_name_twice x ≡ false
  pub variables : (bound : Scope) → has_unbound x bound ≡ false
  pub category : is_updating (judged x).category ≡ false
  pub placed : is_faulty (judged x) ≡ false

abbrev pub ArePlain : List Expr → Type 0
ArePlain [] = Unit {0}
ArePlain (x ∷ xs) = IsPlain x × ArePlain xs

no_calls : (xs : List Expr) → ArePlain xs → list_any has_unknown_call xs ≡ false
no_calls [] h = refl
no_calls (x ∷ xs) h = ap₂ (λ a b. a || b) h.0.functions (no_calls xs h.1)

no_names : (xs : List Expr) → ArePlain xs → list_any binds_a_name_twice xs ≡ false
no_names [] h = refl
no_names (x ∷ xs) h = ap₂ (λ a b. a || b) h.0.names (no_names xs h.1)

no_variables : (bound : Scope) (xs : List Expr) → ArePlain xs → list_any (λ (p : Part (Scope → Bool)). p.part (p.bound ++ bound)) (map (mapped has_unbound) (under [] xs)) ≡ false
no_variables bound [] h = refl
no_variables bound (x ∷ xs) h = ap₂ (λ a b. a || b) (h.0.variables bound) (no_variables bound xs h.1)

none_updates : (xs : List Expr) → ArePlain xs → list_any is_updating (categories (map judged xs)) ≡ false
none_updates [] h = refl
none_updates (x ∷ xs) h = ap₂ (λ a b. a || b) h.0.category (none_updates xs h.1)

none_misplaced : (xs : List Expr) → ArePlain xs → list_any is_faulty (map judged xs) ≡ false
none_misplaced [] h = refl
none_misplaced (x ∷ xs) h = ap₂ (λ a b. a || b) h.0.placed (none_misplaced xs h.1)

all_may_stand : (xs : List Expr) → ArePlain xs → list_any may_not_stand (map judged xs) ≡ false
all_may_stand [] h = refl
all_may_stand (x ∷ xs) h = ap₂ (λ a b. a || b) (ap₂ (λ a b. a || b) h.0.category h.0.placed) (all_may_stand xs h.1)

-- the form of an expression that gives items and has these parts
abbrev giving : List Expr → Form Expr
giving xs = outside (form_of {A = Expr} Expr-F.Context).own xs

-- what is judged of it
gives_items : (xs : List Expr) → ArePlain xs → is_faulty (judged_form (map_form judged (giving xs))) ≡ false
gives_items xs h = faulty_form (map_form judged (giving xs)) ∙ ap (λ b. b || false) (all_may_stand xs h)

abbrev of_results : List Expr → Form Expr
of_results xs = form_of (Expr-F.Sequence xs)

sequence_updates : (xs : List Expr) → ArePlain xs → is_updating (judged_form (map_form judged (of_results xs))).category ≡ false
sequence_updates xs h = ap (λ u. is_updating (cond u Updating (cond (list_any is_simple (categories (map judged xs))) Simple Vacuous))) (none_updates xs h) ∙ either (list_any is_simple (categories (map judged xs)))
  where
    either : (b : Bool) → is_updating (cond b Simple Vacuous) ≡ false
    either true = refl
    either false = refl

sequence_placed : (xs : List Expr) → ArePlain xs → is_faulty (judged_form (map_form judged (of_results xs))) ≡ false
sequence_placed xs h =
    let cs = categories (map judged xs) in
    faulty_form (map_form judged (of_results xs))
    ∙ ap₂ (λ m s. m || (false || s)) (none_misplaced xs h) (some_when (is_mixed cs) XUST0001 ∙ ap (λ u. u && list_any is_simple cs) (none_updates xs h))

-- an expression of this layer, with these parts
module _ (x : Expr) (y : Expr-F Expr) (xs : List Expr) (is : out-Expr x ≡ y) (inside : parts y ≡ under [] xs) (h : ArePlain xs)
    (known : is_unknown_call y ≡ false) (once : has_twice_bound y ≡ false) (no_variable : (bound : Scope) → is_unbound (map-Expr Expr (Scope → Bool) has_unbound y) bound ≡ false) where
  its_children : children x ≡ xs
  its_children = ap (λ z. map (λ (p : Part Expr). p.part) (parts z)) is ∙ ap (map (λ (p : Part Expr). p.part)) inside ∙ parts_under [] xs

  unbound : (bound : Scope) → has_unbound x bound ≡ false
  unfolding has_unbound
  unbound bound =
      ap (λ f. f bound) (fold_out-Expr (Scope → Bool) unbound_step x)
      ∙ ap (λ z. unbound_step (map-Expr Expr (Scope → Bool) (fold-Expr (Scope → Bool) unbound_step) z) bound) is
      ∙ ap₂ (λ a ps. a || list_any (λ (p : Part (Scope → Bool)). p.part (p.bound ++ bound)) ps) (no_variable bound)
      (parts_mapped (fold-Expr (Scope → Bool) unbound_step) y ∙ ap (map (mapped (fold-Expr (Scope → Bool) unbound_step))) inside)
      ∙ no_variables bound xs h

  plain : (f : Form Expr) → form_of y ≡ f → is_updating (judged_form (map_form judged f)).category ≡ false → is_faulty (judged_form (map_form judged f)) ≡ false → IsPlain x
  plain f formed updates misplaced =
      let so : judged x ≡ judged_form (map_form judged f) = judged_out x ∙ ap (λ z. judged_form (map_form judged (form_of z))) is ∙ ap (λ g. judged_form (map_form judged g)) formed in
      record {
        functions = unknown_out x ∙ ap₂ (λ a b. a || b) (ap is_unknown_call is ∙ known) (ap (list_any has_unknown_call) its_children ∙ no_calls xs h);
        names = twice_out x ∙ ap₂ (λ a b. a || b) (ap has_twice_bound is ∙ once) (ap (list_any binds_a_name_twice) its_children ∙ no_names xs h);
        variables = unbound;
        category = ap (λ j. is_updating j.category) so ∙ updates;
        placed = ap is_faulty so ∙ misplaced;
      }

-- one that gives items
items : (x : Expr) (y : Expr-F Expr) (xs : List Expr) → out-Expr x ≡ y → parts y ≡ under [] xs → ArePlain xs
    → is_unknown_call y ≡ false → has_twice_bound y ≡ false → ((bound : Scope) → is_unbound (map-Expr Expr (Scope → Bool) has_unbound y) bound ≡ false) → form_of y ≡ giving xs → IsPlain x
items x y xs is inside h known once no_variable formed = plain x y xs is inside h known once no_variable (giving xs) formed refl (gives_items xs h)

pub plain_string : (text : List ℕ) → IsPlain (e.String text)
plain_string text = items (e.String text) (Expr-F.String text) [] (search (rules, the_lemmas)) refl tt refl refl (λ bound. refl) refl

plain_number : (n : ℕ) → IsPlain (e.Integer n)
plain_number n = items (e.Integer n) (Expr-F.Integer n) [] (search (rules, the_lemmas)) refl tt refl refl (λ bound. refl) refl

pub plain_integer : (z : ℤ) → IsPlain (integer_expression z)
plain_integer (pos n) = plain_number n
plain_integer (negsuc n) =
    items (e.Signed (Minus ∷ []) (e.Integer (suc n))) (Expr-F.Signed (Minus ∷ []) (e.Integer (suc n))) (e.Integer (suc n) ∷ []) (search (rules, the_lemmas)) refl (plain_number (suc n), tt) refl refl (λ bound. refl) refl

plain_call : (f : Function) → IsPlain (e.Call (Some f) [])
plain_call f = items (e.Call (Some f) []) (Expr-F.Call (Some f) []) [] (search (rules, the_lemmas)) refl tt refl refl (λ bound. refl) refl

pub plain_boolean : (b : Bool) → IsPlain (e.Call (Some (if b then function.True else function.False)) [])
plain_boolean true = plain_call function.True
plain_boolean false = plain_call function.False

sequence : (xs : List Expr) → ArePlain xs → IsPlain (e.Sequence xs)
sequence xs h =
    plain (e.Sequence xs) (Expr-F.Sequence xs) xs (search (rules, the_lemmas)) refl h refl refl (λ bound. refl) (of_results xs) refl (sequence_updates xs h) (sequence_placed xs h)

plain_list : (xs : List Expr) → ArePlain xs → IsPlain (of_list xs)
plain_list [] h = sequence [] h
plain_list (x ∷ []) h = h.0
plain_list (x ∷ y ∷ ys) h = sequence (x ∷ y ∷ ys) h

pub plain_constructor : (kind : NodeKind) (name text : List ℕ) (xs : List Expr) → ArePlain xs → IsPlain (constructor_of kind name text xs)
plain_constructor node.Document name text xs h =
    items (e.Document (of_list xs)) (Expr-F.Document (of_list xs)) (of_list xs ∷ []) (search (rules, the_lemmas)) refl (plain_list xs h, tt) refl refl (λ bound. refl) refl
plain_constructor node.Element name text xs h =
    items (e.Element (Written name) (of_list xs)) (Expr-F.Element (Written name) (of_list xs)) (of_list xs ∷ []) (search (rules, the_lemmas)) refl (plain_list xs h, tt) refl refl (λ bound. refl) refl
plain_constructor node.Attribute name text xs h =
    items (e.Attribute (Written name) (e.String text)) (Expr-F.Attribute (Written name) (e.String text)) (e.String text ∷ []) (search (rules, the_lemmas)) refl (plain_string text, tt) refl refl (λ bound. refl) refl
plain_constructor node.Text name text xs h =
    items (e.Text (e.String text)) (Expr-F.Text (e.String text)) (e.String text ∷ []) (search (rules, the_lemmas)) refl (plain_string text, tt) refl refl (λ bound. refl) refl
plain_constructor node.Comment name text xs h =
    items (e.Comment (e.String text)) (Expr-F.Comment (e.String text)) (e.String text ∷ []) (search (rules, the_lemmas)) refl (plain_string text, tt) refl refl (λ bound. refl) refl
plain_constructor node.Instruction name text xs h =
    items (e.Instruction (Written name) (e.String text)) (Expr-F.Instruction (Written name) (e.String text)) (e.String text ∷ []) (search (rules, the_lemmas)) refl (plain_string text, tt) refl refl (λ bound. refl) refl

pub both : (xs ys : List Expr) → ArePlain xs → ArePlain ys → ArePlain (xs ++ ys)
both [] ys h g = g
both (x ∷ xs) ys h g = (h.0, both xs ys h.1 g)

pub plain_trees : (ts : Trees) → ArePlain (tree_expressions ts)
plain_trees no_trees = tt
plain_trees (tree c bs cs rest) =
    (plain_constructor c.kind c.name c.text (tree_expressions bs ++ tree_expressions cs) (both (tree_expressions bs) (tree_expressions cs) (plain_trees bs) (plain_trees cs)), plain_trees rest)

pub no_fault : (x : Expr) → IsPlain x → HasNoFault x
no_fault x h = record { functions = h.functions; names = h.names; variables = h.variables []; categories = none_is (judged x).fault h.placed }
