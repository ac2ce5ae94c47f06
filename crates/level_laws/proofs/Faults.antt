-- Where no copy is made, the category pass finds updating expressions where they may not stand, and no other fault.
use Rattle.std.proofs.Common.{◌≡◌, Bool, true, false, List, [], ◌∷◌, map, Option, Some, None, subst, sym}
use Rattle.std.proofs.lemmas.List.Elements.{All-head, All-tail}
use Rattle.std.proofs.lemmas.Option.{none-some, same_Some}
use Rattle.std.specs.List.{All, list_any}
use Rattle.fault_codes.specs.declared.code.Code.{Code}
use Rattle.fault_codes.specs.declared.code.Code.TheVariants.{XUST0001}
use Rattle.query_grammar.specs.declared.ast.Expr.{Expr, out-Expr}
use Rattle.query_grammar.specs.declared.ast.Expr.TheOpen.{Expr-F}
use Rattle.static_checks.specs.Categories.{Form, Judged, judged, form_of, is_updating, is_mixed, categories, or_else, first_fault, when, inner_fault, own_fault}
use Rattle.static_checks.specs.Inside.{children}
use Rattle.static_checks.proofs.Forms.{map_form, form, judged_out, judged_in_order}
use Rattle.level_laws.specs.Copied.{is_copy, has_copy}
use Rattle.level_laws.proofs.Within.{without}

-- if there is a code, it is that of an updating expression that may not stand there
abbrev IsMisplaced : Option Code → Type 0
IsMisplaced fault = (code : Code) → fault ≡ Some code → code ≡ XUST0001

no_fault : IsMisplaced None
no_fault code h = absurd (none-some code h)

either : (a b : Option Code) → IsMisplaced a → IsMisplaced b → IsMisplaced (or_else a b)
either None b first second = second
either (Some code) b first second = first

if_any : (b : Bool) → IsMisplaced (when b XUST0001)
if_any true code h = sym (same_Some XUST0001 code h)
if_any false code h = no_fault code h

first_of : (xs : List Expr) → All (λ x. IsMisplaced (judged x).fault) xs → IsMisplaced (first_fault (map judged xs))
first_of [] all = no_fault
first_of (x ∷ xs) all =
    either (judged x).fault (first_fault (map judged xs)) (All-head (λ y. IsMisplaced (judged y).fault) x xs all) (first_of xs (All-tail (λ y. IsMisplaced (judged y).fault) x xs all))

-- what the inner parts of a form that is no copy may not be
of_inner : (x : Expr-F Expr) → is_copy x ≡ false → IsMisplaced (inner_fault (form_of x).own (categories (map judged (form_of x).inner)))
of_inner (Expr-F.Copy bs changes x) none = absurd (let f : ⊥ = cc in f)
of_inner (Expr-F.Sequence xs) none = if_any (is_mixed (categories (map judged xs)))
of_inner (Expr-F.If c x y) none = if_any (is_mixed (categories (map judged (x ∷ y ∷ []))))
of_inner (Expr-F.Flwor cs where? ks x) none = if_any (is_mixed (categories (map judged (x ∷ []))))
of_inner _ none = no_fault

of_parts : (x : Expr) → is_copy (out-Expr x) ≡ false → All (λ y. IsMisplaced (judged y).fault) (children x) → IsMisplaced (judged x).fault
of_parts x none all =
    let f : Form Judged = map_form judged (form x) in
    let inside = subst (λ js. IsMisplaced (first_fault js)) (judged_in_order x) (first_of (children x) all) in
    let inner = inner_fault f.own (categories f.inner) in
    let after = when (list_any is_updating (categories f.after)) XUST0001 in
    let own = either (when (list_any is_updating (categories f.before)) XUST0001) (or_else inner after) (if_any (list_any is_updating (categories f.before)))
    (either inner after (of_inner (out-Expr x) none) (if_any (list_any is_updating (categories f.after)))) in
    subst (λ j. IsMisplaced j.fault) (sym (judged_out x)) (either _ (own_fault f) inside own)

pub only_misplaced : (x : Expr) (code : Code) → has_copy x ≡ false → (judged x).fault ≡ Some code → code ≡ XUST0001
only_misplaced x code none h = without (λ y. IsMisplaced (judged y).fault) of_parts x none code h
