-- Whether there is a fault in a form.
use Rattle.std.proofs.Common.{◌≡◌, Bool, true, false, ◌||◌, List, [], ◌∷◌, ◌++◌, Option, Some, None, is_some, refl, ap, ap₂, sym, ◌∙◌}
use Rattle.std.specs.List.{list_any}
use Rattle.fault_codes.specs.declared.code.Code.{Code}
use Rattle.fault_codes.specs.declared.code.Code.TheVariants.{XUST0001}
use Rattle.static_checks.specs.Categories.{Form, Judged, judged_form, is_faulty, is_updating, may_not_stand, categories, or_else, first_fault, when, inner_fault, own_fault}
use Rattle.static_checks.proofs.Folds.{or_more}

pub none_is : (f : Option Code) → is_some f ≡ false → f ≡ None
none_is None h = refl
none_is (Some code) h = absurd (let f : ⊥ = cc in f)

pub some_else : (f g : Option Code) → is_some (or_else f g) ≡ is_some f || is_some g
some_else (Some code) g = refl
some_else None g = refl

pub some_when : (b : Bool) (code : Code) → is_some (when b code) ≡ b
some_when true code = refl
some_when false code = refl

some_first : (js : List Judged) → is_some (first_fault js) ≡ list_any is_faulty js
some_first [] = refl
some_first (j ∷ js) = some_else j.fault (first_fault js) ∙ ap (λ b. is_faulty j || b) (some_first js)

pub any_both : {A : Type 0} (p : A → Bool) (xs ys : List A) → list_any p (xs ++ ys) ≡ list_any p xs || list_any p ys
any_both p [] ys = refl
any_both p (x ∷ xs) ys = ap (λ b. p x || b) (any_both p xs ys) ∙ sym (or_more (p x) (list_any p xs) (list_any p ys))

crossed : (a b c d : Bool) → (a || b) || (c || d) ≡ (a || c) || (b || d)
crossed true b c d = refl
crossed false true true d = refl
crossed false true false d = refl
crossed false false c d = refl

-- what may not stand updates, or there is a fault in it
none_stand : (js : List Judged) → list_any may_not_stand js ≡ list_any is_updating (categories js) || list_any is_faulty js
none_stand [] = refl
none_stand (j ∷ js) = ap (λ b. may_not_stand j || b) (none_stand js) ∙ crossed (is_updating j.category) (is_faulty j) (list_any is_updating (categories js)) (list_any is_faulty js)

-- the faults of the parts and of the whole, by parts
by_parts : (bf bu i m af au : Bool) → (bf || (i || af)) || (bu || (m || au)) ≡ (bu || bf) || (i || ((au || af) || m))
by_parts true true i m af au = refl
by_parts true false i m af au = refl
by_parts false true true m af au = refl
by_parts false true false m true au = refl
by_parts false true false m false au = refl
by_parts false false true m af au = refl
by_parts false false false m true true = refl
by_parts false false false m true false = refl
by_parts false false false true false true = refl
by_parts false false false true false false = refl
by_parts false false false false false true = refl
by_parts false false false false false false = refl

pub faulty_form : (f : Form Judged)
    → is_faulty (judged_form f) ≡ list_any may_not_stand f.before || (list_any is_faulty f.inner || (list_any may_not_stand f.after || is_some (inner_fault f.own (categories f.inner))))
faulty_form f =
    let b = list_any is_updating (categories f.before) in
    let a = list_any is_updating (categories f.after) in
    let m = inner_fault f.own (categories f.inner) in
    some_else (first_fault (f.before ++ (f.inner ++ f.after))) (own_fault f)
    ∙ ap₂ (λ x y. x || y)
    (some_first (f.before ++ (f.inner ++ f.after)) ∙ any_both is_faulty f.before (f.inner ++ f.after) ∙ ap (λ x. list_any is_faulty f.before || x) (any_both is_faulty f.inner f.after))
    (some_else (when b XUST0001) (or_else m (when a XUST0001)) ∙ ap₂ (λ x y. x || y) (some_when b XUST0001) (some_else m (when a XUST0001) ∙ ap (λ x. is_some m || x) (some_when a XUST0001)))
    ∙ by_parts (list_any is_faulty f.before) b (list_any is_faulty f.inner) (is_some m) (list_any is_faulty f.after) a
    ∙ ap₂ (λ x y. x || (list_any is_faulty f.inner || (y || is_some m))) (sym (none_stand f.before)) (sym (none_stand f.after))
