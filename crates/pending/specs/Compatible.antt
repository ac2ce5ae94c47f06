-- Which primitives may stand in one pending update list (XQuery Update Facility 1.0, section 3.2.2).
use Rattle.std.specs.Prelude.{ℕ, Bool, false, ◌||◌, ◌==◌, if◌then◌else◌, List, [], ◌∷◌, filter_map, Option, Some, None}
use Rattle.std.specs.List.{list_any}
use Rattle.fault_codes.specs.declared.code.Code.{Code}
use Rattle.fault_codes.specs.declared.code.Code.TheVariants.{XUDY0015, XUDY0016, XUDY0017}
use Rattle.pending.specs.Primitives.{PrimitiveTerm, replace_node, replace_value, replace_element_content, rename}

-- the most primitives in a list (our own choice)
unfoldable pub most_primitives : ℕ
most_primitives = 10000

-- the target of a primitive of one kind; other primitives have none
abbrev pub renamed : PrimitiveTerm → Option ℕ
renamed (rename i name) = Some i
renamed _ = None

abbrev pub replaced : PrimitiveTerm → Option ℕ
replaced (replace_node i ts) = Some i
replaced _ = None

abbrev pub value_replaced : PrimitiveTerm → Option ℕ
value_replaced (replace_value i text) = Some i
value_replaced _ = None

abbrev pub content_replaced : PrimitiveTerm → Option ℕ
content_replaced (replace_element_content i ts) = Some i
content_replaced _ = None

-- the number is among these
abbrev pub is_among : List ℕ → ℕ → Bool
is_among is i = list_any (λ j. i == j) is

-- a number stands there twice, wherever
abbrev pub has_repeat : List ℕ → Bool
has_repeat [] = false
has_repeat (i ∷ is) = is_among is i || has_repeat is

-- two primitives of the kind have one target
abbrev pub has_two : {A : Type 0} → (A → Option ℕ) → List A → Bool
has_two target ps = has_repeat (filter_map target ps)

-- the code of the first rule that is broken; a list with none is compatible
abbrev pub conflict : List PrimitiveTerm → Option Code
conflict ps =
    if has_two renamed ps then Some XUDY0015
    else (if has_two replaced ps then Some XUDY0016
    else (if has_two value_replaced ps || has_two content_replaced ps then Some XUDY0017
    else None))
