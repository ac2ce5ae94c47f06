-- The expressions within an expression, and where updating ones stand among them.
use Rattle.std.specs.Prelude.{◌≡◌, ℕ, Bool, false, map, slice_get, Some, None}
use Rattle.std.specs.List.{list_any}
use Rattle.query_grammar.specs.declared.ast.Expr.{Expr, out-Expr}
use Rattle.static_checks.specs.Categories.{Form, form_of, is_updating, judged, category_of, inner_fault}
use Rattle.static_checks.specs.Inside.{children}
use Rattle.static_checks.specs.declared.categories.Category.{Category}

-- it is the expression, or stands within one of its parts
pub data StandsIn (inner : Expr) : Expr → Type 0 where
  Itself : StandsIn inner inner
  InPart : (x part : Expr) (k : ℕ) → slice_get (children x) k ≡ Some part → StandsIn inner part → StandsIn inner x

abbrev pub category : Expr → Category
category x = (judged x).category

abbrev pub updates : Expr → Bool
updates x = is_updating (category x)

-- the parts by whether an updating one may stand there
abbrev pub form : Expr → Form Expr
form x = form_of (out-Expr x)

-- Updating expressions stand only where they may: only inner parts are updating, and where the whole is made of the inner ones, not one beside a
-- simple one; what a copy is changed by is not simple. The category is that of its inner parts.
pub record IsPlaced (x : Expr) : Type 0 where
  pub before : list_any updates (form x).before ≡ false
  pub after : list_any updates (form x).after ≡ false
  pub alike : inner_fault (form x).own (map category (form x).inner) ≡ None
  pub of_inner : category x ≡ category_of (form x).own (map category (form x).inner)
