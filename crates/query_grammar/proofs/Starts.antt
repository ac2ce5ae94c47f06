-- How many tokens the productions take, and with which they begin.
use Rattle.std.proofs.Common.{◌≡◌, ℕ, zero, suc, Bool, true, List, [], ◌∷◌, Option, Some, refl, ap, ◌∙◌, ⊎_elim}
use Rattle.query_tokens.specs.declared.kind.Kind.{Kind}
use Rattle.query_tokens.specs.declared.kind.Kind.TheVariants as k
use Rattle.query_tokens.specs.declared.token.Token.{Token}
use Rattle.query_tokens.specs.Cursor.{kind_at}
use Rattle.query_tokens.specs.Words.{is_name_kind}
use Rattle.data_model.specs.declared.axis.Axis.{Axis}
use Rattle.query_grammar.specs.declared.ast.Expr.{Expr}
use Rattle.query_grammar.specs.declared.ast.Binary.{Binary}
use Rattle.query_grammar.specs.declared.ast.KindTest.{KindTest}
use Rattle.query_grammar.specs.declared.ast.Name.{Name as NameOf}
use Rattle.query_grammar.specs.declared.ast.Sign.{Sign}
use Rattle.query_grammar.specs.Lang.{Lang, ◌>>=◌ as ◌▹◌, ◌∪◌, Many, tok, such, stands}
use Rattle.query_grammar.specs.Grammar as g
use Rattle.query_grammar.specs.Words.{axis_of, kind_test_of, is_function, sign_of, intersect_operator, union_operator, multiply_operator, add_operator, range_operator, comparison_operator, and_operator, or_operator}
use Rattle.query_grammar.proofs.Steps.{Shrinks, Keeps, keeps, keeps_pure, shrinks_such, shrinks_tok, shrinks_stands, shrinks_bind, keeps_bind, late_bind, shrinks_either, keeps_either, keeps_many}

-- a token, and then what takes no fewer than none
after : {B : Type 0} (kind : Kind) {P : Lang B} → Keeps P → Shrinks (tok kind ▹ (λ _. P))
after kind s = shrinks_bind (shrinks_tok kind) (λ _. s)

past : {B : Type 0} (kind : Kind) {P : Lang B} → Keeps P → Keeps (tok kind ▹ (λ _. P))
past kind s = keeps (after kind s)

pub shrinks_comma : {A : Type 0} {P : Lang A} → Shrinks P → Shrinks (tok k.Comma ▹ (λ _. P))
shrinks_comma s = after k.Comma (keeps s)

pub shrinks_list1 : {A : Type 0} {P : Lang A} → Shrinks P → Shrinks (g.List1 P)
shrinks_list1 s = shrinks_bind s (λ x. keeps_bind (keeps_many (keeps (shrinks_comma s))) (λ xs. keeps_pure _))

keeps_list0 : {A : Type 0} {P : Lang A} → Shrinks P → Keeps (g.List0 P)
keeps_list0 s = keeps_either (keeps_pure []) (keeps (shrinks_list1 s))

pub shrinks_name : Shrinks g.Name
shrinks_name = shrinks_bind (shrinks_such is_name_kind) (λ t. keeps_pure _)

pub shrinks_var : Shrinks g.Var
shrinks_var = after k.Dollar (keeps shrinks_name)

pub shrinks_test : Shrinks g.Test
shrinks_test = shrinks_either (shrinks_bind shrinks_name (λ x. keeps_pure _)) (shrinks_either (after k.Star (keeps_pure _))
    (shrinks_bind (shrinks_stands kind_test_of) (λ x. past k.OpenParen (past k.CloseParen (keeps_pure _)))))

pub shrinks_axis : Shrinks g.AxisOf
shrinks_axis = shrinks_either (shrinks_bind (shrinks_stands axis_of) (λ a. past k.ColonColon (keeps_bind (keeps shrinks_test) (λ x. keeps_pure _))))
    (shrinks_either (after k.AtSign (keeps_bind (keeps shrinks_test) (λ x. keeps_pure _)))
    (shrinks_either (shrinks_bind shrinks_test (λ x. keeps_pure _)) (after k.DotDot (keeps_pure _))))

pub shrinks_slash : Shrinks g.Slash
shrinks_slash = shrinks_either (after k.Slash (keeps_pure _)) (after k.SlashSlash (keeps_pure _))

module _ (operator : Kind → Option Binary) {P : Lang Expr} (s : Shrinks P) where
  pub shrinks_operation : Shrinks (g.OperationOf operator P)
  shrinks_operation = shrinks_bind (shrinks_stands operator) (λ op. keeps_bind (keeps s) (λ x. keeps_pure _))

  pub shrinks_chain : Shrinks (g.Chain operator P)
  shrinks_chain = shrinks_bind s (λ x. keeps_bind (keeps_many (keeps shrinks_operation)) (λ xs. keeps_pure _))

  pub shrinks_once : Shrinks (g.AtMostOnce operator P)
  shrinks_once = shrinks_either s (shrinks_bind s (λ x. keeps_bind (keeps shrinks_operation) (λ y. keeps_pure _)))

module _ {S : Lang Expr} (s : Shrinks S) where
  single_done : {B : Type 0} {F : Expr → Lang B} → ((x : Expr) → Keeps (F x)) → Keeps (S ▹ F)
  single_done f = keeps_bind (keeps s) f

  pub shrinks_exprs : Shrinks (g.Exprs S)
  shrinks_exprs = shrinks_bind (shrinks_list1 s) (λ xs. keeps_pure _)

  pub keeps_content : Keeps (g.Content S)
  keeps_content = keeps_either (keeps_pure _) (keeps shrinks_exprs)

  shrinks_parens : Shrinks (g.Parens S)
  shrinks_parens = after k.OpenParen (keeps_bind keeps_content (λ x. past k.CloseParen (keeps_pure _)))

  pub shrinks_braces : Shrinks (g.Braces S)
  shrinks_braces = after k.OpenBrace (keeps_bind (keeps shrinks_exprs) (λ x. past k.CloseBrace (keeps_pure _)))

  pub shrinks_body : Shrinks (g.Body S)
  shrinks_body = after k.OpenBrace (keeps_bind keeps_content (λ x. past k.CloseBrace (keeps_pure _)))

  shrinks_call : Shrinks (g.Call S)
  shrinks_call = shrinks_bind (shrinks_such is_function) (λ f. past k.OpenParen (keeps_bind (keeps_list0 s) (λ xs. past k.CloseParen (keeps_pure _))))

  pub keeps_name_or_braces : Keeps (g.NameOrBraces S)
  keeps_name_or_braces = keeps (shrinks_either (shrinks_bind shrinks_name (λ x. keeps_pure _)) (shrinks_bind shrinks_braces (λ x. keeps_pure _)))

  shrinks_named : (kind : Kind) (make : NameOf Expr → Expr → Expr) → Shrinks (g.Named S kind make)
  shrinks_named kind make = after kind (keeps_bind keeps_name_or_braces (λ x. keeps_bind (keeps shrinks_body) (λ y. keeps_pure _)))

  shrinks_make : Shrinks (g.Make S)
  shrinks_make = shrinks_either (shrinks_bind (after k.Document (keeps shrinks_braces)) (λ x. keeps_pure _))
      (shrinks_either (shrinks_bind (after k.Text (keeps shrinks_braces)) (λ x. keeps_pure _))
      (shrinks_either (shrinks_bind (after k.Comment (keeps shrinks_braces)) (λ x. keeps_pure _))
      (shrinks_either (shrinks_named k.Element _) (shrinks_either (shrinks_named k.Attribute _) (shrinks_named k.ProcessingInstruction _)))))

  pub shrinks_primary : Shrinks (g.Primary S)
  shrinks_primary = shrinks_either (shrinks_bind (shrinks_tok k.Number) (λ t. keeps_pure _)) (shrinks_either (shrinks_bind (shrinks_tok k.String) (λ t. keeps_pure _))
      (shrinks_either (shrinks_bind shrinks_var (λ x. keeps_pure _)) (shrinks_either shrinks_parens (shrinks_either (after k.Dot (keeps_pure _))
      (shrinks_either shrinks_call shrinks_make)))))

  pub shrinks_predicate : Shrinks (g.Predicate S)
  shrinks_predicate = after k.OpenBracket (keeps_bind (keeps shrinks_exprs) (λ x. past k.CloseBracket (keeps_pure _)))

  pub shrinks_step : Shrinks (g.Step S)
  shrinks_step = shrinks_either (shrinks_bind shrinks_primary (λ x. keeps_bind (keeps_many (keeps shrinks_predicate)) (λ xs. keeps_pure _)))
      (shrinks_bind shrinks_axis (λ x. keeps_bind (keeps_many (keeps shrinks_predicate)) (λ xs. keeps_pure _)))

  pub shrinks_segment : Shrinks (g.Segment S)
  shrinks_segment = shrinks_bind shrinks_slash (λ deep. keeps_bind (keeps shrinks_step) (λ x. keeps_pure _))

  pub shrinks_path : Shrinks (g.Path S)
  shrinks_path = shrinks_bind shrinks_step (λ x. keeps_bind (keeps_many (keeps shrinks_segment)) (λ xs. keeps_pure _))

  pub shrinks_unary : Shrinks (g.Unary S)
  shrinks_unary = late_bind (keeps_many (keeps (shrinks_stands sign_of))) (λ signs. shrinks_bind shrinks_path (λ x. keeps_pure _))

  shrinks_or : Shrinks (g.Or S)
  shrinks_or = shrinks_chain or_operator (shrinks_chain and_operator (shrinks_once comparison_operator (shrinks_once range_operator
      (shrinks_chain add_operator (shrinks_chain multiply_operator (shrinks_chain union_operator (shrinks_chain intersect_operator shrinks_unary)))))))

  shrinks_if : Shrinks (g.If S)
  shrinks_if = after k.If (past k.OpenParen (keeps_bind (keeps shrinks_exprs) (λ c. past k.CloseParen (past k.Then (single_done (λ x. past k.Else (single_done (λ y. keeps_pure _))))))))

  pub shrinks_in : Shrinks (g.In S)
  shrinks_in = shrinks_bind shrinks_var (λ name. past k.In (single_done (λ x. keeps_pure _)))

  pub shrinks_set : Shrinks (g.Set S)
  shrinks_set = shrinks_bind shrinks_var (λ name. past k.Assign (single_done (λ x. keeps_pure _)))

  pub shrinks_for : Shrinks (g.Bind S)
  shrinks_for = shrinks_either (shrinks_bind shrinks_in (λ b. keeps_pure _))
      (shrinks_bind shrinks_var (λ name. past k.At (keeps_bind (keeps shrinks_var) (λ at. past k.In (single_done (λ x. keeps_pure _))))))

  pub shrinks_clauses : Shrinks (g.Clauses S)
  shrinks_clauses = shrinks_either (after k.For (keeps (shrinks_list1 shrinks_for))) (shrinks_bind (after k.Let (keeps (shrinks_list1 shrinks_set))) (λ sets. keeps_pure _))

  pub keeps_condition : Keeps (g.Where S)
  keeps_condition = keeps_either (keeps_pure _) (keeps (shrinks_bind (after k.Where (keeps s)) (λ x. keeps_pure _)))

  keeps_direction : Keeps (g.Direction S)
  keeps_direction = keeps_either (keeps_pure _) (keeps (shrinks_either (after k.Ascending (keeps_pure _)) (after k.Descending (keeps_pure _))))

  pub shrinks_key : Shrinks (g.Key S)
  shrinks_key = shrinks_bind s (λ x. keeps_bind keeps_direction (λ d. keeps_pure _))

  pub keeps_keys : Keeps (g.OrderBy S)
  keeps_keys = keeps_either (keeps_pure _) (keeps (shrinks_bind (after k.Order (keeps (shrinks_tok k.By))) (λ _. keeps (shrinks_list1 shrinks_key))))

  shrinks_flwor : Shrinks (g.Flwor S)
  shrinks_flwor = shrinks_bind shrinks_clauses (λ first. keeps_bind (keeps_many (keeps shrinks_clauses)) (λ others. keeps_bind keeps_condition (λ test.
      keeps_bind keeps_keys (λ keys. past k.Return (single_done (λ x. keeps_pure _))))))

  pub shrinks_which : Shrinks (g.WhichOf S)
  shrinks_which = shrinks_either (after k.Some (keeps_pure _)) (after k.Every (keeps_pure _))

  shrinks_quantified : Shrinks (g.Quant S)
  shrinks_quantified = shrinks_bind shrinks_which (λ w. keeps_bind (keeps (shrinks_list1 shrinks_in)) (λ bs. past k.Satisfies (single_done (λ x. keeps_pure _))))

  pub shrinks_nodes : Shrinks (g.NodeOrNodes S)
  shrinks_nodes = shrinks_either (shrinks_tok k.Node) (shrinks_tok k.Nodes)

  pub shrinks_place : Shrinks (g.PlaceOf S)
  shrinks_place = shrinks_either (after k.Into (keeps_pure _))
      (shrinks_either (shrinks_bind (shrinks_bind (after k.As (keeps (shrinks_tok k.First))) (λ _. keeps (shrinks_tok k.Into))) (λ _. keeps_pure _))
      (shrinks_either (shrinks_bind (shrinks_bind (after k.As (keeps (shrinks_tok k.Last))) (λ _. keeps (shrinks_tok k.Into))) (λ _. keeps_pure _))
      (shrinks_either (after k.After (keeps_pure _)) (after k.Before (keeps_pure _)))))

  shrinks_insert : Shrinks (g.Insert S)
  shrinks_insert = after k.Insert (keeps_bind (keeps shrinks_nodes) (λ _. single_done (λ x. keeps_bind (keeps shrinks_place) (λ place. single_done (λ y. keeps_pure _)))))

  shrinks_delete : Shrinks (g.Delete S)
  shrinks_delete = after k.Delete (keeps_bind (keeps shrinks_nodes) (λ _. single_done (λ x. keeps_pure _)))

  shrinks_replace : Shrinks (g.Replace S)
  shrinks_replace = shrinks_either (after k.Replace (past k.Node (single_done (λ x. past k.With (single_done (λ y. keeps_pure _))))))
      (after k.Replace (past k.Value (past k.Of (past k.Node (single_done (λ x. past k.With (single_done (λ y. keeps_pure _))))))))

  shrinks_rename : Shrinks (g.Rename S)
  shrinks_rename = after k.Rename (past k.Node (single_done (λ x. past k.As (single_done (λ y. keeps_pure _)))))

  shrinks_copy : (level : ℕ) → Shrinks (g.Copy S level)
  shrinks_copy level = record {
    shorter = λ ts x rest h. (after k.Copy (keeps_bind (keeps (shrinks_list1 shrinks_set)) (λ bs. past k.Modify
        (single_done (λ c. past k.Return (single_done (λ r. keeps_pure _))))))).shorter ts x rest h.1;
  }

  pub shrinks_forms : (level : ℕ) → Shrinks (g.Flwor S ∪ (g.Quant S ∪ (g.If S ∪ (g.Insert S ∪ (g.Delete S ∪ (g.Replace S ∪ (g.Rename S ∪ (g.Copy S level ∪ g.Or S))))))))
  shrinks_forms level = shrinks_either shrinks_flwor (shrinks_either shrinks_quantified (shrinks_either shrinks_if (shrinks_either shrinks_insert (shrinks_either shrinks_delete
      (shrinks_either shrinks_replace (shrinks_either shrinks_rename (shrinks_either (shrinks_copy level) shrinks_or)))))))

pub shrinks_single : (level n : ℕ) → Shrinks (g.SingleOf level n)
shrinks_single level zero = record { shorter = λ ts x rest h. absurd h }
shrinks_single level (suc n) = shrinks_forms (shrinks_single level n) level

-- The kind of the first token passes the test.
pub record Begins {A : Type 0} (test : Kind → Bool) (P : Lang A) : Type 0 where
  pub first : (ts : List Token) (a : A) (rest : List Token) → P ts a rest → test (kind_at 0 ts) ≡ true

pub begins_tok : (test : Kind → Bool) (kind : Kind) → test kind ≡ true → Begins test (tok kind)
begins_tok test kind e = record { first = λ ts t rest h. ap (λ us. test (kind_at 0 us)) h.0 ∙ ap test h.1 ∙ e }

pub begins_such : (test p : Kind → Bool) → ((kind : Kind) → p kind ≡ true → test kind ≡ true) → Begins test (such p)
begins_such test p f = record { first = λ ts t rest h. ap (λ us. test (kind_at 0 us)) h.0 ∙ f t.kind h.1 }

pub begins_stands : {A : Type 0} (test : Kind → Bool) (f : Kind → Option A) → ((kind : Kind) (a : A) → f kind ≡ Some a → test kind ≡ true) → Begins test (stands f)
begins_stands test f g = record { first = λ ts a rest h. ap (λ us. test (kind_at 0 us)) h.1 ∙ g _ a h.2 }

pub begins_bind : {A B : Type 0} {test : Kind → Bool} {P : Lang A} {F : A → Lang B} → Begins test P → Begins test (P ▹ F)
begins_bind s = record { first = λ ts b rest h. s.first ts h.0 h.1 h.2 }

pub begins_either : {A : Type 0} {test : Kind → Bool} {P Q : Lang A} → Begins test P → Begins test Q → Begins test (P ∪ Q)
begins_either s t = record { first = λ ts a rest h. ⊎_elim (s.first ts a rest) (t.first ts a rest) h }

begins_many : {A B : Type 0} {test : Kind → Bool} {P : Lang A} {F : List A → Lang B} → Begins test P → ((xs : List A) → Begins test (F xs)) → Begins test (Many P ▹ F)
begins_many {test = test} {P = P} {F = F} s f = record { first = λ ts b rest h. go h.0 ts h.1 b rest h.2 h.3 }
  where
    go : (xs : List _) (ts mid : List Token) (b : _) (rest : List Token) → Many P ts xs mid → F xs mid b rest → test (kind_at 0 ts) ≡ true
    go [] ts mid b rest h i = ap (λ us. test (kind_at 0 us)) h ∙ (f []).first mid b rest i
    go (x ∷ xs) ts mid b rest h i = s.first ts x h.0 h.1

begins_more : {A : Type 0} {test other : Kind → Bool} {P : Lang A} → ((kind : Kind) → test kind ≡ true → other kind ≡ true) → Begins test P → Begins other P
begins_more f s = record { first = λ ts a rest h. f _ (s.first ts a rest h) }

-- what begins a path
unfoldable pub starts_path : Kind → Bool
starts_path k.Number = true
starts_path k.String = true
starts_path k.Dollar = true
starts_path k.OpenParen = true
starts_path k.Dot = true
starts_path k.DotDot = true
starts_path k.AtSign = true
starts_path k.Star = true
starts_path kind = is_name_kind kind

-- what begins an expression
unfoldable pub starts : Kind → Bool
starts k.Plus = true
starts k.Minus = true
starts kind = starts_path kind

name_starts : (kind : Kind) → is_name_kind kind ≡ true → starts_path kind ≡ true
unfolding starts_path
name_starts k.Number h = refl
name_starts k.String h = refl
name_starts k.Dollar h = refl
name_starts k.OpenParen h = refl
name_starts k.Dot h = refl
name_starts k.DotDot h = refl
name_starts k.AtSign h = refl
name_starts k.Star h = refl
name_starts _ h = h

path_starts : (kind : Kind) → starts_path kind ≡ true → starts kind ≡ true
unfolding starts
path_starts k.Plus h = refl
path_starts k.Minus h = refl
path_starts _ h = h

pub function_name : (kind : Kind) → is_function kind ≡ true → is_name_kind kind ≡ true
function_name k.If h = refl
function_name k.Node h = refl
function_name k.DocumentNode h = refl
function_name k.Element h = refl
function_name k.Text h = refl
function_name k.Comment h = refl
function_name k.ProcessingInstruction h = refl
function_name _ h = h

pub axis_name : (kind : Kind) (a : Axis) → axis_of kind ≡ Some a → is_name_kind kind ≡ true
axis_name k.Child a h = refl
axis_name k.Descendant a h = refl
axis_name k.DescendantOrSelf a h = refl
axis_name k.SelfAxis a h = refl
axis_name k.Attribute a h = refl
axis_name k.Parent a h = refl
axis_name k.Ancestor a h = refl
axis_name k.FollowingSibling a h = refl
axis_name k.PrecedingSibling a h = refl
axis_name _ a h = absurd (let e : ⊥ = cc in e)

pub kind_test_name : (kind : Kind) (x : KindTest) → kind_test_of kind ≡ Some x → is_name_kind kind ≡ true
kind_test_name k.Node x h = refl
kind_test_name k.DocumentNode x h = refl
kind_test_name k.Element x h = refl
kind_test_name k.Text x h = refl
kind_test_name k.Comment x h = refl
kind_test_name k.ProcessingInstruction x h = refl
kind_test_name _ x h = absurd (let e : ⊥ = cc in e)

sign_starts : (kind : Kind) (x : Sign) → sign_of kind ≡ Some x → starts kind ≡ true
unfolding starts
sign_starts k.Plus x h = refl
sign_starts k.Minus x h = refl
sign_starts _ x h = absurd (let e : ⊥ = cc in e)

begins_name : Begins starts_path g.Name
begins_name = begins_bind (begins_such starts_path is_name_kind name_starts)

begins_mark : {B : Type 0} {F : Token → Lang B} (kind : Kind) → starts_path kind ≡ true → Begins starts_path (tok kind ▹ F)
begins_mark kind e = begins_bind (begins_tok starts_path kind e)

begins_test : Begins starts_path g.Test
unfolding starts_path
begins_test = begins_either (begins_bind begins_name) (begins_either (begins_mark k.Star refl)
    (begins_bind (begins_stands starts_path kind_test_of (λ kind x h. name_starts kind (kind_test_name kind x h)))))

begins_axis : Begins starts_path g.AxisOf
unfolding starts_path
begins_axis = begins_either (begins_bind (begins_stands starts_path axis_of (λ kind a h. name_starts kind (axis_name kind a h))))
    (begins_either (begins_mark k.AtSign refl) (begins_either (begins_bind begins_test) (begins_mark k.DotDot refl)))

module _ (S : Lang Expr) where
  make_word : {F : Token → Lang Expr} (kind : Kind) → is_name_kind kind ≡ true → Begins is_name_kind (tok kind ▹ F)
  make_word kind e = begins_bind (begins_tok is_name_kind kind e)

  make_of : {F : Token → Lang Expr} {G : Expr → Lang Expr} (kind : Kind) → is_name_kind kind ≡ true → Begins is_name_kind ((tok kind ▹ F) ▹ G)
  make_of kind e = begins_bind (make_word kind e)

  pub begins_make : Begins is_name_kind (g.Make S)
  begins_make = begins_either (make_of k.Document refl) (begins_either (make_of k.Text refl) (begins_either (make_of k.Comment refl)
      (begins_either (make_word k.Element refl) (begins_either (make_word k.Attribute refl) (make_word k.ProcessingInstruction refl)))))

  begins_primary : Begins starts_path (g.Primary S)
  unfolding starts_path
  begins_primary = begins_either (begins_mark k.Number refl) (begins_either (begins_mark k.String refl) (begins_either (begins_bind (begins_mark k.Dollar refl))
      (begins_either (begins_mark k.OpenParen refl) (begins_either (begins_mark k.Dot refl)
      (begins_either (begins_bind (begins_such starts_path is_function (λ kind h. name_starts kind (function_name kind h))))
      (begins_either (begins_bind (begins_mark k.Document refl)) (begins_either (begins_bind (begins_mark k.Text refl)) (begins_either (begins_bind (begins_mark k.Comment refl))
      (begins_either (begins_mark k.Element refl) (begins_either (begins_mark k.Attribute refl) (begins_mark k.ProcessingInstruction refl)))))))))))

  pub begins_path : Begins starts_path (g.Path S)
  begins_path = begins_bind (begins_either (begins_bind begins_primary) (begins_bind begins_axis))

  pub begins_unary : Begins starts (g.Unary S)
  begins_unary = begins_many (begins_stands starts sign_of sign_starts) (λ signs. begins_bind (begins_more path_starts begins_path))

  begins_word : {B : Type 0} {F : Token → Lang B} (kind : Kind) → starts kind ≡ true → Begins starts (tok kind ▹ F)
  begins_word kind e = begins_bind (begins_tok starts kind e)

  begins_copy : (level : ℕ) → Begins starts (g.Copy S level)
  unfolding starts starts_path
  begins_copy level = record { first = λ ts x rest h. (begins_tok starts k.Copy refl).first ts h.1.0 h.1.1 h.1.2 }

  pub begins_forms : (level : ℕ) → Begins starts (g.Flwor S ∪ (g.Quant S ∪ (g.If S ∪ (g.Insert S ∪ (g.Delete S ∪ (g.Replace S ∪ (g.Rename S ∪ (g.Copy S level ∪ g.Or S))))))))
  unfolding starts starts_path
  begins_forms level = begins_either (begins_bind (begins_either (begins_word k.For refl) (begins_bind (begins_word k.Let refl))))
      (begins_either (begins_bind (begins_either (begins_word k.Some refl) (begins_word k.Every refl)))
      (begins_either (begins_word k.If refl) (begins_either (begins_word k.Insert refl) (begins_either (begins_word k.Delete refl)
      (begins_either (begins_either (begins_word k.Replace refl) (begins_word k.Replace refl)) (begins_either (begins_word k.Rename refl)
      (begins_either (begins_copy level) begins_or)))))))
    where
      begins_add : Begins starts (g.Add S)
      begins_add = begins_bind (begins_bind (begins_bind (begins_bind begins_unary)))

      begins_range : Begins starts (g.Range S)
      begins_range = begins_either begins_add (begins_bind begins_add)

      begins_or : Begins starts (g.Or S)
      begins_or = begins_bind (begins_bind (begins_either begins_range (begins_bind begins_range)))

pub begins_single : (level n : ℕ) → Begins starts (g.SingleOf level n)
begins_single level zero = record { first = λ ts x rest h. absurd h }
begins_single level (suc n) = begins_forms (g.SingleOf level n) level
