-- What each form has where its parts have it, every expression has.
use Rattle.std.proofs.Common.{◌≡◌, ℕ, List, [], ◌∷◌, map, Option, Some, None, refl, subst, sym}
use Rattle.query_grammar.specs.declared.ast.Binding.{Binding}
use Rattle.query_grammar.specs.declared.ast.Clause.{Clause}
use Rattle.query_grammar.specs.declared.ast.Clause.TheVariants as clause
use Rattle.query_grammar.specs.declared.ast.Expr.{Expr, map-Expr}
use Rattle.query_grammar.specs.declared.ast.Expr.TheOpen.{Expr-F}
use Rattle.query_grammar.specs.declared.ast.Expr.TheFolds.{fold-roll-Expr, ind-Expr}
use Rattle.query_grammar.specs.declared.ast.Expr.TheViews.{roll-Expr}
use Rattle.query_grammar.specs.declared.ast.Name.TheVariants.{Written, Computed}
use Rattle.query_grammar.specs.declared.ast.Operation.{Operation}
use Rattle.query_grammar.specs.declared.ast.SortKey.{SortKey}
use Rattle.data_model.specs.declared.axis.Axis.{Axis}
use Rattle.query_grammar.specs.declared.ast.NodeTest.{NodeTest}
use Rattle.query_grammar.specs.declared.ast.Place.{Place}
use Rattle.query_grammar.specs.declared.ast.Quantifier.{Quantifier}
use Rattle.query_grammar.specs.declared.ast.Name.{Name}
use Rattle.query_grammar.specs.declared.ast.Sign.{Sign}
use Rattle.static_checks.specs.Parts.{source_of}
use Rattle.query_grammar.specs.declared.functions.Function.{Function}
use Rattle.query_meaning.specs.Sequences as sequences
use Rattle.query_meaning.specs.Operators as operators
use Rattle.query_meaning.specs.Paths as paths
use Rattle.query_meaning.specs.Functions as functions
use Rattle.query_meaning.specs.Constructors as constructors
use Rattle.query_meaning.specs.Updates as updates
use Rattle.query_meaning.specs.Copies as copies
use Rattle.query_meaning.specs.Sequences.{Meaning}
use Rattle.query_meaning.specs.Meaning.{form_of, meaning_of, mean}
use Rattle.query_meaning.specs.Running.{counted}
use Rattle.meaning_laws.proofs.Keeps.{Each}

-- of what holds a meaning
abbrev pub OfName : (Meaning → Type 0) → Name Meaning → Type 0
OfName G (Written text) = Unit {0}
OfName G (Computed m) = G m

abbrev pub OfTest : (Meaning → Type 0) → Option Meaning → Type 0
OfTest G None = Unit {0}
OfTest G (Some m) = G m

abbrev pub OfBinding : (Meaning → Type 0) → Binding Meaning → Type 0
OfBinding G b = G b.source

abbrev pub OfClause : (Meaning → Type 0) → Clause Meaning → Type 0
OfClause G c = G (source_of c)

abbrev pub OfKey : (Meaning → Type 0) → SortKey Meaning → Type 0
OfKey G key = G key.key

abbrev pub OfOperation : (Meaning → Type 0) → Operation Meaning → Type 0
OfOperation G x = G x.operand

-- a property of meanings, with a proof for each form, and that counting its work leaves it
pub record Forms (G : Meaning → Type 0) : Type 0 where
  pub counts : (m : Meaning) → G m → G (λ env. counted (m env))
  pub number : (n : ℕ) → G (sequences.number n)
  pub string : (text : List ℕ) → G (sequences.string text)
  pub variable : (x : List ℕ) → G (sequences.variable x)
  pub context_item : G sequences.context_item
  pub sequence : (ms : List Meaning) → Each G ms → G (sequences.sequence ms)
  pub call : (f? : Option Function) (ms : List Meaning) → Each G ms → G (functions.call f? ms)
  pub document_node : (m : Meaning) → G m → G (constructors.document m)
  pub element : (n : Name Meaning) (m : Meaning) → OfName G n → G m → G (constructors.element n m)
  pub attribute : (n : Name Meaning) (m : Meaning) → OfName G n → G m → G (constructors.attribute n m)
  pub text : (m : Meaning) → G m → G (constructors.text m)
  pub comment : (m : Meaning) → G m → G (constructors.comment m)
  pub instruction : (n : Name Meaning) (m : Meaning) → OfName G n → G m → G (constructors.instruction n m)
  pub axis_step : (a : Axis) (t : NodeTest) (ms : List Meaning) → Each G ms → G (paths.step a t ms)
  pub filter_of : (m : Meaning) (ms : List Meaning) → G m → Each G ms → G (paths.filter_of m ms)
  pub path : (m : Meaning) (ms : List Meaning) → G m → Each G ms → G (paths.path m ms)
  pub signed : (signs : List Sign) (m : Meaning) → G m → G (operators.signed signs m)
  pub chain : (m : Meaning) (xs : List (Operation Meaning)) → G m → Each (OfOperation G) xs → G (operators.chain m xs)
  pub conditional : (c x y : Meaning) → G c → G x → G y → G (sequences.conditional c x y)
  pub quantified : (w : Quantifier) (bs : List (Binding Meaning)) (m : Meaning) → Each (OfBinding G) bs → G m → G (sequences.quantified w bs m)
  pub flwor : (cs : List (Clause Meaning)) (test : Option Meaning) (keys : List (SortKey Meaning)) (m : Meaning) → Each (OfClause G) cs → OfTest G test → Each (OfKey G) keys → G m → G (sequences.flwor cs test keys m)
  pub insert : (source : Meaning) (at : Place) (target : Meaning) → G source → G target → G (updates.insert source at target)
  pub delete : (target : Meaning) → G target → G (updates.delete target)
  pub replace_node : (target source : Meaning) → G target → G source → G (updates.replace_node target source)
  pub replace_value : (target source : Meaning) → G target → G source → G (updates.replace_value target source)
  pub rename : (target name : Meaning) → G target → G name → G (updates.rename target name)
  pub copy : (bs : List (Binding Meaning)) (changes result : Meaning) → Each (OfBinding G) bs → G changes → G result → G (copies.copy bs changes result)

module _ (G : Meaning → Type 0) (form : Forms G) where
  abbrev Good : Expr → Type 0
  Good x = G (mean x)

  -- an expression that is good
  abbrev Proved : Type 0
  Proved = (x : Expr) × Good x

  meanings : (ys : List Proved) → Each G (map mean (map (λ (e : Proved). e.0) ys))
  meanings [] = tt
  meanings (y ∷ ys) = (y.1, meanings ys)

  -- of what holds an expression, under two functions, the first of which keeps the proof away
  each_part : {X Y Z : Type 0} (Q : Z → Type 0) (f : Y → Z) (g : X → Y) → ((x : X) → Q (f (g x))) → (xs : List X) → Each Q (map f (map g xs))
  each_part Q f g holds [] = tt
  each_part Q f g holds (x ∷ xs) = (holds x, each_part Q f g holds xs)

  abbrev IsClause : (Clause Expr → Clause Meaning) → (Clause Proved → Clause Expr) → Clause Proved → Type 0
  IsClause f g c = source_of (f (g c)) ≡ mean (source_of c).0

  clauses : (f : Clause Expr → Clause Meaning) (g : Clause Proved → Clause Expr) → ((b : Binding Proved) → IsClause f g (clause.For b)) → ((b : Binding Proved) (at : List ℕ) → IsClause f g (clause.ForAt b at))
      → ((b : Binding Proved) → IsClause f g (clause.Let b)) → (cs : List (Clause Proved)) → Each (OfClause G) (map f (map g cs))
  clauses f g for at let_ = each_part (OfClause G) f g (λ c. subst G (sym (is c)) (source_of c).1)
    where
      is : (c : Clause Proved) → IsClause f g c
      is (clause.For b) = for b
      is (clause.ForAt b x) = at b x
      is (clause.Let b) = let_ b

  abbrev mapped : Expr-F Proved → Expr-F Meaning
  mapped y = map-Expr Expr Meaning mean (map-Expr Proved Expr (λ e. e.0) y)

  layer : (y : Expr-F Proved) → G (form_of (mapped y))
  layer (Expr-F.Integer n) = form.number n
  layer (Expr-F.String text) = form.string text
  layer (Expr-F.Variable x) = form.variable x
  layer Expr-F.Context = form.context_item
  layer (Expr-F.Sequence ys) = form.sequence _ (meanings ys)
  layer (Expr-F.Call f ys) = form.call f _ (meanings ys)
  layer (Expr-F.Document y) = form.document_node _ y.1
  layer (Expr-F.Element (Written n) y) = form.element (Written n) _ tt y.1
  layer (Expr-F.Element (Computed x) y) = form.element (Computed (mean x.0)) _ x.1 y.1
  layer (Expr-F.Attribute (Written n) y) = form.attribute (Written n) _ tt y.1
  layer (Expr-F.Attribute (Computed x) y) = form.attribute (Computed (mean x.0)) _ x.1 y.1
  layer (Expr-F.Text y) = form.text _ y.1
  layer (Expr-F.Comment y) = form.comment _ y.1
  layer (Expr-F.Instruction (Written n) y) = form.instruction (Written n) _ tt y.1
  layer (Expr-F.Instruction (Computed x) y) = form.instruction (Computed (mean x.0)) _ x.1 y.1
  layer (Expr-F.Step axis test ys) = form.axis_step axis test _ (meanings ys)
  layer (Expr-F.Filter y ys) = form.filter_of _ _ y.1 (meanings ys)
  layer (Expr-F.Path y ys) = form.path _ _ y.1 (meanings ys)
  layer (Expr-F.Signed signs y) = form.signed signs _ y.1
  layer (Expr-F.Chain y xs) = form.chain _ _ y.1 (each_part (OfOperation G) _ _ (λ (x : Operation Proved). x.operand.1) xs)
  layer (Expr-F.If c x y) = form.conditional _ _ _ c.1 x.1 y.1
  layer (Expr-F.Quantified q bs y) = form.quantified q _ _ (each_part (OfBinding G) _ _ (λ (b : Binding Proved). b.source.1) bs) y.1
  layer (Expr-F.Flwor cs None keys y) = form.flwor _ None _ _ (clauses _ _ (λ b. refl) (λ b at. refl) (λ b. refl) cs) tt (each_part (OfKey G) _ _ (λ (k : SortKey Proved). k.key.1) keys) y.1
  layer (Expr-F.Flwor cs (Some t) keys y) = form.flwor _ (Some (mean t.0)) _ _ (clauses _ _ (λ b. refl) (λ b at. refl) (λ b. refl) cs) t.1 (each_part (OfKey G) _ _ (λ (k : SortKey Proved). k.key.1) keys) y.1
  layer (Expr-F.Insert source place target) = form.insert _ place _ source.1 target.1
  layer (Expr-F.Delete target) = form.delete _ target.1
  layer (Expr-F.ReplaceNode target source) = form.replace_node _ _ target.1 source.1
  layer (Expr-F.ReplaceValue target source) = form.replace_value _ _ target.1 source.1
  layer (Expr-F.Rename target name) = form.rename _ _ target.1 name.1
  layer (Expr-F.Copy bs changes y) = form.copy _ _ _ (each_part (OfBinding G) _ _ (λ (b : Binding Proved). b.source.1) bs) changes.1 y.1

  pub every : (x : Expr) → Good x
  unfolding mean
  every = ind-Expr Good (λ x y is. subst (λ z. Good (roll-Expr z)) is
      (subst G (sym (fold-roll-Expr Meaning meaning_of (map-Expr Proved Expr (λ e. e.0) y))) (form.counts (form_of (mapped y)) (layer y))))
