-- What `where` tests, where a variable is bound to an item after all others.
use Rattle.std.proofs.Common.{Bor, ◌≡◌, ℕ, List, [], ◌∷◌, Bool, true, option_map, Option, None, Some, Result, Ok, Err, refl, ap, sym, ◌∙◌, subst}
use Rattle.values.specs.Atoms.{truth}
use Rattle.values.specs.declared.atom.Item.{Item}
use Rattle.values.specs.declared.fault.ValueFault.{ValueFault}
use Rattle.values.specs.declared.fault.ValueFault.TheVariants as fault
use Rattle.query_grammar.specs.declared.ast.Expr.{Expr}
use Rattle.data_model.specs.Trees.{Trees}
use Rattle.query_meaning.specs.Environment.{Bound, Environment, looked_at, value_in, with_variable}
use Rattle.query_meaning.specs.Meaning.{mean}
use Rattle.query_meaning.specs.Running.{Run, and_then, come_to}
use Rattle.query_meaning.specs.Sequences.{Meaning, tested}
use Rattle.evaluation.specs.Gives.{Any, Gives, GivesIn}
use Rattle.evaluation.proofs.Each.{grows_refl}
use Rattle.item_expressions.specs.Compared.{said}
use Rattle.item_expressions.specs.Joined.{OfVariables}
use Rattle.item_expressions.specs.Others.{CanTest, IsTest}
use Rattle.item_expressions.specs.Subjects.{IsVariable, OfSubject, StandsFor}
use Rattle.item_expressions.specs.declared.item_test.ItemTest.{ItemTest}
use Rattle.item_expressions.specs.declared.item_test.ItemTest.TheVariants as of
use Rattle.item_expressions.specs.declared.variable_comparison.OtherItem.{OtherItem}
use Rattle.item_expressions.specs.declared.subject.Subject.{Subject}

-- the truth of what it gives
pub truth_of_said : (m : Meaning) (env : Environment) (old new : Run) (r : Result Bool ValueFault) → Gives (m env) old (said r) new → GivesIn Any (tested (Some m) env) old r new
truth_of_said m env old new (Ok b) g = (ap (λ o. and_then o (λ items. come_to (truth items))) g.0, (g.1.0, tt))
truth_of_said m env old new (Err fault.Memory) g = tt
truth_of_said m env old new (Err (fault.Code code)) g = ap (λ o. and_then o (λ items. come_to (truth items))) g

truth_of_test : (test : Option Expr) (x : Expr) (env : Environment) (old new : Run) (r : Result Bool ValueFault) → Some x ≡ test
    → Gives (mean x env) old (said r) new → GivesIn Any (tested (option_map mean test) env) old r new
truth_of_test test x env old new r is g =
    let P : Option Expr → Type 0 = λ o. GivesIn Any (tested (option_map mean o) env) old r new in
    subst P is (truth_of_said (mean x) env old new r g)

-- a comparison of the variable with a literal
module _ (test : Option Expr) (variable : List ℕ) (item : Item) (others : List Bound) (old new : Run) (r : Result Bool ValueFault) where
  pub holds_as : (s : Subject) (x : Expr) → Some x ≡ test → IsVariable variable s → ((env : Environment) → StandsFor s item env → Gives (mean x env) old (said r) new)
      → (env : Environment) → env.variables ≡ others → GivesIn Any (tested (option_map mean test) (with_variable variable (item ∷ []) env)) old r new
  holds_as s x is stands given env around = truth_of_test test x (with_variable variable (item ∷ []) env) old new r is (given (with_variable variable (item ∷ []) env) (stands item env))

  -- with another variable
  pub joined_as : (last : List ℕ) (x : Expr) → Some x ≡ test → last ≡ variable
      → ((env : Environment) → env.variables ≡ record { variable = last; items = item ∷ [] } ∷ others → Gives (mean x env) old (said r) new)
      → (env : Environment) → env.variables ≡ others → GivesIn Any (tested (option_map mean test) (with_variable variable (item ∷ []) env)) old r new
  joined_as last x is same given env around =
      truth_of_test test x (with_variable variable (item ∷ []) env) old new r is
      (given (with_variable variable (item ∷ []) env) (ap (λ bs. record { variable = variable; items = item ∷ [] } ∷ bs) around ∙ ap (λ v. record { variable = v; items = item ∷ [] } ∷ others) (sym same)))

-- no test
pub none_holds : (test : Option Expr) (variable : List ℕ) (item : Item) (others : List Bound) (old : Run) → None ≡ test
    → (env : Environment) → env.variables ≡ others → GivesIn Any (tested (option_map mean test) (with_variable variable (item ∷ []) env)) old (Ok true) old
none_holds test variable item others old none env around =
    let P : Option Expr → Type 0 = λ o. GivesIn Any (tested (option_map mean o) (with_variable variable (item ∷ []) env)) old (Ok true) old in
    subst P none (refl, (grows_refl old, tt))

-- ---- a test of each item
module _ (ts : Trees) (test : Option Expr) (variable : List ℕ) (others : List Bound) (item : Item) (old new : Run) (env : Environment) (around : env.variables ≡ others) where
  abbrev Holds : Run → Result Bool ValueFault → Type 0
  Holds run r = GivesIn Any (tested (option_map mean test) (with_variable variable (item ∷ []) env)) old r run

  pub always : (t : ItemTest) → t ≡ of.Holds → IsTest ts test variable others t → Holds old (Ok true)
  always t is h = let none : test ≡ None = subst (IsTest ts test variable others) is h in none_holds test variable item others old (sym none) env around

  pub compared : (t : ItemTest) (m : Bor OfSubject) (r : Result Bool ValueFault) → t ≡ of.Compared m → ((e : Environment) → StandsFor m.now.subject item e → Gives (mean m.now.expression e) old (said r) new)
      → IsTest ts test variable others t → Holds new r
  compared t m r is given h =
      let k : IsTest ts test variable others (of.Compared m) = subst (IsTest ts test variable others) is h in
      holds_as test variable item others old new r m.now.subject m.now.expression k.0 k.1 given env around

  pub joined : (t : ItemTest) (m : Bor OfVariables) (o : OtherItem) (r : Result Bool ValueFault) → t ≡ of.Joined m o
      → ((bs : List Bound) (e : Environment) → value_in m.now.other bs ≡ Some (o.item.item.now ∷ []) → o.looked ≡ looked_at m.now.other bs → e.variables ≡ record { variable = m.now.variable; items = item ∷ [] } ∷ bs
      → Gives (mean m.now.expression e) old (said r) new)
      → IsTest ts test variable others t → Holds new r
  joined t m o r is given h =
      let k : IsTest ts test variable others (of.Joined m o) = subst (IsTest ts test variable others) is h in
      joined_as test variable item others old new r m.now.variable m.now.expression k.0 k.1.0 (λ e same. given others e k.1.1.found k.1.1.looked same) env around

  pub told : (t : ItemTest) (f : Bor OfSubject) (r : Result Bool ValueFault) → t ≡ of.Told f → ((e : Environment) → StandsFor f.now.subject item e → GivesIn Any (tested (Some (mean f.now.expression)) e) old r new)
      → IsTest ts test variable others t → Holds new r
  told t f r is given h =
      let k : IsTest ts test variable others (of.Told f) = subst (IsTest ts test variable others) is h in
      let P : Option Expr → Type 0 = λ o. GivesIn Any (tested (option_map mean o) (with_variable variable (item ∷ []) env)) old r new in
      subst P k.0 (given (with_variable variable (item ∷ []) env) (k.1 item env))

-- a test of another name is that of this one
pub joined_test : (ts : Trees) (test : Option Expr) (variable : List ℕ) (others : List Bound) (x : Expr) (last : List ℕ) (t : ItemTest) → Some x ≡ test → last ≡ variable
    → IsTest ts (Some x) last others t → IsTest ts test variable others t
joined_test ts test variable others x last t is same h =
    let P : List ℕ → Type 0 = λ v. IsTest ts test v others t in
    let Q : Option Expr → Type 0 = λ o. IsTest ts o last others t in
    subst P same (subst Q is h)

pub can_test : (ts : Trees) (test : Option Expr) (variable : List ℕ) (others : List Bound) (t : ItemTest) → IsTest ts test variable others t → CanTest ts t
can_test ts test variable others of.Holds h = tt
can_test ts test variable others (of.Compared m) h = tt
can_test ts test variable others (of.Told f) h = tt
can_test ts test variable others (of.Joined m o) h = (h.1.1.read, h.1.1.few)
