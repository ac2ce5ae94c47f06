-- What `return` gives at one item.
use Rattle.std.proofs.Common.{◌≡◌, ◌∙◌, ◌-◌, ◌++◌, ℕ, zero, suc, Bool, true, false, cond, List, [], ◌∷◌, Option, Result, Ok, Err, OnOk, IfErr, refl, ap, sym, subst, option_map, arith}
use Rattle.std.proofs.lemmas.List.Elements.{All-append}
use Rattle.fault_codes.specs.declared.code.Code.{Code}
use Rattle.fault_codes.specs.declared.code.Code.TheVariants.{PXQ0002}
use Rattle.values.specs.Items.{IsThere}
use Rattle.values.specs.declared.atom.Item.{Item}
use Rattle.values.specs.declared.fault.ValueFault.{ValueFault}
use Rattle.values.specs.declared.fault.ValueFault.TheVariants as fault
use Rattle.query_grammar.specs.declared.ast.Expr.{Expr}
use Rattle.query_meaning.specs.Environment.{Bound, Environment, with_variable}
use Rattle.query_meaning.specs.Meaning.{mean}
use Rattle.query_meaning.specs.Running.{M, Run, and_then, ◌>>=◌, come_to, joined, trees_of, turn, within}
use Rattle.query_meaning.specs.Sequences.{Meaning, and_items, if_so, returned, tested}
use Rattle.evaluation.specs.Gives.{Any, Fails, Gives, GivesIn, Grows, Says, Stand, Turns}
use Rattle.evaluation.proofs.Each.{grows_refl, grows_then, then_gives}
use Rattle.evaluation.proofs.Limits.{within_is}
use Rattle.item_expressions.specs.Applied.{given_one}
use Rattle.item_expressions.specs.Lasting.{stand_on}
use Rattle.item_expressions.specs.Looped.{leaving, returned_of}
use Rattle.item_expressions.specs.Others.{IsTest}
use Rattle.item_expressions.specs.Subjects.{IsVariable, OfSubject, StandsFor}
use Rattle.item_expressions.specs.declared.item_test.ItemTest.{ItemTest}

-- what is left of a list to which others were added
pub says_left : {A : Type 0} (w : Result A Code) (r : Result (Unit {0}) ValueFault) (left : A) → OnOk r (w ≡ Ok left) → IfErr r (λ found. Fails w found) → Says w (leaving r left)
says_left w (Ok u) left ok err = ok
says_left w (Err found) left ok err = err

-- items after others
pub joined_gives : (given items : List Item) (run : Run) (r : Result (List Item) ValueFault)
    → Stand given run → Stand items run → Says (within (given ++ items)) r → Gives (joined given items) run r run
joined_gives given items run (Ok xs) stand more says =
    (ap (λ o. come_to o run) says, (grows_refl run, subst (λ ys. Stand ys run) (sym (within_is (given ++ items) xs says)) (All-append (IsThere (trees_of run)) given items stand more)))
joined_gives given items run (Err fault.Memory) stand more says = tt
joined_gives given items run (Err (fault.Code code)) stand more says = ap (λ o. come_to o run) says

-- a turn loses none
pub grows_turned : (old new : Run) (u : Unit {0}) → Turns (Ok u) old new → Grows old new
grows_turned old new u turned = subst (λ run. Grows old run) (sym turned.0) (record { kept = λ i there. there })

-- a turn, and what follows it
pub turn_gives : {S : Type 0} (R : S → Run → Type 0) (m : M S) (old mid new : Run) (u : Unit {0}) (r : Result S ValueFault) → Turns (Ok u) old mid → GivesIn R m mid r new → GivesIn R (turn m) old r new
turn_gives R m old mid new u r turned g = by r g
  where
    same : turn m old ≡ m mid
    same = ap (λ t. cond t (Err PXQ0002) (m (record old { turns = old.turns - 1 }))) turned.1 ∙ ap m (sym turned.0)

    by : (r : Result _ ValueFault) → GivesIn R m mid r new → GivesIn R (turn m) old r new
    by (Ok s) g = (same ∙ g.0, (grows_then old mid new (grows_turned old mid u turned) g.1.0, g.1.1))
    by (Err fault.Memory) g = tt
    by (Err (fault.Code code)) g = same ∙ g

-- ---- `return` as a function of the item
module _ (x : Expr) (f : OfSubject) (variable : List ℕ) (item : Item) (env : Environment) (given : List Item) (old mid : Run) (is : f.expression ≡ x) (stands : IsVariable variable f.subject) where
  -- the variable is bound to the item
  abbrev here : Environment
  here = with_variable variable (item ∷ []) env

  at_item : (r : Result Item ValueFault) → ((e : Environment) → StandsFor f.subject item e → Gives (mean f.expression e) old (given_one r) mid) → Gives (mean x here) old (given_one r) mid
  at_item r means = subst (λ y. Gives (mean y here) old (given_one r) mid) is (means here (stands item env))

  pub item_returned : (made : Item) (left : List Item) (r : Result (Unit {0}) ValueFault)
      → ((e : Environment) → StandsFor f.subject item e → Gives (mean f.expression e) old (Ok (made ∷ [])) mid) → Stand given old
      → OnOk r (within (given ++ made ∷ []) ≡ Ok left) → IfErr r (λ found. Fails (within (given ++ made ∷ [])) found) → GivesIn Stand (and_items here given (mean x)) old (leaving r left) mid
  item_returned made left r means stand ok err =
      let gives = at_item (Ok made) means in
      then_gives Stand Stand (mean x here) (joined given) old mid mid (made ∷ []) (leaving r left) gives
      (joined_gives given (made ∷ []) mid (leaving r left) (stand_on given old mid gives.1.0 stand) gives.1.1 (says_left (within (given ++ made ∷ [])) r left ok err))

  pub item_fails : (found : ValueFault) → ((e : Environment) → StandsFor f.subject item e → Gives (mean f.expression e) old (Err found) mid) → Fails (and_items here given (mean x) old) found
  item_fails fault.Memory means = tt
  item_fails (fault.Code code) means = ap (λ r. and_then r (joined given)) (at_item (Err (fault.Code code)) means)

-- `where`, before `return`
module _ (test : Option Meaning) (m : Meaning) (env : Environment) (given : List Item) (old mid : Run) (value : Result Bool ValueFault) (g : GivesIn Any (tested test env) old value mid) where
  abbrev then_returned : Bool → M (List Item)
  then_returned b = if_so b (m env >>= joined given) given

  abbrev Tests : Result Bool ValueFault → Type 0
  Tests v = GivesIn Any (tested test env) old v mid

  pub is_tested : (b : Bool) → value ≡ Ok b → Grows old mid
  is_tested b is = (subst Tests is g).1.0

  pub passes : (new : Run) (r : Result (List Item) ValueFault) → value ≡ Ok true → GivesIn Stand (and_items env given m) mid r new → GivesIn Stand (returned test m env given) old r new
  passes new r is h = then_gives Any Stand (tested test env) then_returned old mid new true r (subst Tests is g) h

  pub fails : value ≡ Ok false → Stand given old → GivesIn Stand (returned test m env given) old (Ok given) mid
  fails is stand = then_gives Any Stand (tested test env) then_returned old mid mid false (Ok given) (subst Tests is g) (refl, (grows_refl mid, stand_on given old mid (is_tested false is) stand))

  pub stops : (found : ValueFault) → value ≡ Err found → Fails (returned test m env given old) found
  stops fault.Memory is = tt
  stops (fault.Code code) is = let failed : tested test env old ≡ Err code = subst Tests is g in ap (λ r. and_then r then_returned) failed

-- ---- one item of a `for` clause, in its turn
module _ (test : Option Expr) (x : Expr) (v : List ℕ) (others : List Bound) (env : Environment) (given : List Item) (item seen : Item) (t : ItemTest) (old mid : Run) (u : Unit {0})
    (turned : Turns (Ok u) old mid) (same : seen ≡ item) where
  pub test_in_turn : IsTest (trees_of old) test v others t → IsTest (trees_of mid) test v others t
  test_in_turn is = let P : Run → Type 0 = λ run. IsTest (trees_of run) test v others t in subst P (sym turned.0) is

  abbrev at : Item → Environment
  at y = with_variable v (y ∷ []) env

  abbrev Tells : Result Bool ValueFault → Run → Item → Type 0
  Tells r new y = GivesIn Any (tested (option_map mean test) (at y)) mid r new

  abbrev then : M (List Item)
  then = returned (option_map mean test) (mean x) (at item) given

  pub item_stops : (new : Run) (found : ValueFault) → Tells (Err found) new seen → Fails (returned_of test x v env given item old) found
  item_stops new found g =
      let h : Tells (Err found) new item = subst (Tells (Err found) new) same g in
      turn_gives Stand then old mid new u (Err found) turned (stops (option_map mean test) (mean x) (at item) given mid new (Err found) h found refl)

  pub item_dropped : (new : Run) → Stand given old → Tells (Ok false) new seen → GivesIn Stand (returned_of test x v env given item) old (Ok given) new
  item_dropped new stand g =
      let h : Tells (Ok false) new item = subst (Tells (Ok false) new) same g in
      turn_gives Stand then old mid new u (Ok given) turned (fails (option_map mean test) (mean x) (at item) given mid new (Ok false) h refl (stand_on given old mid (grows_turned old mid u turned) stand))

  pub item_passes : (now new : Run) (r : Result (List Item) ValueFault) → Tells (Ok true) now seen → GivesIn Stand (and_items (at seen) given (mean x)) now r new → GivesIn Stand (returned_of test x v env given item) old r new
  item_passes now new r g k =
      let P : Item → Type 0 = λ y. GivesIn Stand (and_items (at y) given (mean x)) now r new in
      let h : Tells (Ok true) now item = subst (Tells (Ok true) now) same g in
      turn_gives Stand then old mid new u r turned (passes (option_map mean test) (mean x) (at item) given mid now (Ok true) h new r refl (subst P same k))

-- an item more
pub pushed_stand : (given : List Item) (made : Item) (left : List Item) (run : Run) (r : Result (Unit {0}) ValueFault) → Stand given run → IsThere (trees_of run) made
    → OnOk r (within (given ++ made ∷ []) ≡ Ok left) → OnOk r (Stand left run)
pushed_stand given made left run (Ok u) stand there says =
    let more : Stand (given ++ made ∷ []) run = All-append (IsThere (trees_of run)) given (made ∷ []) stand alone in
    subst (λ ys. Stand ys run) (sym (within_is (given ++ made ∷ []) left says)) more
  where
    alone : Stand (made ∷ []) run
    alone zero d h = there
    alone (suc k) d h = absurd (omega (arith, h))
pushed_stand given made left run (Err found) stand there says = tt
