-- One item, whose tuple is kept where it passes a test.
use Rattle.std.proofs.Common.{◌≡◌, ◌∙◌, ℕ, Bool, true, false, List, [], ◌∷◌, length, map, option_map, Option, Result, Ok, Err, OnOk, IfErr, refl, ap, sym, subst}
use Rattle.std.proofs.lemmas.List.{length-map}
use Rattle.values.specs.Items.{IsThere}
use Rattle.values.specs.declared.atom.Atom.{Atom}
use Rattle.values.specs.declared.atom.Item.{Item}
use Rattle.values.specs.declared.fault.ValueFault.{ValueFault}
use Rattle.values.specs.declared.fault.ValueFault.TheVariants as fault
use Rattle.query_grammar.specs.declared.ast.Expr.{Expr}
use Rattle.query_grammar.specs.declared.ast.SortKey.{SortKey}
use Rattle.query_meaning.specs.Environment.{Bound, Environment, with_variable}
use Rattle.query_meaning.specs.Meaning.{mean}
use Rattle.query_meaning.specs.Running.{M, Run, and_then, ◌>>=◌, come_to, trees_of}
use Rattle.query_meaning.specs.Sequences.{Meaning, Tuple, and_tuple, if_so, kept_tuple, keys_in, tested}
use Rattle.evaluation.specs.Gives.{Any, Fails, GivesIn, Grows, IsReady, Turns}
use Rattle.evaluation.proofs.Each.{grows_refl, grows_then, then_gives}
use Rattle.sorted_tuples.specs.Keys.{AreKept, sort_key_of}
use Rattle.item_expressions.specs.Lasting.{ready_on, there_on}
use Rattle.item_expressions.specs.Looped.{leaving}
use Rattle.item_expressions.specs.Others.{IsTest}
use Rattle.item_expressions.specs.Subjects.{OfSubject}
use Rattle.item_expressions.specs.declared.item_test.ItemTest.{ItemTest}
use Rattle.item_expressions.proofs.Returned.{grows_turned, says_left, turn_gives}
use Rattle.clause_walks.proofs.Values.{one_there, ready_with}
use Rattle.keyed_items.specs.Keyed.{AreKeys, and_tuple_of, kept_of, keys_of}
use Rattle.keyed_items.specs.Lasting.{kept_grows}
use Rattle.keyed_items.proofs.Kept.{more_kept, tested_kept, tuple_kept}
use Rattle.keyed_items.proofs.Making.{keys_given}

-- as many functions as keys
pub as_many : (keys : List (SortKey Expr)) (fs : List OfSubject) → AreKeys keys fs → length keys ≡ length fs
as_many keys fs are = sym (length-map keys (λ (k : SortKey Expr). k.key)) ∙ ap length are ∙ length-map fs (λ (f : OfSubject). f.expression)

-- turns and work alone lose nothing
grows_same : (old new : Run) → new ≡ record old { turns = new.turns; work = new.work } → Grows old new
grows_same old new same = subst (λ run. Grows old run) (sym same) (record { kept = λ i there. there })

pub kept_on : (n : ℕ) (ts : List Tuple) (old new : Run) → AreKept n ts old → new ≡ record old { turns = new.turns; work = new.work } → AreKept n ts new
kept_on n ts old new h same = kept_grows n ts old new (grows_same old new same) h

ready_same : (env : Environment) (old new : Run) → IsReady env old → new ≡ record old { turns = new.turns; work = new.work } → IsReady env new
ready_same env old new h same = ready_on env old new (grows_same old new same) h

-- a test after a turn
pub test_turned : (test : Option Expr) (v : List ℕ) (others : List Bound) (t : ItemTest) (old mid : Run) (u : Unit {0}) → Turns (Ok u) old mid → IsTest (trees_of old) test v others t → IsTest (trees_of mid) test v others t
test_turned test v others t old mid u turned is = let P : Run → Type 0 = λ run. IsTest (trees_of run) test v others t in subst P (sym turned.0) is

-- the tuples that are kept
pub kept_more : (v : List ℕ) (item : Item) (env place : Environment) (given left : List Tuple) (ks : List (Option Atom)) (n : ℕ) (old new : Run) (r : Result (Unit {0}) ValueFault)
    → IsReady env old → IsThere (trees_of old) item → AreKept n given old → new ≡ record old { turns = new.turns; work = new.work } → length ks ≡ n → place ≡ with_variable v (item ∷ []) env
    → OnOk r (and_tuple place given ks ≡ Ok left) → OnOk r (AreKept n left new)
kept_more v item env place given left ks n old new (Ok u) ready there kept same wide is added =
    let here : IsReady (with_variable v (item ∷ []) env) old = ready_with v (item ∷ []) env old ready (one_there item old there) in
    let P : Environment → Type 0 = λ e. IsReady e old in
    more_kept n place given left ks new (ready_same place old new (subst P (sym is) here) same) (kept_on n given old new kept same) wide added
kept_more v item env place given left ks n old new (Err found) ready there kept same wide is added = tt

module _ (test : Option Expr) (keys : List (SortKey Expr)) (fs : List OfSubject) (v : List ℕ) (env : Environment) (given : List Tuple) (item seen : Item) (old mid : Run) (u : Unit {0})
    (turned : Turns (Ok u) old mid) (same : seen ≡ item) where
  abbrev at : Item → Environment
  at y = with_variable v (y ∷ []) env

  abbrev Tells : Result Bool ValueFault → Run → Item → Type 0
  Tells r new y = GivesIn Any (tested (option_map mean test) (at y)) mid r new

  abbrev sorts : List (SortKey Meaning)
  sorts = map (sort_key_of mean) keys

  abbrev then : M (List Tuple)
  then = kept_tuple (option_map mean test) sorts (at item) given

  abbrev passed : Bool → M (List Tuple)
  passed b = if_so b (keys_in sorts (at item) >>= (λ ks. come_to (and_tuple (at item) given ks))) given

  failing : (found : ValueFault) → Fails (tested (option_map mean test) (at item) mid) found → Fails (then mid) found
  failing fault.Memory g = tt
  failing (fault.Code code) g = ap (λ r. and_then r passed) g

  pub tuple_stops : (new : Run) (found : ValueFault) → Tells (Err found) new seen → Fails (kept_of test keys v env given item old) found
  tuple_stops new found g = turn_gives (AreKept (length fs)) then old mid new u (Err found) turned (failing found (subst (Tells (Err found) new) same g))

  pub tuple_dropped : (new : Run) → AreKept (length fs) given old → Tells (Ok false) new seen → GivesIn (AreKept (length fs)) (kept_of test keys v env given item) old (Ok given) new
  tuple_dropped new kept g =
      let h : Tells (Ok false) new item = subst (Tells (Ok false) new) same g in
      let grown = grows_then old mid new (grows_turned old mid u turned) h.1.0 in
      turn_gives (AreKept (length fs)) then old mid new u (Ok given) turned
      (then_gives Any (AreKept (length fs)) (tested (option_map mean test) (at item)) passed mid new new false (Ok given) h (refl, (grows_refl new, kept_grows (length fs) given old new grown kept)))

  passing : (now new : Run) (r : Result (List Tuple) ValueFault) → Tells (Ok true) now seen → GivesIn (AreKept (length fs)) (and_tuple_of sorts (at item) given) now r new → GivesIn (AreKept (length fs)) (kept_of test keys v env given item) old r new
  passing now new r g h =
      let k : Tells (Ok true) now item = subst (Tells (Ok true) now) same g in
      turn_gives (AreKept (length fs)) then old mid new u r turned (tested_kept (length fs) (option_map mean test) sorts (at item) (at item) given mid now new true r refl refl k h)

  module _ (are : AreKeys keys fs) (now new : Run) where
    abbrev Keyed : Result (List (Option Atom)) ValueFault → Item → Type 0
    Keyed r y = GivesIn Any (keys_of (at y) fs) now r new

    pub tuple_unkeyed : (found : ValueFault) → Tells (Ok true) now seen → Keyed (Err found) seen → Fails (kept_of test keys v env given item old) found
    tuple_unkeyed found g h = passing now new (Err found) g (unkeyed found (keys_given (at item) keys fs now new (Err found) are (subst (Keyed (Err found)) same h)))
      where
        unkeyed : (found : ValueFault) → Fails (keys_in sorts (at item) now) found → Fails (and_tuple_of sorts (at item) given now) found
        unkeyed fault.Memory g = tt
        unkeyed (fault.Code code) g = ap (λ r. and_then r (λ ks. come_to (and_tuple (at item) given ks))) g

    pub tuple_added : (place : Environment) (ks : List (Option Atom)) (left : List Tuple) (r : Result (Unit {0}) ValueFault) → IsReady env old → IsThere (trees_of old) item → AreKept (length fs) given old
        → Tells (Ok true) now seen → Keyed (Ok ks) seen → length ks ≡ length fs → place ≡ at item → OnOk r (and_tuple place given ks ≡ Ok left) → IfErr r (λ found. Fails (and_tuple place given ks) found)
        → GivesIn (AreKept (length fs)) (kept_of test keys v env given item) old (leaving r left) new
    tuple_added place ks left r ready there kept g h wide is added code =
        let grown = grows_then old mid now (grows_turned old mid u turned) g.1.0 in
        let ready_now = ready_with v (item ∷ []) env now (ready_on env old now grown ready) (one_there item now (there_on item old now grown there)) in
        let kept_now = kept_grows (length fs) given old now grown kept in
        let many = as_many keys fs are in
        let P : ℕ → Type 0 = λ n. GivesIn (AreKept n) (and_tuple_of sorts (at item) given) now (leaving r left) new in
        let Q : ℕ → Type 0 = λ n. AreKept n given now in
        passing now new (leaving r left) g
        (subst P many
        (tuple_kept mean keys (at item) place given ks now new (leaving r left) ready_now (subst Q (sym many) kept_now) (keys_given (at item) keys fs now new (Ok ks) are (subst (Keyed (Ok ks)) same h)) (wide ∙ sym many) is
        (says_left (and_tuple place given ks) r left added code)))
