-- What functions give, by what their parts give.
use Rattle.std.proofs.Common.{◌≡◌, ℕ, ℤ, zero, suc, pos, List, [], ◌∷◌, ◌≤◌, length, map, refl, sym, ap, ◌∙◌, subst, arith, Option, Result, Ok, Err}
use Rattle.fault_codes.specs.declared.code.Code.{Code}
use Rattle.values.specs.declared.atom.Atom.{Atom}
use Rattle.values.specs.declared.atom.Item.{Item}
use Rattle.values.specs.declared.fault.ValueFault.{ValueFault}
use Rattle.values.specs.declared.fault.ValueFault.TheVariants as fault
use Rattle.query_grammar.specs.declared.ast.Expr.{Expr}
use Rattle.query_grammar.specs.declared.functions.Function.{Function}
use Rattle.query_meaning.specs.Environment.{Environment, Focus}
use Rattle.query_meaning.specs.Functions.{all_texts, and_addend, application, applied, arguments, call, integer, items_of, string, string_join}
use Rattle.query_meaning.specs.Meaning.{mean}
use Rattle.query_meaning.specs.Running.{M, Run, and_then, pure, ◌>>=◌, come_to, each, atoms}
use Rattle.query_meaning.specs.Strings.{limited, one_text, separated}
use Rattle.evaluation.specs.Gives.{Any, Fails, Gives, GivesIn, Says, Stand}
use Rattle.evaluation.proofs.Counted.{grows_spent}
use Rattle.evaluation.proofs.Each.{grows_refl, then_gives}
use Rattle.query_calls.specs.Arguments.{AllStand}
use Rattle.query_calls.specs.Parts.{context, of_context, items_in, sum_of}
use Rattle.query_meaning.specs.Sequences.{Meaning, focus_of}
use Rattle.query_calls.specs.Table.{of_more}
use Rattle.query_calls.proofs.Rows.{application_is}

-- the same of what is equal
pub gives_same : (m q : M (List Item)) (old new : Run) (r : Result (List Item) ValueFault) → m old ≡ q old → Gives q old r new → Gives m old r new
gives_same m q old new (Ok a) e g = (e ∙ g.0, g.1)
gives_same m q old new (Err fault.Memory) e g = tt
gives_same m q old new (Err (fault.Code code)) e g = e ∙ g

-- the typed values of an argument
pub atoms_give : (items : List Item) (values : List Atom) (old new : Run) → atoms items old ≡ Ok (values, new) → new ≡ record old { work = new.work } → GivesIn Any (atoms items) old (Ok values) new
atoms_give items values old new are same = (are, (grows_spent old new same, tt))

pub atoms_fail : {A : Type 0} (f : List Atom → M A) (items : List Item) (old : Run) (found : ValueFault) → Fails (atoms items old) found → Fails ((atoms items >>= f) old) found
atoms_fail f items old fault.Memory h = tt
atoms_fail f items old (fault.Code code) h = ap (λ r. and_then r f) h

pub atoms_then : (f : List Atom → M (List Item)) (items : List Item) (values seen : List Atom) (old mid new : Run) (r : Result (List Item) ValueFault)
    → GivesIn Any (atoms items) old (Ok values) mid → seen ≡ values → Gives (f seen) mid r new → Gives (atoms items >>= f) old r new
atoms_then f items values seen old mid new r are same g =
    then_gives Any Stand (atoms items) f old mid new values r are (subst (λ vs. Gives (f vs) mid r new) same g)

-- atomic values stand anywhere
stand_anywhere : (values : List Atom) (run : Run) → Stand (items_of values) run
stand_anywhere [] run k d below = absurd (omega (arith, below))
stand_anywhere (a ∷ more) run zero d below = tt
stand_anywhere (a ∷ more) run (suc k) d below = stand_anywhere more run k d (omega (arith, below))

-- items of values that are made of those of an argument
pub items_give : (f : List Atom → List Atom) (items : List Item) (values made : List Atom) (old new : Run) (r : Result (List Item) ValueFault)
    → GivesIn Any (atoms items) old (Ok values) new → made ≡ f values → Says (Ok (items_of made)) r → Gives (atoms items >>= (λ vs. pure (items_of (f vs)))) old r new
items_give f items values made old new r are is h = then_gives Any Stand (atoms items) (λ vs. pure (items_of (f vs))) old new new values r are (by r h)
  where
    by : (r : Result (List Item) ValueFault) → Says (Ok (items_of made)) r → Gives (pure (items_of (f values))) new r new
    by (Ok given) h =
        let P : List Item → Type 0 = λ xs. Stand xs new in
        let same : items_of made ≡ given = cc in
        (ap (λ vs. Ok (items_of vs, new)) (sym is) ∙ ap (λ xs. Ok (xs, new)) same, (grows_refl new, subst P same (stand_anywhere made new)))
    by (Err fault.Memory) h = tt
    by (Err (fault.Code code)) h = absurd (let no : Ok (items_of made) ≡ Err code = h in cc)

-- the sum
pub sum_fails : (values : List Atom) (code : Code) (run : Run) → ((run : Run) → come_to {A = ℤ} (Err code) run ≡ each (λ _. and_addend) 0 values (pos 0) run) → sum_of values run ≡ Err code
sum_fails values code run is = ap (λ r. and_then r integer) (sym (is run))

pub sum_gives : (values : List Atom) (z : ℤ) (old new : Run) (r : Result (List Item) ValueFault)
    → ((run : Run) → come_to (Ok z) run ≡ each (λ _. and_addend) 0 values (pos 0) run) → Gives (integer z) old r new → Gives (sum_of values) old r new
sum_gives values z old new r is g = then_gives Any Stand (each (λ _. and_addend) 0 values (pos 0)) integer old old new z r (sym (is old), (grows_refl old, tt)) g

-- texts with a separator

pub no_texts : (xs ys : List Atom) (run : Run) (f : ValueFault) → Fails (all_texts xs run) f → Fails (string_join xs ys run) f
no_texts xs ys run fault.Memory h = tt
no_texts xs ys run (fault.Code code) h = ap (λ r. and_then r (λ texts. come_to (one_text ys) >>= (λ separator. come_to (limited (separated separator texts)) >>= string))) h

joins : (xs ys : List Atom) (texts : List (List ℕ)) (run : Run) (o : Result (List ℕ) Code) → all_texts xs run ≡ Ok (texts, run) → one_text ys ≡ o
    → string_join xs ys run ≡ and_then (come_to o run) (λ separator. come_to (limited (separated separator texts)) >>= string)
joins xs ys texts run o are is =
    ap (λ r. and_then r (λ texts. come_to (one_text ys) >>= (λ separator. come_to (limited (separated separator texts)) >>= string))) are
    ∙ ap (λ o. and_then (come_to o run) (λ separator. come_to (limited (separated separator texts)) >>= string)) is

pub no_separator : (xs ys : List Atom) (texts : List (List ℕ)) (run : Run) (code : Code) → ((run : Run) → all_texts xs run ≡ Ok (texts, run)) → one_text ys ≡ Err code
    → string_join xs ys run ≡ Err code
no_separator xs ys texts run code are is = joins xs ys texts run (Err code) (are run) is

pub too_long : (xs ys : List Atom) (texts : List (List ℕ)) (separator : List ℕ) (run : Run) (f : ValueFault) → ((run : Run) → all_texts xs run ≡ Ok (texts, run)) → one_text ys ≡ Ok separator
    → Fails (limited (separated separator texts)) f → Fails (string_join xs ys run) f
too_long xs ys texts separator run fault.Memory are is h = tt
too_long xs ys texts separator run (fault.Code code) are is h = joins xs ys texts run (Ok separator) (are run) is ∙ ap (λ o. and_then (come_to o run) string) h

pub join_gives : (xs ys : List Atom) (texts : List (List ℕ)) (separator text seen : List ℕ) (old new : Run) (r : Result (List Item) ValueFault)
    → ((run : Run) → all_texts xs run ≡ Ok (texts, run)) → one_text ys ≡ Ok separator → limited (separated separator texts) ≡ Ok text → seen ≡ text → Gives (string seen) old r new
    → Gives (string_join xs ys) old r new
join_gives xs ys texts separator text seen old new r are is fits same g =
    gives_same (string_join xs ys) (string seen) old new r (joins xs ys texts old (Ok separator) (are old) is ∙ ap (λ o. and_then (come_to o old) string) fits ∙ ap (λ t. string t old) (sym same)) g

-- what is called with two arguments or more
pub more_give : (f : Function) (env : Environment) (values : List (List Item)) (old new : Run) (r : Result (List Item) ValueFault)
    → 2 ≤ length values → Gives (of_more f values) old r new → Gives (application f env values) old r new
more_give f env [] old new r many g = absurd (omega (arith, many))
more_give f env (x ∷ []) old new r many g = absurd (omega (arith, many))
more_give f env (x ∷ y ∷ rest) old new r many g =
    gives_same (application f env (x ∷ y ∷ rest)) (of_more f (x ∷ y ∷ rest)) old new r (ap (λ m. m old) (application_is f env x y rest)) g

-- a call
pub call_gives : (f? : Option Function) (xs ys : List Expr) (env : Environment) (old mid new : Run) (values seen : List (List Item)) (r : Result (List Item) ValueFault)
    → ys ≡ xs → seen ≡ values → GivesIn AllStand (arguments env (map mean ys)) old (Ok values) mid → Gives (applied f? env seen) mid r new
    → Gives (call f? (map mean xs) env) old r new
call_gives f? xs ys env old mid new values seen r all same g h =
    let P : List Expr → Type 0 = λ zs. GivesIn AllStand (arguments env (map mean zs)) old (Ok values) mid in
    let R : List (List Item) → Type 0 = λ us. Gives (applied f? env us) mid r new in
    then_gives AllStand Stand (arguments env (map mean xs)) (applied f? env) old mid new values r (subst P all g) (subst R same h)

-- a call with one argument
pub one_argument : (f? : Option Function) (m : Meaning) (env : Environment) (old mid new : Run) (value : List Item) (seen : List (List Item)) (r : Result (List Item) ValueFault)
    → Gives (m env) old (Ok value) mid → seen ≡ value ∷ [] → Gives (applied f? env seen) mid r new → Gives (call f? (m ∷ []) env) old r new
one_argument f? m env old mid new value seen r given same h =
    let R : List (List Item) → Type 0 = λ us. Gives (applied f? env us) mid r new in
    then_gives AllStand Stand (arguments env (m ∷ [])) (applied f? env) old mid new (value ∷ []) r
    (rw given.0 refl, (given.1.0, all)) (subst R same h)
  where
    all : AllStand (value ∷ []) mid
    all zero d below = given.1.1
    all (suc k) d below = absurd (omega (arith, below))

-- what a function makes of the context item
items_or : Result (List Item) Code → List Item
items_or (Ok xs) = xs
items_or (Err code) = []

pub context_gives : (env : Environment) (f : List Item → M (List Item)) (items : List Item) (old new : Run) (r : Result (List Item) ValueFault)
    → context env ≡ Ok items → Gives (f items) old r new → Gives (of_context env f) old r new
unfolding items_or
context_gives env f items old new r e g = at (focus_of env) e
  where
    at : (o : Result Focus Code) → items_in o ≡ Ok items → Gives (come_to o >>= (λ (focus : Focus). f (focus.item ∷ []))) old r new
    at (Ok focus) same = gives_same (come_to (Ok focus) >>= (λ (focus : Focus). f (focus.item ∷ []))) (f items) old new r (ap (λ xs. f xs old) (ap items_or same)) g
    at (Err code) same = cc
