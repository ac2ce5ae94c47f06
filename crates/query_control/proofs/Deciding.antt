-- Items that are tried until one decides.
use Rattle.std.proofs.Common.{◌≡◌, ℕ, suc, ◌<◌, ◌≤◌, ◌+◌, Bool, true, false, List, length, drop, slice_index_or, refl, sym, ap, ◌∙◌, Result, Ok, Err, add-one}
use Rattle.fault_codes.specs.declared.code.Code.{Code}
use Rattle.values.specs.declared.fault.ValueFault.{ValueFault}
use Rattle.values.specs.declared.fault.ValueFault.TheVariants as fault
use Rattle.values.specs.declared.atom.Item.{Item}
use Rattle.query_grammar.specs.declared.ast.Quantifier.{Quantifier}
use Rattle.query_meaning.specs.Running.{M, Run, and_then}
use Rattle.query_meaning.specs.Sequences.{until_decided, decides, undecided, go_on}
use Rattle.evaluation.specs.Gives.{Any, Grows, GivesIn, Fails}
use Rattle.evaluation.proofs.Each.{drop_item, drop_all, grows_then, grows_refl}

-- what is left of the items decides as all do
pub record Seeks (q : Quantifier) (f : Item → M Bool) (xs : List Item) (start : Run) (k : ℕ) (now : Run) : Type 0 where
  pub left : until_decided q f (drop k xs) now ≡ until_decided q f xs start
  pub grown : Grows start now

pub begins : (q : Quantifier) (f : Item → M Bool) (xs : List Item) (start : Run) → Seeks q f xs start 0 start
begins q f xs start = record { left = refl; grown = grows_refl start }

-- the next item
next : (q : Quantifier) (f : Item → M Bool) (xs : List Item) (start : Run) (k : ℕ) (now : Run) (x : Item) (r : Result (Bool × Run) Code)
    → Seeks q f xs start k now → k < length xs → x ≡ slice_index_or xs k x → f x now ≡ r
    → until_decided q f xs start ≡ and_then r (λ b. go_on (decides q b) b (until_decided q f (drop (suc k) xs)))
next q f xs start k now x r h below here is =
    sym h.left ∙ ap (λ ys. until_decided q f ys now) (drop_item xs k x below here) ∙ ap (λ r. and_then r (λ b. go_on (decides q b) b (until_decided q f (drop (suc k) xs)))) is

-- it doesn't decide
pub seeks_on : (q : Quantifier) (f : Item → M Bool) (xs : List Item) (start : Run) (k : ℕ) (now new : Run) (x : Item) (b : Bool)
    → Seeks q f xs start k now → k < length xs → x ≡ slice_index_or xs k x → GivesIn Any (f x) now (Ok b) new → decides q b ≡ false → Seeks q f xs start (k + 1) new
seeks_on q f xs start k now new x b h below here g goes = record {
  left = ap (λ n. until_decided q f (drop n xs) new) (add-one k) ∙ sym (next q f xs start k now x (Ok (b, new)) h below here g.0 ∙ ap (λ t. go_on t b (until_decided q f (drop (suc k) xs)) new) goes);
  grown = grows_then start now new h.grown g.1.0;
}

-- it decides
pub found : (q : Quantifier) (f : Item → M Bool) (xs : List Item) (start : Run) (k : ℕ) (now new : Run) (x : Item) (b : Bool)
    → Seeks q f xs start k now → k < length xs → x ≡ slice_index_or xs k x → GivesIn Any (f x) now (Ok b) new → decides q b ≡ true → GivesIn Any (until_decided q f xs) start (Ok b) new
found q f xs start k now new x b h below here g ends =
    (next q f xs start k now x (Ok (b, new)) h below here g.0 ∙ ap (λ t. go_on t b (until_decided q f (drop (suc k) xs)) new) ends, (grows_then start now new h.grown g.1.0, tt))

-- it ends in a fault
pub fails : (q : Quantifier) (f : Item → M Bool) (xs : List Item) (start : Run) (k : ℕ) (now new : Run) (x : Item) (e : ValueFault)
    → Seeks q f xs start k now → k < length xs → x ≡ slice_index_or xs k x → GivesIn Any (f x) now (Err e) new → Fails (until_decided q f xs start) e
fails q f xs start k now new x fault.Memory h below here g = tt
fails q f xs start k now new x (fault.Code code) h below here g = next q f xs start k now x (Err code) h below here g

-- none decides
pub none_left : (q : Quantifier) (f : Item → M Bool) (xs : List Item) (start : Run) (k : ℕ) (now : Run)
    → Seeks q f xs start k now → length xs ≤ k → GivesIn Any (until_decided q f xs) start (Ok (undecided q)) now
none_left q f xs start k now h past = (sym h.left ∙ ap (λ ys. until_decided q f ys now) (drop_all xs k past), (h.grown, tt))
