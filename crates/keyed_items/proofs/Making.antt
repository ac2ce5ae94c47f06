-- Keys that functions of an item make.
use Rattle.std.proofs.Common.{◌≡◌, ◌∙◌, ◌++◌, ◌+◌, ◌<◌, ◌≤◌, ℕ, zero, suc, List, [], ◌∷◌, drop, length, map, slice_index_or, Option, Some, Result, Ok, Err, refl, ap, sym, subst, arith, add-one}
use Rattle.std.specs.List.{All}
use Rattle.fault_codes.specs.declared.code.Code.{Code}
use Rattle.values.specs.Comparisons.{as_string}
use Rattle.values.specs.Work.{text_of, text_work}
use Rattle.values.specs.declared.atom.Atom.{Atom}
use Rattle.values.specs.declared.atom.Item.{Item}
use Rattle.values.specs.declared.atom.Item.TheVariants as item
use Rattle.values.specs.declared.fault.ValueFault.{ValueFault}
use Rattle.values.specs.declared.fault.ValueFault.TheVariants as fault
use Rattle.query_grammar.specs.declared.ast.Expr.{Expr}
use Rattle.query_grammar.specs.declared.ast.SortKey.{SortKey}
use Rattle.query_meaning.specs.Environment.{Environment}
use Rattle.query_meaning.specs.Meaning.{mean}
use Rattle.query_meaning.specs.Running.{M, Run, and_then, ◌>>=◌, atom as atom_at, atoms, come_to, each, pure, work}
use Rattle.query_meaning.specs.Sequences.{Meaning, key_in, key_of, keys_in}
use Rattle.evaluation.specs.Gives.{Any, Fails, Gives, GivesIn}
use Rattle.evaluation.proofs.Alone.{item_atoms}
use Rattle.evaluation.proofs.Each.{drop_all, drop_item, each_map, grows_then}
use Rattle.read_items.specs.Texts.{text_paid}
use Rattle.sorted_tuples.specs.Keys.{sort_key_of}
use Rattle.item_expressions.specs.Subjects.{OfSubject}
use Rattle.keyed_items.specs.Keyed.{AreKeys, and_key, keys_of}

-- ---- the typed value of an atomic value
module _ (a : Atom) where
  paid_then : (r : Result (Unit {0} × Run) Code) (n : _) (u : Unit {0}) (new : Run) → and_then r (λ _. work n) ≡ Ok (u, new) → and_then r (λ _. work n >>= (λ _. pure a)) ≡ Ok (a, new)
  paid_then (Ok p) n u new h = ap (λ r. and_then r (λ _. pure a)) h
  paid_then (Err code) n u new h = absurd cc

  unpaid_then : (r : Result (Unit {0} × Run) Code) (n : _) (code : Code) → and_then r (λ _. work n) ≡ Err code → and_then r (λ _. work n >>= (λ _. pure a)) ≡ Err code
  unpaid_then (Ok p) n code h = ap (λ r. and_then r (λ _. pure a)) h
  unpaid_then (Err found) n code h = let same : found ≡ code = cc in ap Err same

  pub own_gives : (old new : Run) (u : Unit {0}) → GivesIn Any (text_paid 0 (text_work (text_of a))) old (Ok u) new → GivesIn Any (atom_at (item.Atomic a)) old (Ok a) new
  own_gives old new u g = (paid_then (work 0 old) (text_work (text_of a)) u new g.0, (g.1.0, tt))

  pub own_fails : (old : Run) (found : ValueFault) → Fails (text_paid 0 (text_work (text_of a)) old) found → Fails (atom_at (item.Atomic a) old) found
  own_fails old fault.Memory g = tt
  own_fails old (fault.Code code) g = unpaid_then (work 0 old) (text_work (text_of a)) code g

-- ---- one key
module _ (env : Environment) (given : List (Option Atom)) (m : Meaning) (old : Run) where
  abbrev valued : List Item → M (List (Option Atom))
  valued items = atoms items >>= (λ values. come_to (key_of values) >>= (λ k. pure (given ++ k ∷ [])))

  pub key_fails : (found : ValueFault) → Fails (m env old) found → Fails (and_key env given m old) found
  key_fails fault.Memory g = tt
  key_fails (fault.Code code) g = ap (λ r. and_then r valued) g

  module _ (made : Item) (mid : Run) (g : Gives (m env) old (Ok (made ∷ [])) mid) where
    to_atom : and_key env given m old ≡ and_then (and_then (atom_at made mid) (λ a. pure (a ∷ []))) (λ values. come_to (key_of values) >>= (λ k. pure (given ++ k ∷ [])))
    to_atom = ap (λ r. and_then r valued) g.0 ∙ ap (λ r. and_then r (λ values. come_to (key_of values) >>= (λ k. pure (given ++ k ∷ [])))) (item_atoms made mid)

    pub key_given : (a : Atom) (new : Run) (keys : List (Option Atom)) → GivesIn Any (atom_at made) mid (Ok a) new → keys ≡ given ++ Some (as_string a) ∷ [] → GivesIn Any (and_key env given m) old (Ok keys) new
    key_given a new keys h is = (
      to_atom ∙ ap (λ r. and_then (and_then r (λ a. pure (a ∷ []))) (λ values. come_to (key_of values) >>= (λ k. pure (given ++ k ∷ [])))) h.0 ∙ ap (λ ks. Ok (ks, new)) (sym is),
      (grows_then old mid new g.1.0 h.1.0, tt),
    )

    pub key_unvalued : (found : ValueFault) → Fails (atom_at made mid) found → Fails (and_key env given m old) found
    key_unvalued fault.Memory h = tt
    key_unvalued (fault.Code code) h = to_atom ∙ ap (λ r. and_then (and_then r (λ a. pure (a ∷ []))) (λ values. come_to (key_of values) >>= (λ k. pure (given ++ k ∷ [])))) h

-- ---- all keys
abbrev of_expression : Environment → ℕ → List (Option Atom) → Expr → M (List (Option Atom))
of_expression env i given x = and_key env given (mean x)

pub keys_same : (env : Environment) (keys : List (SortKey Expr)) (fs : List OfSubject) (run : Run) → AreKeys keys fs → keys_in (map (sort_key_of mean) keys) env run ≡ keys_of env fs run
keys_same env keys fs run are =
    each_map (λ _. key_in env) (sort_key_of mean) 0 keys [] run
    ∙ sym (each_map (of_expression env) (λ (k : SortKey Expr). k.key) 0 keys [] run)
    ∙ ap (λ xs. each (of_expression env) 0 xs [] run) are
    ∙ each_map (of_expression env) (λ (f : OfSubject). f.expression) 0 fs [] run

pub keys_given : (env : Environment) (keys : List (SortKey Expr)) (fs : List OfSubject) (old new : Run) (r : Result (List (Option Atom)) ValueFault) → AreKeys keys fs
    → GivesIn Any (keys_of env fs) old r new → GivesIn Any (keys_in (map (sort_key_of mean) keys) env) old r new
keys_given env keys fs old new (Ok ks) are g = (keys_same env keys fs old are ∙ g.0, g.1)
keys_given env keys fs old new (Err fault.Memory) are g = tt
keys_given env keys fs old new (Err (fault.Code code)) are g = keys_same env keys fs old are ∙ g

-- ---- as many functions as keys so far
abbrev expressions : List OfSubject → List Expr
expressions fs = map (λ (f : OfSubject). f.expression) fs

abbrev written : List (SortKey Expr) → List Expr
written keys = map (λ (k : SortKey Expr). k.key) keys

shifted : (fs : List OfSubject) (x : Expr) (rest : List Expr) (f : OfSubject) → f.expression ≡ x → expressions fs ++ x ∷ rest ≡ expressions (fs ++ f ∷ []) ++ rest
shifted [] x rest f is = ap (λ y. y ∷ rest) (sym is)
shifted (g ∷ gs) x rest f is = ap (λ ys. g.expression ∷ ys) (shifted gs x rest f is)

none_after : (xs : List Expr) → xs ++ [] ≡ xs
none_after [] = refl
none_after (x ∷ xs) = ap (λ ys. x ∷ ys) (none_after xs)

-- what is written is what was read, and what is left
abbrev pub ReadSoFar : List (SortKey Expr) → List OfSubject → ℕ → Type 0
ReadSoFar keys fs k = written keys ≡ expressions fs ++ written (drop k keys)

pub one_more : (keys : List (SortKey Expr)) (fs : List OfSubject) (k : ℕ) (key : SortKey Expr) (f : OfSubject) → ReadSoFar keys fs k → k < length keys → key ≡ slice_index_or keys k key → f.expression ≡ key.key
    → ReadSoFar keys (fs ++ f ∷ []) (k + 1)
one_more keys fs k key f h below here is =
    h ∙ ap (λ ks. expressions fs ++ written ks) (drop_item keys k key below here) ∙ shifted fs key.key (written (drop (suc k) keys)) f is ∙ ap (λ n. expressions (fs ++ f ∷ []) ++ written (drop n keys)) (sym (add-one k))

pub all_read : (keys : List (SortKey Expr)) (fs : List OfSubject) (k : ℕ) → ReadSoFar keys fs k → length keys ≤ k → AreKeys keys fs
all_read keys fs k h past = h ∙ ap (λ ks. expressions fs ++ written ks) (drop_all keys k past) ∙ none_after (expressions fs)

-- ---- what holds of each
module _ {A : Type 0} (P : A → Type 0) (xs : List A) (k : ℕ) where
  first_too : (x : A) (ys : List A) → P x → All P ys → All P (x ∷ ys)
  first_too x ys p all zero d below = p
  first_too x ys p all (suc j) d below = all j d (omega (arith, below))

  pub holds_too : (x : A) → (All P (drop k xs) → All P xs) → k < length xs → x ≡ slice_index_or xs k x → P x → All P (drop (k + 1) xs) → All P xs
  holds_too x rest below here p more =
      let Q : ℕ → Type 0 = λ n. All P (drop n xs) in
      rest (subst (All P) (sym (drop_item xs k x below here)) (first_too x (drop (suc k) xs) p (subst Q (add-one k) more)))

  pub holds_of_all : (All P (drop k xs) → All P xs) → length xs ≤ k → All P xs
  holds_of_all rest past = rest (subst (All P) (sym (drop_all xs k past)) none)
    where
      none : All P []
      none j d below = absurd (omega (arith, below))
