-- A recursion on a count of turns, beside a loop that counts up; and the readers by the parts that the code has.
use Rattle.std.proofs.Common.{◌≡◌, ℕ, zero, suc, ◌+◌, ◌-◌, ◌<◌, ◌≤◌, ◌==◌, ◌&&◌, nat_le, Bool, true, false, cond, if◌then◌else◌, map, length, List, [], ◌∷◌, ◌++◌, refl, Option, None, Some, sym, ap, ◌∙◌, arith}
use Rattle.std.proofs.lemmas.Bool.Decides.{nat_tests}
use Rattle.query_tokens.specs.declared.kind.Kind.TheVariants as k
use Rattle.query_tokens.specs.declared.token.Token.{Token}
use Rattle.query_grammar.specs.declared.ast.Expr.{Expr}
use Rattle.query_grammar.specs.declared.ast.Expr.TheVariants as e
use Rattle.query_grammar.specs.declared.ast.Clause.TheVariants as clause
use Rattle.query_grammar.specs.declared.ast.Operation.{Operation}
use Rattle.query_grammar.specs.Grammar as grammar
use Rattle.query_grammar.specs.Reader as r
use Rattle.query_grammar.specs.Reading.{Reader, pure, ◌>>=◌, ◌>>◌, and_then, rounds, many, at_level, sees, eat}
use Rattle.query_grammar.specs.Loose.{looseness_of}
use Rattle.query_parts.specs.Operators.{operator_at, tighter, looseness_at, is_once, goes_on}
use Rattle.query_parts.specs.declared.precedence.Precedence.{Precedence}
use Rattle.query_parts.specs.declared.precedence.Precedence.TheVariants as precedence
use Rattle.query_parts.specs.Gives.{Fails}
use Rattle.query_tokens.specs.declared.fault.ParseFault.{ParseFault}
use Rattle.query_tokens.specs.declared.fault.ParseFault.TheVariants as fault
use Rattle.query_rules.specs.Parts as part

-- a turn of the loop is a step of the recursion
pub one_round : {A : Type 0} (goes_on : List Token → Bool) (item : Reader A) (n at : ℕ) (acc : List A) (ts : List Token) (x : A) (mid : List Token) (after : List A)
    → at < n → goes_on ts ≡ true → item ts ≡ Some (x, mid) → after ≡ acc ++ x ∷ [] → rounds goes_on item (n - at) acc ts ≡ rounds goes_on item (n - (at + 1)) after mid
unfolding rounds
one_round goes_on item n at acc ts x mid after below g e grown =
    let turn : n - at ≡ suc (n - (at + 1)) = omega arith in
    ap (λ k. rounds goes_on item k acc ts) turn
    ∙ ap (λ b. cond b (and_then (item ts) (λ y. rounds goes_on item (n - (at + 1)) (acc ++ y ∷ []))) (Some (acc, ts))) g
    ∙ ap (λ o. and_then o (λ y. rounds goes_on item (n - (at + 1)) (acc ++ y ∷ []))) e
    ∙ ap (λ y. rounds goes_on item (n - (at + 1)) y mid) (sym grown)

-- Lists read one after another, behind one another.
unfoldable pub flat_rounds : {A : Type 0} → (List Token → Bool) → Reader (List A) → ℕ → List A → Reader (List A)
flat_rounds goes_on item zero xs ts = Some (xs, ts)
flat_rounds goes_on item (suc n) xs ts = if goes_on ts then and_then (item ts) (λ x. flat_rounds goes_on item n (xs ++ x)) else Some (xs, ts)

pub one_flat_round : {A : Type 0} (goes_on : List Token → Bool) (item : Reader (List A)) (n at : ℕ) (acc : List A) (ts : List Token) (x : List A) (mid : List Token) (after : List A)
    → at < n → goes_on ts ≡ true → item ts ≡ Some (x, mid) → after ≡ acc ++ x → flat_rounds goes_on item (n - at) acc ts ≡ flat_rounds goes_on item (n - (at + 1)) after mid
unfolding flat_rounds
one_flat_round goes_on item n at acc ts x mid after below g e grown =
    let turn : n - at ≡ suc (n - (at + 1)) = omega arith in
    ap (λ k. flat_rounds goes_on item k acc ts) turn
    ∙ ap (λ b. cond b (and_then (item ts) (λ y. flat_rounds goes_on item (n - (at + 1)) (acc ++ y))) (Some (acc, ts))) g
    ∙ ap (λ o. and_then o (λ y. flat_rounds goes_on item (n - (at + 1)) (acc ++ y))) e
    ∙ ap (λ y. flat_rounds goes_on item (n - (at + 1)) y mid) (sym grown)

nothing_after : {A : Type 0} (xs : List A) → xs ++ [] ≡ xs
nothing_after [] = refl
nothing_after (x ∷ xs) = ap (λ ys. x ∷ ys) (nothing_after xs)

append_assoc : {A : Type 0} (xs ys zs : List A) → xs ++ (ys ++ zs) ≡ (xs ++ ys) ++ zs
append_assoc [] ys zs = refl
append_assoc (x ∷ xs) ys zs = ap (λ us. x ∷ us) (append_assoc xs ys zs)

flat_last : {A : Type 0} (xs : List (List A)) (x : List A) → part.flat (xs ++ x ∷ []) ≡ part.flat xs ++ x
flat_last [] x = nothing_after x
flat_last (y ∷ ys) x = ap (λ us. y ++ us) (flat_last ys x) ∙ append_assoc y (part.flat ys) x

flat_step : {A : Type 0} (item : Reader (List A)) (f : List A → Reader (List (List A))) (g : List A → Reader (List A)) (xs : List (List A)) (ts : List Token)
    → ((x : List A) (mid : List Token) → and_then (f x mid) (λ ys. pure (part.flat ys)) ≡ g x mid)
    → (b : Bool) (o : Option (List A × List Token))
    → and_then (cond b (and_then o f) (Some (xs, ts))) (λ ys. pure (part.flat ys)) ≡ cond b (and_then o g) (Some (part.flat xs, ts))
flat_step item f g xs ts h false o = refl
flat_step item f g xs ts h true None = refl
flat_step item f g xs ts h true (Some p) = h p.0 p.1

pub flat_is : {A : Type 0} (goes_on : List Token → Bool) (item : Reader (List A)) (n : ℕ) (xs : List (List A)) (ts : List Token)
    → and_then (rounds goes_on item n xs ts) (λ ys. pure (part.flat ys)) ≡ flat_rounds goes_on item n (part.flat xs) ts
unfolding rounds flat_rounds
flat_is goes_on item zero xs ts = refl
flat_is goes_on item (suc n) xs ts =
    flat_step item (λ x. rounds goes_on item n (xs ++ x ∷ [])) (λ x. flat_rounds goes_on item n (part.flat xs ++ x)) xs ts
    (λ x mid. flat_is goes_on item n (xs ++ x ∷ []) mid ∙ ap (λ ys. flat_rounds goes_on item n ys mid) (flat_last xs x))
    (goes_on ts) (item ts)

pub flat_begun : {A : Type 0} (goes_on : List Token → Bool) (item : Reader (List A)) (ts : List Token) (n : ℕ) (found : List A)
    → n ≡ length ts → found ≡ [] → (many goes_on item >>= (λ ys. pure (part.flat ys))) ts ≡ flat_rounds goes_on item (n - 0) found ts
flat_begun goes_on item ts n found all none =
    let turns : length ts ≡ n - 0 = omega arith in
    flat_is goes_on item (length ts) [] ts
    ∙ ap (λ m. flat_rounds goes_on item m [] ts) turns
    ∙ ap (λ ys. flat_rounds goes_on item (n - 0) ys ts) (sym none)

-- Steps of reading, one after another.
pub made : {A B C : Type 0} (o : Option (A × List Token)) (f : A → B) (h : B → Reader C) → and_then o (λ a. h (f a)) ≡ and_then (and_then o (λ a. pure (f a))) h
made None f h = refl
made (Some p) f h = refl

pub in_turn : {A B C : Type 0} (o : Option (A × List Token)) (f : A → Reader B) (h : B → Reader C) → and_then (and_then o f) h ≡ and_then o (λ a ts. and_then (f a ts) h)
in_turn None f h = refl
in_turn (Some p) f h = refl

pub same_after : {A B : Type 0} (o : Option (A × List Token)) (f g : A → Reader B) → ((a : A) (ts : List Token) → f a ts ≡ g a ts) → and_then o f ≡ and_then o g
same_after None f g h = refl
same_after (Some p) f g h = h p.0 p.1

-- A list of what is made of the items is the list of the items, with each made so.
map_last : {A B : Type 0} (f : A → B) (xs : List A) (x : A) → map f (xs ++ x ∷ []) ≡ map f xs ++ f x ∷ []
map_last f [] x = refl
map_last f (y ∷ ys) x = ap (λ us. f y ∷ us) (map_last f ys x)

map_step : {A B : Type 0} (f : A → B) (p : A → Reader (List A)) (q : B → Reader (List B)) (xs : List A) (ts : List Token)
    → ((x : A) (mid : List Token) → and_then (p x mid) (λ ys. pure (map f ys)) ≡ q (f x) mid)
    → (b : Bool) (o : Option (A × List Token))
    → and_then (cond b (and_then o p) (Some (xs, ts))) (λ ys. pure (map f ys)) ≡ cond b (and_then (and_then o (λ x. pure (f x))) q) (Some (map f xs, ts))
map_step f p q xs ts h false o = refl
map_step f p q xs ts h true None = refl
map_step f p q xs ts h true (Some s) = h s.0 s.1

map_is : {A B : Type 0} (goes_on : List Token → Bool) (f : A → B) (item : Reader A) (made_item : Reader B)
    → ((ts : List Token) → and_then (item ts) (λ x. pure (f x)) ≡ made_item ts)
    → (n : ℕ) (xs : List A) (ts : List Token)
    → and_then (rounds goes_on item n xs ts) (λ ys. pure (map f ys)) ≡ rounds goes_on made_item n (map f xs) ts
unfolding rounds
map_is goes_on f item made_item h zero xs ts = refl
map_is goes_on f item made_item h (suc n) xs ts =
    map_step f (λ x. rounds goes_on item n (xs ++ x ∷ [])) (λ y. rounds goes_on made_item n (map f xs ++ y ∷ [])) xs ts
    (λ x mid. map_is goes_on f item made_item h n (xs ++ x ∷ []) mid ∙ ap (λ ys. rounds goes_on made_item n ys mid) (map_last f xs x))
    (goes_on ts) (item ts)
    ∙ ap (λ o. cond (goes_on ts) (and_then o (λ y. rounds goes_on made_item n (map f xs ++ y ∷ []))) (Some (map f xs, ts))) (h ts)

first_made : {A B : Type 0} (f : A → B) (a : A) (o : Option (List A × List Token))
    → and_then (and_then o (λ others. pure (a ∷ others))) (λ xs. pure (map f xs)) ≡ and_then (and_then o (λ ys. pure (map f ys))) (λ others. pure (f a ∷ others))
first_made f a None = refl
first_made f a (Some p) = refl

list_made : {A B : Type 0} (f : A → B) (p : Reader A) (ts : List Token)
    → and_then (r.list1 p ts) (λ xs. pure (map f xs)) ≡ r.list1 (p >>= (λ x. pure (f x))) ts
unfolding r.list1
list_made f p ts =
    in_turn (p ts) _ _
    ∙ same_after (p ts) _ _ (λ a mid.
    first_made f a (part.more p mid)
    ∙ ap (λ o. and_then o (λ others. pure (f a ∷ others)))
    (map_is (at_level 12) f (part.after_comma p) (part.after_comma (p >>= (λ x. pure (f x)))) (λ us. in_turn (eat k.Comma us) _ _) (length mid) [] mid))
    ∙ made (p ts) f (λ b mid. and_then (part.more (p >>= (λ x. pure (f x))) mid) (λ others. pure (b ∷ others)))

-- One turn is an operation at most.
once_is : (first : Expr) (ts : List Token) (b : Bool) (o : Option (Operation Expr × List Token))
    → cond b (and_then o (λ other. pure (e.Chain first (other ∷ [])))) (Some (first, ts))
    ≡ and_then (cond b (and_then o (λ other. pure (other ∷ []))) (Some ([], ts))) (λ others. pure (grammar.chain_of first others))
once_is first ts false o = refl
once_is first ts true None = refl
once_is first ts true (Some p) = refl

binary_by : (single : Reader Expr) (p : Precedence) (once : Bool) (ts : List Token)
    → (if once
    then r.at_most_once (looseness_at p) (operator_at p) (part.operand single p)
    else r.chain (looseness_at p) (operator_at p) (part.operand single p)) ts
    ≡ and_then (part.operand single p ts) (λ first mid. and_then
    (rounds (at_level (looseness_at p)) (part.operation single p) (if once then 1 else length mid) [] mid)
    (λ others. pure (grammar.chain_of first others)))
unfolding r.at_most_once r.chain rounds
binary_by single p false ts = refl
binary_by single p true ts = same_after (part.operand single p ts) _ _ (λ first mid. once_is first mid (at_level (looseness_at p) mid) (part.operation single p mid))

pub binary_is : (single : Reader Expr) (p : Precedence) (ts : List Token) → part.binary single p ts ≡ part.chain single p ts
binary_is single p ts = binary_by single p (is_once p) ts

-- Operands, before their operators are read.

pub operand_then : (single : Reader Expr) (p : Precedence) (first : Expr) (ts mid : List Token) → part.operand single p ts ≡ Some (first, mid)
    → part.binary single p ts ≡ and_then (part.operations single p mid) (λ others. pure (grammar.chain_of first others))
operand_then single p first ts mid e =
    binary_is single p ts
    ∙ ap (λ o. and_then o (λ x rest. and_then (part.operations single p rest) (λ others. pure (grammar.chain_of x others)))) e

no_operand : (single : Reader Expr) (p : Precedence) (ts : List Token) → part.operand single p ts ≡ None → part.binary single p ts ≡ None
no_operand single p ts none =
    binary_is single p ts
    ∙ ap (λ o. and_then o (λ x rest. and_then (part.operations single p rest) (λ others. pure (grammar.chain_of x others)))) none

-- what stands between operators, by the tighter ones
operand_by : Reader Expr → Option Precedence → Reader Expr
operand_by single None = r.unary single
operand_by single (Some p) = part.binary single p

operand_is : (single : Reader Expr) (p : Precedence) (ts : List Token) → part.operand single p ts ≡ operand_by single (tighter p) ts
unfolding operand_by r.inter r.union r.multiplication r.addition r.range r.comparison r.conjunction
operand_is single precedence.Intersection ts = refl
operand_is single precedence.Union ts = refl
operand_is single precedence.Multiplication ts = refl
operand_is single precedence.Addition ts = refl
operand_is single precedence.Range ts = refl
operand_is single precedence.Comparison ts = refl
operand_is single precedence.Conjunction ts = refl
operand_is single precedence.Disjunction ts = refl

pub tightest : (single : Reader Expr) (p : Precedence) (ts : List Token) → tighter p ≡ None → part.operand single p ts ≡ r.unary single ts
unfolding operand_by
tightest single p ts none = operand_is single p ts ∙ ap (λ o. operand_by single o ts) none

pub tighter_is : (single : Reader Expr) (p q : Precedence) (ts : List Token) → tighter p ≡ Some q → part.operand single p ts ≡ part.binary single q ts
unfolding operand_by
tighter_is single p q ts some = operand_is single p ts ∙ ap (λ o. operand_by single o ts) some

-- What a first operand gives is what is read, where that holds at each precedence for itself.
module _ (single : Reader Expr) (ts : List Token) (o : Option (Expr × List Token)) (top : ℕ)
    (goes : (p : Precedence) → looseness_at p ≤ top → part.operand single p ts ≡ o → part.binary single p ts ≡ o) (operand : r.unary single ts ≡ o) where
  abbrev Given : Precedence → Type 0
  Given p = looseness_at p ≤ top → part.binary single p ts ≡ o

  in_intersection : Given precedence.Intersection
  in_intersection within = goes precedence.Intersection within operand

  in_union : Given precedence.Union
  unfolding r.inter
  in_union within = goes precedence.Union within (in_intersection (omega (arith, within)))

  in_multiplication : Given precedence.Multiplication
  unfolding r.union
  in_multiplication within = goes precedence.Multiplication within (in_union (omega (arith, within)))

  in_addition : Given precedence.Addition
  unfolding r.multiplication
  in_addition within = goes precedence.Addition within (in_multiplication (omega (arith, within)))

  in_range : Given precedence.Range
  unfolding r.addition
  in_range within = goes precedence.Range within (in_addition (omega (arith, within)))

  in_comparison : Given precedence.Comparison
  unfolding r.range
  in_comparison within = goes precedence.Comparison within (in_range (omega (arith, within)))

  in_conjunction : Given precedence.Conjunction
  unfolding r.comparison
  in_conjunction within = goes precedence.Conjunction within (in_comparison (omega (arith, within)))

  in_disjunction : Given precedence.Disjunction
  unfolding r.conjunction
  in_disjunction within = goes precedence.Disjunction within (in_conjunction (omega (arith, within)))

  given : (p : Precedence) → Given p
  given precedence.Intersection = in_intersection
  given precedence.Union = in_union
  given precedence.Multiplication = in_multiplication
  given precedence.Addition = in_addition
  given precedence.Range = in_range
  given precedence.Comparison = in_comparison
  given precedence.Conjunction = in_conjunction
  given precedence.Disjunction = in_disjunction

none_read : (goes_on : List Token → Bool) (item : Reader (Operation Expr)) (first : Expr) (mid : List Token) → goes_on mid ≡ false → (n : ℕ)
    → and_then (rounds goes_on item n [] mid) (λ others. pure (grammar.chain_of first others)) ≡ Some (first, mid)
unfolding rounds
none_read goes_on item first mid none zero = refl
none_read goes_on item first mid none (suc n) =
    ap (λ b. and_then (cond b (and_then (item mid) (λ x. rounds goes_on item n ([] ++ x ∷ []))) (Some ([], mid))) (λ others. pure (grammar.chain_of first others))) none

absent : (level l top : ℕ) → (nat_le 3 level && nat_le level top) ≡ false → 3 ≤ l → l ≤ top → (level == l) ≡ false
absent level l top none least most = grind (arith, nat_tests)

least_loose : (p : Precedence) → 3 ≤ looseness_at p
least_loose precedence.Intersection = omega arith
least_loose precedence.Union = omega arith
least_loose precedence.Multiplication = omega arith
least_loose precedence.Addition = omega arith
least_loose precedence.Range = omega arith
least_loose precedence.Comparison = omega arith
least_loose precedence.Conjunction = omega arith
least_loose precedence.Disjunction = omega arith

-- an operand that no operator follows
pub alone : (single : Reader Expr) (p : Precedence) (first : Expr) (ts mid : List Token) → r.unary single ts ≡ Some (first, mid) → goes_on p mid ≡ false
    → part.binary single p ts ≡ Some (first, mid)
unfolding at_level
alone single p first ts mid operand none = given single ts (Some (first, mid)) (looseness_at p) stays operand p (omega arith)
  where
    stays : (q : Precedence) → looseness_at q ≤ looseness_at p → part.operand single q ts ≡ Some (first, mid) → part.binary single q ts ≡ Some (first, mid)
    stays q within e =
        operand_then single q first ts mid e
        ∙ none_read (at_level (looseness_at q)) (part.operation single q) first mid (absent (looseness_of mid) (looseness_at q) (looseness_at p) none (least_loose q) within) (part.turns q mid)

-- faults of a first operand, of what stands before operators, and of operations
pub first_fails : (single : Reader Expr) (p : Precedence) (ts : List Token) (f : ParseFault) → Fails (r.unary single ts) f → Fails (part.binary single p ts) f
first_fails single p ts fault.Memory failed = tt
first_fails single p ts (fault.Static code) failed = (failed.0, given single ts None (looseness_at p) (λ q _ none. no_operand single q ts none) failed.1 p (omega arith))

pub operand_fails : (single : Reader Expr) (p : Precedence) (ts : List Token) (f : ParseFault) → Fails (part.operand single p ts) f → Fails (part.binary single p ts) f
operand_fails single p ts fault.Memory failed = tt
operand_fails single p ts (fault.Static code) failed = (failed.0, no_operand single p ts failed.1)

pub operations_fail : (single : Reader Expr) (p : Precedence) (first : Expr) (ts mid : List Token) (f : ParseFault) → part.operand single p ts ≡ Some (first, mid)
    → Fails (part.operations single p mid) f → Fails (part.binary single p ts) f
operations_fail single p first ts mid fault.Memory e failed = tt
operations_fail single p first ts mid (fault.Static code) e failed =
    (failed.0, operand_then single p first ts mid e ∙ ap (λ o. and_then o (λ others. pure (grammar.chain_of first others))) failed.1)

pub path_is : (single : Reader Expr) (ts : List Token) → r.path single ts ≡ part.path single ts
unfolding r.path
path_is single ts = same_after (r.step single ts) _ _ (λ s mid. made (many (at_level 2) (r.segment single) mid) part.flat (λ others. pure (grammar.path_of (grammar.step_of s) others)))

pub clauses_is : (single : Reader Expr) (ts : List Token) → r.clauses single ts ≡ part.clauses single ts
unfolding r.clauses
clauses_is single ts = ap (λ o. cond (sees 0 k.For ts) ((eat k.For >> r.list1 (r.for_binding single)) ts) o)
    (in_turn (eat k.Let ts) _ _ ∙ same_after (eat k.Let ts) _ _ (λ _ mid. list_made clause.Let (r.set_binding single) mid))
