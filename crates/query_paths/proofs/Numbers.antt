-- A predicate that is a written number: what its turns come to, one by one and at once.
use Rattle.std.proofs.Common.{◌≡◌, ℕ, zero, suc, ◌+◌, ◌-◌, ◌≤◌, ◌==◌, ◌&&◌, not, nat_le, pos, Bool, true, false, cond, if◌then◌else◌, List, [], ◌∷◌, ◌++◌, length, None, slice_get, refl, ap, sym, ◌∙◌, arith, rules, Result, Ok, Err, add-one}
use Rattle.std.proofs.lemmas.Bool.Decides.{nat_tests}
use Rattle.std.specs.Ordering.{is_eq, int_cmp}
use Rattle.fault_codes.specs.declared.code.Code.{Code}
use Rattle.fault_codes.specs.declared.code.Code.TheVariants.{PXQ0002}
use Rattle.values.specs.Arithmetic.{in_range}
use Rattle.values.specs.declared.atom.Atom.TheVariants as atom
use Rattle.values.specs.declared.atom.Item.{Item}
use Rattle.values.specs.declared.fault.ValueFault.{ValueFault}
use Rattle.values.specs.declared.fault.ValueFault.TheVariants as fault
use Rattle.query_grammar.specs.declared.ast.Expr.{Expr, map-Expr, out-Expr}
use Rattle.query_grammar.specs.declared.ast.Expr.TheOpen.{Expr-F}
use Rattle.query_grammar.specs.declared.ast.Expr.TheFolds.{fold_out-Expr}
use Rattle.query_grammar.specs.declared.ast.Expr.TheVariants as e
use Rattle.query_grammar.specs.declared.ast.Expr.TheViews.{the_lemmas}
use Rattle.query_meaning.specs.Running.{M, Run, and_then, ◌>>=◌, come_to, counted, each, pure, turn, turns, work}
use Rattle.query_meaning.specs.Environment.{Environment}
use Rattle.query_meaning.specs.Meaning.{mean, meaning_of}
use Rattle.query_meaning.specs.Paths.{and_if, filtered, kept, selects}
use Rattle.query_meaning.specs.Sequences.{Meaning, number, one}
use Rattle.evaluation.specs.Gives.{Gives}
use Rattle.query_paths.specs.Predicates.{at_position, numbered, option_list}

means : (x : Expr) → mean x ≡ meaning_of (map-Expr Expr Meaning mean (out-Expr x))
unfolding mean
means x = fold_out-Expr Meaning meaning_of x

by_form : (x : Expr) (f : Expr-F Expr) → out-Expr x ≡ f → mean x ≡ meaning_of (map-Expr Expr Meaning mean f)
by_form x f is = means x ∙ ap (λ g. meaning_of (map-Expr Expr Meaning mean g)) is

means_number : (n : ℕ) → mean (e.Integer n) ≡ (λ env. counted (number n env))
means_number n = by_form (e.Integer n) (Expr-F.Integer n) (search (rules, the_lemmas))

same_position : (n k : ℕ) → is_eq (int_cmp (pos n) (pos k)) ≡ (n == k)
same_position n k = grind (arith, nat_tests)

-- a step: a turn, two units of work, and the item at that position
one_kept : (n size i : ℕ) (env : Environment) (given : List Item) (x : Item) (run : Run) → in_range (pos n) ≡ Ok (pos n)
    → kept (λ env. counted (number n env)) env size i given x run ≡ turn (work 2 >>= (λ _. pure (and_if (n == suc i) given x))) run
one_kept n size i env given x run valued =
    ap (λ r. turn (counted (come_to r >>= (λ z. pure (one (atom.Integer z)))) >>= (λ items. come_to (selects (i + 1) items) >>= (λ b. pure (and_if b given x)))) run) valued
    ∙ ap (λ o. cond (run.turns == 0) (Err PXQ0002) o) (over (work 2 (record run { turns = run.turns - 1 })))
  where
    same : is_eq (int_cmp (pos n) (pos (i + 1))) ≡ (n == suc i)
    same = same_position n (i + 1) ∙ ap (λ k. n == k) (add-one i)

    over : (r : Result (Unit {0} × Run) Code)
        → and_then (and_then r (λ _. pure (one (atom.Integer (pos n))))) (λ items. come_to (selects (i + 1) items) >>= (λ b. pure (and_if b given x)))
        ≡ and_then r (λ _. pure (and_if (n == suc i) given x))
    over (Ok p) = ap (λ b. Ok (and_if b given x, p.1)) same
    over (Err code) = refl

-- all at once: so many turns, and twice so many units of work
abbrev at_once : (count : ℕ) → List Item → M (List Item)
at_once count items = turns count >>= (λ _. work count >>= (λ _. work count >>= (λ _. pure items)))

if_enough : {A : Type 0} (a p : Bool) (now : Run) (f : Unit {0} → M A) (v : Result (A × Run) Code) → f tt now ≡ cond p v (Err PXQ0002)
    → and_then (cond a (Ok (tt, now)) (Err PXQ0002)) f ≡ cond (a && p) v (Err PXQ0002)
if_enough true p now f v e = e
if_enough false p now f v e = refl

if_last : (a : Bool) (now : Run) (items : List Item) → and_then (cond a (Ok (tt {0}, now)) (Err PXQ0002)) (λ _. pure items) ≡ cond a (Ok (items, now)) (Err PXQ0002)
if_last true now items = refl
if_last false now items = refl

at_once_is : (count : ℕ) (items : List Item) (run : Run)
    → at_once count items run
    ≡ cond (nat_le count run.turns && (nat_le count run.work && nat_le count (run.work - count)))
    (Ok (items, record run { turns = run.turns - count; work = run.work - count - count })) (Err PXQ0002)
at_once_is count items run =
    let after = record run { turns = run.turns - count } in
    let all = Ok (items, record run { turns = run.turns - count; work = run.work - count - count }) in
    if_enough (nat_le count run.turns) (nat_le count run.work && nat_le count (run.work - count)) after (λ _. work count >>= (λ _. work count >>= (λ _. pure items))) all
    (if_enough (nat_le count run.work) (nat_le count (run.work - count)) (record after { work = run.work - count }) (λ _. work count >>= (λ _. pure items)) all
    (if_last (nat_le count (run.work - count)) (record after { work = run.work - count - count }) items))

-- a step, and then the others at once
step_and_others : (count : ℕ) (items more : List Item) (run : Run)
    → and_then (turn (work 2 >>= (λ _. pure items)) run) (λ found. at_once count (found ++ more))
    ≡ cond (not (run.turns == 0) && (nat_le 2 run.work && (nat_le count (run.turns - 1) && (nat_le count (run.work - 2) && nat_le count (run.work - 2 - count)))))
    (Ok (items ++ more, record run { turns = run.turns - 1 - count; work = run.work - 2 - count - count })) (Err PXQ0002)
step_and_others count items more run = over (run.turns == 0) (nat_le 2 run.work)
  where
    over : (none enough : Bool)
        → and_then (cond none (Err PXQ0002) (and_then (cond enough (Ok (tt {0}, record run { turns = run.turns - 1; work = run.work - 2 })) (Err PXQ0002)) (λ _. pure items))) (λ found. at_once count (found ++ more))
        ≡ cond (not none && (enough && (nat_le count (run.turns - 1) && (nat_le count (run.work - 2) && nat_le count (run.work - 2 - count)))))
        (Ok (items ++ more, record run { turns = run.turns - 1 - count; work = run.work - 2 - count - count })) (Err PXQ0002)
    over true enough = refl
    over false true = at_once_is count (items ++ more) (record run { turns = run.turns - 1; work = run.work - 2 })
    over false false = refl

-- both take the same
enough : (n t w : ℕ) → (not (t == 0) && (nat_le 2 w && (nat_le n (t - 1) && (nat_le n (w - 2) && nat_le n (w - 2 - n))))) ≡ (nat_le (suc n) t && (nat_le (suc n) w && nat_le (suc n) (w - suc n)))
enough n t w = grind (arith, nat_tests)

left_turns : (n t : ℕ) → t - 1 - n ≡ t - suc n
left_turns n t = omega arith

left_work : (n w : ℕ) → w - 2 - n - n ≡ w - suc n - suc n
left_work n w = omega arith

one_more : (count : ℕ) (items more : List Item) (run : Run)
    → and_then (turn (work 2 >>= (λ _. pure items)) run) (λ found. at_once count (found ++ more)) ≡ at_once (suc count) (items ++ more) run
one_more count items more run =
    step_and_others count items more run
    ∙ ap (λ b. cond b (Ok (items ++ more, record run { turns = run.turns - 1 - count; work = run.work - 2 - count - count })) (Err PXQ0002)) (enough count run.turns run.work)
    ∙ ap (λ t. cond all (Ok (items ++ more, record run { turns = t; work = run.work - 2 - count - count })) (Err PXQ0002)) (left_turns count run.turns)
    ∙ ap (λ w. cond all (Ok (items ++ more, record run { turns = run.turns - suc count; work = w })) (Err PXQ0002)) (left_work count run.work)
    ∙ sym (at_once_is (suc count) (items ++ more) run)
  where
    all : Bool
    all = nat_le (suc count) run.turns && (nat_le (suc count) run.work && nat_le (suc count) (run.work - suc count))

-- the item, of some with so many before them, whose position a number is
found_from : (number before : ℕ) → List Item → List Item
found_from n i [] = []
found_from n i (x ∷ xs) = if n == suc i then x ∷ [] else found_from n (suc i) xs

-- past the position there is no item of it
past : (n i : ℕ) (xs : List Item) → n ≤ i → found_from n i xs ≡ []
unfolding found_from
past n i [] before = refl
past n i (x ∷ xs) before =
    ap (λ b. cond b (x ∷ []) (found_from n (suc i) xs)) other ∙ past n (suc i) xs (omega (arith, before))
  where
    other : (n == suc i) ≡ false
    other = grind (arith, nat_tests)

nothing_after : (xs : List Item) → xs ++ [] ≡ xs
nothing_after [] = refl
nothing_after (x ∷ xs) = ap (λ ys. x ∷ ys) (nothing_after xs)

found_first : (n i : ℕ) (given : List Item) (x : Item) (xs : List Item) → and_if (n == suc i) given x ++ found_from n (suc i) xs ≡ given ++ found_from n i (x ∷ xs)
unfolding found_from
found_first n i given x xs = by (n == suc i) refl
  where
    by : (b : Bool) → (n == suc i) ≡ b → and_if b given x ++ found_from n (suc i) xs ≡ given ++ cond b (x ∷ []) (found_from n (suc i) xs)
    by true is = ap (λ ys. (given ++ x ∷ []) ++ ys) (past n (suc i) xs reached) ∙ nothing_after (given ++ x ∷ [])
      where
        reached : n ≤ suc i
        reached = grind (arith, nat_tests)
    by false is = refl

nothing_taken : (items : List Item) (run : Run) → at_once 0 items run ≡ Ok (items, run)
nothing_taken items run =
    at_once_is 0 items run
    ∙ ap (λ b. cond b (Ok (items, record run { turns = run.turns - 0; work = run.work - 0 - 0 })) (Err PXQ0002)) enough_for_none
    ∙ ap (λ t. Ok (items, record run { turns = t; work = run.work - 0 - 0 })) same_turns
    ∙ ap (λ w. Ok (items, record run { work = w })) same_work
  where
    enough_for_none : (nat_le 0 run.turns && (nat_le 0 run.work && nat_le 0 (run.work - 0))) ≡ true
    enough_for_none = grind (arith, nat_tests)

    same_turns : run.turns - 0 ≡ run.turns
    same_turns = omega arith

    same_work : run.work - 0 - 0 ≡ run.work
    same_work = omega arith

-- what the others come to, at once
others_kept : (count : ℕ) (more : List Item) (rest : List Item → M (List Item)) → ((found : List Item) (now : Run) → rest found now ≡ at_once count (found ++ more) now)
    → (r : Result (List Item × Run) Code) → and_then r rest ≡ and_then r (λ found. at_once count (found ++ more))
others_kept count more rest same (Ok p) = same p.0 p.1
others_kept count more rest same (Err code) = refl

same_gives : (m n : M (List Item)) (old new : Run) (r : Result (List Item) ValueFault) → m old ≡ n old → Gives m old r new → Gives n old r new
same_gives m n old new (Ok xs) same given = (sym same ∙ given.0, given.1)
same_gives m n old new (Err fault.Memory) same given = tt
same_gives m n old new (Err (fault.Code code)) same given = sym same ∙ given

-- each step's part of what all take at once
all_kept : (n size : ℕ) (env : Environment) → in_range (pos n) ≡ Ok (pos n) → (xs : List Item) (i : ℕ) (given : List Item) (run : Run)
    → each (kept (λ env. counted (number n env)) env size) i xs given run ≡ at_once (length xs) (given ++ found_from n i xs) run
unfolding found_from
all_kept n size env valued [] i given run = sym (nothing_taken (given ++ []) run ∙ ap (λ xs. Ok (xs, run)) (nothing_after given))
all_kept n size env valued (x ∷ xs) i given run =
    ap (λ r. and_then r (each (kept (λ env. counted (number n env)) env size) (suc i) xs)) (one_kept n size i env given x run valued)
    ∙ others_kept (length xs) (found_from n (suc i) xs) (each (kept (λ env. counted (number n env)) env size) (suc i) xs) (λ found now. all_kept n size env valued xs (suc i) found now)
    (turn (work 2 >>= (λ _. pure (and_if (n == suc i) given x))) run)
    ∙ one_more (length xs) (and_if (n == suc i) given x) (found_from n (suc i) xs) run
    ∙ ap (λ items. at_once (suc (length xs)) items run) (found_first n i given x xs)

-- it is the one at that index
found_is : (n i k : ℕ) (xs : List Item) → n ≡ i + suc k → found_from n i xs ≡ option_list (slice_get xs k)
unfolding found_from
found_is n i k [] at = refl
found_is n i zero (x ∷ xs) at = ap (λ b. cond b (x ∷ []) (found_from n (suc i) xs)) here
  where
    here : (n == suc i) ≡ true
    here = grind (arith, nat_tests)
found_is n i (suc k) (x ∷ xs) at =
    ap (λ b. cond b (x ∷ []) (found_from n (suc i) xs)) other ∙ found_is n (suc i) k xs (omega (arith, at))
  where
    other : (n == suc i) ≡ false
    other = grind (arith, nat_tests)

found_at : (n : ℕ) (xs : List Item) → found_from n 0 xs ≡ option_list (at_position n xs)
found_at n xs = by (n == 0) refl
  where
    by : (b : Bool) → (n == 0) ≡ b → found_from n 0 xs ≡ option_list (cond b None (slice_get xs (n - 1)))
    by true is = past n 0 xs (grind (arith, nat_tests))
    by false is = found_is n 0 (n - 1) xs (grind (arith, nat_tests))

pub filtered_by_number : (x : Expr) (n : ℕ) (env : Environment) (items : List Item) (old new : Run) (r : Result (List Item) ValueFault) → x ≡ e.Integer n → in_range (pos n) ≡ Ok (pos n)
    → Gives (numbered n items) old r new → Gives (filtered env items (mean x)) old r new
filtered_by_number x n env items old new r is valued given =
    same_gives (numbered n items) (filtered env items (mean x)) old new r
    (sym (ap (λ y. filtered env items (mean y) old) is ∙ ap (λ m. filtered env items m old) (means_number n) ∙ all_kept n (length items) env valued items 0 [] old
    ∙ ap (λ xs. at_once (length items) xs old) (found_at n items))) given
