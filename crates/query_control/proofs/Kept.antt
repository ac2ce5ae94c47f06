-- Tuples that are kept, over what an evaluation does.
use Rattle.std.proofs.Common.{◌≡◌, ℕ, zero, suc, ◌<◌, List, [], ◌∷◌, length, map, slice_index_or, Option, Bool, true, false, cond, refl, sym, ap, ◌∙◌, subst, arith, Result, Ok, Err}
use Rattle.values.specs.declared.atom.Item.{Item}
use Rattle.fault_codes.specs.declared.code.Code.{Code}
use Rattle.fault_codes.specs.declared.code.Code.TheVariants.{XPTY0004}
use Rattle.values.specs.declared.fault.ValueFault.{ValueFault}
use Rattle.values.specs.declared.fault.ValueFault.TheVariants as fault
use Rattle.query_grammar.specs.declared.ast.Clause.{Clause}
use Rattle.query_grammar.specs.declared.ast.SortKey.{SortKey}
use Rattle.query_meaning.specs.Environment.{Bound, Environment}
use Rattle.query_meaning.specs.Running.{M, Run, and_then, come_to, ◌>>=◌}
use Rattle.query_meaning.specs.Sequences.{Meaning, Tuple, tuples, kept_tuple, all_comparable, sorted, in_sorted_order, ordered, flwor, returned}
use Rattle.evaluation.specs.Gives.{Fails, GivesIn, Gives, Says, IsReady, Stand}
use Rattle.sorted_tuples.specs.Keys.{AreKept, AreReady}
use Rattle.sorted_tuples.specs.Keys.{sort_key_of}
use Rattle.query_control.specs.Parts.{in_order, returned_in_order}
use Rattle.clause_walks.specs.Walked.{with_variables}
use Rattle.evaluation.proofs.Each.{then_gives}
use Rattle.sorted_tuples.proofs.Sorting.{each_of_all, tuples_inserted}

-- no tuples
pub kept_none : (n : ℕ) (run : Run) → AreKept n [] run
kept_none n run = record { widths = tt; ready = tt }

-- the environment of a tuple
pub ready_at : (ts : List Tuple) (k : ℕ) (t : Tuple) (run : Run) → AreReady ts run → k < length ts → t ≡ slice_index_or ts k t → IsReady t.environment run
ready_at [] k t run h below is = absurd (omega (arith, below))
ready_at (u ∷ us) zero t run h below is = let P : Tuple → Type 0 = λ v. IsReady v.environment run in subst P (sym is) h.0
ready_at (u ∷ us) (suc k) t run h below is = ready_at us k t run h.1 (omega (arith, below)) is

-- a walk from the start
pub starts : {S : Type 0} (P : S → Run → Type 0) (cs : List (Clause Meaning)) (k : Environment → S → M S) (env : Environment) (bs : List Bound) (given none : S) (old new : Run) (r : Result S ValueFault)
    → bs ≡ env.variables → given ≡ none → GivesIn P (tuples cs k (with_variables bs env) given) old r new → GivesIn P (tuples cs k env none) old r new
starts P cs k env bs given none old new r same empty g =
    subst (λ s. GivesIn P (tuples cs k env s) old r new) empty (subst (λ bs. GivesIn P (tuples cs k (with_variables bs env) given) old r new) same g)

-- the tuples in their order
sorted_ready : (keys : List (SortKey Meaning)) (ts us : List Tuple) (run : Run) → AreReady ts run → in_sorted_order keys ts ≡ Ok us → AreReady us run
sorted_ready keys ts us run h e = by (all_comparable ts) e
  where
    in_order_ready : AreReady (sorted keys ts) run
    in_order_ready = let P : List Tuple → Type 0 = λ vs. AreReady vs run in subst P (sym (tuples_inserted keys ts)) (each_of_all _ (λ (t : Tuple). IsReady t.environment run) ts h)

    same : sorted keys ts ≡ us → AreReady us run
    same is = let P : List Tuple → Type 0 = λ vs. AreReady vs run in subst P is in_order_ready

    by : (b : Bool) → cond b (Ok (sorted keys ts)) (Err XPTY0004) ≡ Ok us → AreReady us run
    by true e = same cc
    by false e = cc

pub order_gives : (cs : List (Clause Meaning)) (test : Option Meaning) (keys : List (SortKey Meaning)) (env : Environment) (n : ℕ) (bs : List Bound) (none found : List Tuple) (old new : Run) (r : Result (List Tuple) ValueFault)
    → bs ≡ env.variables → none ≡ [] → GivesIn (AreKept n) (tuples cs (kept_tuple test keys) (with_variables bs env) none) old (Ok found) new → Says (in_sorted_order keys found) r → GivesIn AreReady (in_order cs test keys env) old r new
order_gives cs test keys env n bs none found old new r same empty given e = by r e
  where
    g : GivesIn (AreKept n) (tuples cs (kept_tuple test keys) env []) old (Ok found) new
    g = starts (AreKept n) cs (kept_tuple test keys) env bs none [] old new (Ok found) same empty given

    by : (r : Result (List Tuple) ValueFault) → Says (in_sorted_order keys found) r → GivesIn AreReady (in_order cs test keys env) old r new
    by (Ok ts) e = (ap (λ o. and_then o (λ found. come_to (in_sorted_order keys found))) g.0 ∙ ap (λ o. come_to o new) e, (g.1.0, sorted_ready keys found ts new g.1.1.ready e))
    by (Err fault.Memory) e = tt
    by (Err (fault.Code code)) e = ap (λ o. and_then o (λ found. come_to (in_sorted_order keys found))) g.0 ∙ ap (λ o. come_to o new) e

pub order_fails : (cs : List (Clause Meaning)) (test : Option Meaning) (keys : List (SortKey Meaning)) (env : Environment) (n : ℕ) (bs : List Bound) (none : List Tuple) (old new : Run) (found : ValueFault)
    → bs ≡ env.variables → none ≡ [] → GivesIn (AreKept n) (tuples cs (kept_tuple test keys) (with_variables bs env) none) old (Err found) new → Fails (in_order cs test keys env old) found
order_fails cs test keys env n bs none old new fault.Memory same empty g = tt
order_fails cs test keys env n bs none old new (fault.Code code) same empty g =
    ap (λ o. and_then o (λ found. come_to (in_sorted_order keys found))) (starts (AreKept n) cs (kept_tuple test keys) env bs none [] old new (Err (fault.Code code)) same empty g)

-- and `return` at them
gives_same : {A : Type 0} (P : A → Run → Type 0) (m q : M A) (old new : Run) (r : Result A ValueFault) → m old ≡ q old → GivesIn P q old r new → GivesIn P m old r new
gives_same P m q old new (Ok a) e g = (e ∙ g.0, g.1)
gives_same P m q old new (Err fault.Memory) e g = tt
gives_same P m q old new (Err (fault.Code code)) e g = e ∙ g

ordered_is : (cs : List (Clause Meaning)) (test : Option Meaning) (keys : List (SortKey Meaning)) (m : Meaning) (env : Environment) (run : Run)
    → ordered cs test keys m env run ≡ (in_order cs test keys env >>= returned_in_order m) run
ordered_is cs test keys m env run = by (tuples cs (kept_tuple test keys) env [] run)
  where
    by : (r : Result (List Tuple × Run) Code)
        → and_then r (λ found. come_to (in_sorted_order keys found) >>= returned_in_order m) ≡ and_then (and_then r (λ found. come_to (in_sorted_order keys found))) (returned_in_order m)
    by (Ok p) = refl
    by (Err code) = refl

pub ordered_gives : (cs : List (Clause Meaning)) (test : Option Meaning) (keys : List (SortKey Meaning)) (m : Meaning) (env : Environment) (ts seen : List Tuple) (old mid new : Run) (r : Result (List Item) ValueFault)
    → GivesIn AreReady (in_order cs test keys env) old (Ok ts) mid → seen ≡ ts → Gives (returned_in_order m seen) mid r new → Gives (ordered cs test keys m env) old r new
ordered_gives cs test keys m env ts seen old mid new r g same h =
    let P : List Tuple → Type 0 = λ us. Gives (returned_in_order m us) mid r new in
    gives_same Stand (ordered cs test keys m env) (in_order cs test keys env >>= returned_in_order m) old new r (ordered_is cs test keys m env old)
    (then_gives AreReady Stand (in_order cs test keys env) (returned_in_order m) old mid new ts r g (subst P same h))

-- a FLWOR expression, with keys and without
pub with_keys : {A : Type 0} (f : A → Meaning) (cs : List (Clause Meaning)) (test : Option Meaning) (keys seen : List (SortKey A)) (m : Meaning) (env : Environment) (old new : Run) (r : Result (List Item) ValueFault)
    → (keys ≡ [] → ⊥) → seen ≡ keys → Gives (ordered cs test (map (sort_key_of f) seen) m env) old r new → Gives (flwor cs test (map (sort_key_of f) keys) m env) old r new
with_keys f cs test [] seen m env old new r some same g = absurd (some refl)
with_keys f cs test (key ∷ keys) seen m env old new r some same g =
    let P : List (SortKey _) → Type 0 = λ ks. Gives (ordered cs test (map (sort_key_of f) ks) m env) old r new in subst P same g

pub without_keys : {A : Type 0} (f : A → Meaning) (cs : List (Clause Meaning)) (test : Option Meaning) (keys : List (SortKey A)) (m : Meaning) (env : Environment) (old new : Run) (r : Result (List Item) ValueFault)
    → keys ≡ [] → Gives (tuples cs (returned test m) env []) old r new → Gives (flwor cs test (map (sort_key_of f) keys) m env) old r new
without_keys f cs test [] m env old new r none g = g
without_keys f cs test (key ∷ keys) m env old new r none g = cc

pub not_both : (b : Bool) → b ≡ true → b ≡ false → ⊥
not_both b e f = cc (e, f)
