-- One tuple more.
use Rattle.std.proofs.Common.{◌≡◌, ℕ, List, [], ◌∷◌, ◌++◌, length, map, Option, Bool, true, false, cond, ap, ◌∙◌, subst, Result, Ok, Err}
use Rattle.std.specs.Prelude.{nat_le}
use Rattle.values.specs.declared.atom.Atom.{Atom}
use Rattle.fault_codes.specs.declared.code.Code.TheVariants.{PXQ0002}
use Rattle.values.specs.declared.fault.ValueFault.{ValueFault}
use Rattle.values.specs.declared.fault.ValueFault.TheVariants as fault
use Rattle.query_grammar.specs.declared.ast.SortKey.{SortKey}
use Rattle.query_meaning.specs.Environment.{Environment}
use Rattle.query_meaning.specs.Running.{Run, and_then, come_to, most_items}
use Rattle.query_meaning.specs.Sequences.{Meaning, Tuple, kept_tuple, keys_in, and_tuple, tested, if_so}
use Rattle.evaluation.specs.Gives.{Any, GivesIn, Says, IsReady}
use Rattle.sorted_tuples.specs.Keys.{Each, IsWide, AreKept}
use Rattle.sorted_tuples.specs.Keys.{sort_key_of}
use Rattle.keyed_items.specs.Keyed.{and_tuple_of}
use Rattle.evaluation.proofs.Each.{then_gives}
use Rattle.item_expressions.specs.Lasting.{ready_on}
use Rattle.keyed_items.specs.Lasting.{kept_grows}

each_more : {X : Type 0} (P : X → Type 0) (xs : List X) (x : X) → Each P xs → P x → Each P (xs ++ x ∷ [])
each_more P [] x h p = (p, tt)
each_more P (y ∷ ys) x h p = (h.0, each_more P ys x h.1 p)

-- one tuple more
pub more_kept : (n : ℕ) (env : Environment) (given ts : List Tuple) (ks : List (Option Atom)) (run : Run) → IsReady env run → AreKept n given run → length ks ≡ n → and_tuple env given ks ≡ Ok ts → AreKept n ts run
more_kept n env given ts ks run ready kept wide e = by (nat_le most_items (length given)) e
  where
    more : given ++ record { environment = env; keys = ks } ∷ [] ≡ ts → AreKept n ts run
    more is =
        let P : List Tuple → Type 0 = λ us. AreKept n us run in
        subst P is (record { widths = each_more (IsWide n) given _ kept.widths wide; ready = each_more (λ (t : Tuple). IsReady t.environment run) given _ kept.ready ready })

    by : (b : Bool) → cond b (Err PXQ0002) (Ok (given ++ record { environment = env; keys = ks } ∷ [])) ≡ Ok ts → AreKept n ts run
    by true e = cc
    by false e = more cc

pub tuple_kept : {A : Type 0} (f : A → Meaning) (keys : List (SortKey A)) (env kept : Environment) (given : List Tuple) (ks : List (Option Atom)) (old new : Run) (r : Result (List Tuple) ValueFault)
    → IsReady env old → AreKept (length keys) given old → GivesIn Any (keys_in (map (sort_key_of f) keys) env) old (Ok ks) new → length ks ≡ length keys → kept ≡ env → Says (and_tuple kept given ks) r
    → GivesIn (AreKept (length keys)) (and_tuple_of (map (sort_key_of f) keys) env given) old r new
tuple_kept f keys env kept given ks old new r ready all g wide same says = by r (subst P same says)
  where
    P : Environment → Type 0
    P = λ e. Says (and_tuple e given ks) r

    by : (r : Result (List Tuple) ValueFault) → Says (and_tuple env given ks) r → GivesIn (AreKept (length keys)) (and_tuple_of (map (sort_key_of f) keys) env given) old r new
    by (Ok ts) e = (
      ap (λ o. and_then o (λ ks. come_to (and_tuple env given ks))) g.0 ∙ ap (λ o. come_to o new) e,
      (g.1.0, more_kept (length keys) env given ts ks new (ready_on env old new g.1.0 ready) (kept_grows (length keys) given old new g.1.0 all) wide e),
    )
    by (Err fault.Memory) e = tt
    by (Err (fault.Code code)) e = ap (λ o. and_then o (λ ks. come_to (and_tuple env given ks))) g.0 ∙ ap (λ o. come_to o new) e

-- `where`, before the keys
pub tested_kept : (n : ℕ) (test : Option Meaning) (keys : List (SortKey Meaning)) (env seen : Environment) (given : List Tuple) (old mid new : Run) (b : Bool) (r : Result (List Tuple) ValueFault)
    → seen ≡ env → b ≡ true → GivesIn Any (tested test seen) old (Ok b) mid → GivesIn (AreKept n) (and_tuple_of keys seen given) mid r new → GivesIn (AreKept n) (kept_tuple test keys env given) old r new
tested_kept n test keys env seen given old mid new b r same is g h =
    let T : Bool → Type 0 = λ b. GivesIn Any (tested test seen) old (Ok b) mid in
    let E : Environment → Type 0 = λ e. GivesIn (AreKept n) (kept_tuple test keys e given) old r new in
    subst E same (then_gives Any (AreKept n) (tested test seen) (λ b. if_so b (and_tuple_of keys seen given) given) old mid new true r (subst T is g) h)
