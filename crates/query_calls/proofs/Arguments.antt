-- The values of several arguments, and the text of those that have at most one each.
use Rattle.std.proofs.Common.{◌≡◌, ℕ, suc, ◌+◌, ◌<◌, ◌≤◌, Bool, true, false, cond, List, [], ◌∷◌, ◌++◌, length, map, slice_index_or, refl, sym, ap, ◌∙◌, subst, arith, Result, Ok, Err, append_assoc}
use Rattle.std.specs.Prelude.{◌||◌}
use Rattle.std.specs.List.{All, concat, flat_map, list_any}
use Rattle.std.proofs.lemmas.List.{append-nil}
use Rattle.std.proofs.lemmas.List.Folds.{list_any-append}
use Rattle.std.proofs.lemmas.Bool.Decides.{nat_tests}
use Rattle.fault_codes.specs.declared.code.Code.TheVariants.{XPTY0004}
use Rattle.values.specs.declared.atom.Atom.{Atom}
use Rattle.values.specs.declared.atom.Item.{Item}
use Rattle.values.specs.declared.fault.ValueFault.{ValueFault}
use Rattle.values.specs.declared.fault.ValueFault.TheVariants as fault
use Rattle.query_meaning.specs.Environment.{Environment}
use Rattle.query_meaning.specs.Functions.{all_atoms, at_most_one, at_most_one_each, concatenated, first_printed, string}
use Rattle.query_meaning.specs.Running.{M, Run, and_then, pure, ◌>>=◌, atom as atom_at, come_to, each, atoms}
use Rattle.query_meaning.specs.Strings.{limited, printed}
use Rattle.evaluation.specs.Gives.{Any, Fails, Gives, GivesIn, Stand}
use Rattle.evaluation.proofs.Alone.{item_atoms}
use Rattle.evaluation.proofs.Counted.{grows_spent, stand_spent}
use Rattle.evaluation.proofs.Each.{Goes, begins, goes_on, stops, ends, then_gives}
use Rattle.query_calls.specs.declared.strings.ArgumentValues.{ArgumentValues}
use Rattle.query_calls.specs.Texts.{IsGathered, IsGatheredMore, concatenated_of, is_several}
use Rattle.query_calls.proofs.Giving.{atoms_fail, gives_same}

-- the values of one argument after the others
abbrev pub and_values : ℕ → List (List Atom) → List Item → M (List (List Atom))
and_values _ given x = atoms x >>= (λ values. pure (given ++ values ∷ []))

-- so many arguments are gathered
pub record IsGathering (arguments : List (List Item)) (old : Run) (k : ℕ) (g : ArgumentValues) (now : Run) : Type 0 where
  pub values : List (List Atom)
  pub goes : Goes Any and_values arguments [] old k values now
  pub same : now ≡ record old { work = now.work }
  pub all : g.values.items ≡ flat_map (λ vs. vs) values
  pub several : g.has_several ≡ list_any is_several values

pub gathers : (arguments : List (List Item)) (run : Run) (g : ArgumentValues) → g.values.items ≡ [] → g.has_several ≡ false → IsGathering arguments run 0 g run
gathers arguments run g none one = record { values = []; goes = begins Any and_values arguments [] run tt; same = refl; all = none; several = one }

-- the nodes of an argument stand still
pub still_stand : (arguments : List (List Item)) (old : Run) (k : ℕ) (g : ArgumentValues) (now : Run) (x : List Item)
    → IsGathering arguments old k g now → All (λ s. Stand s old) arguments → k < length arguments → x ≡ slice_index_or arguments k x → Stand x now
still_stand arguments old k g now x h stand below here = stand_spent x old now h.same (subst (λ s. Stand s old) (sym here) (stand k x below))

flat_one : (vs : List (List Atom)) (ws : List Atom) → flat_map (λ xs. xs) (vs ++ ws ∷ []) ≡ flat_map (λ xs. xs) vs ++ ws
flat_one [] ws = append-nil ws
flat_one (v ∷ vs) ws = ap (λ xs. v ++ xs) (flat_one vs ws) ∙ sym (append_assoc v (flat_map (λ xs. xs) vs) ws)

or_false : (b : Bool) → b || false ≡ b
or_false true = refl
or_false false = refl

pub gathers_on : (arguments : List (List Item)) (old now new : Run) (k : ℕ) (before after : ArgumentValues) (x : List Item)
    → IsGathering arguments old k before now → k < length arguments → x ≡ slice_index_or arguments k x → IsGatheredMore x now new before after → IsGathering arguments old (k + 1) after new
gathers_on arguments old now new k before after x h below here more = record {
  values = h.values ++ more.values ∷ [];
  goes = goes_on Any and_values arguments [] old k h.values (h.values ++ more.values ∷ []) now new x h.goes below here
      (ap (λ r. and_then r (λ values. pure (h.values ++ values ∷ []))) more.are, (grows_spent now new more.same, tt));
  same = more.same ∙ ap (λ (run : Run). record run { work = new.work }) h.same;
  all = more.all ∙ ap (λ xs. xs ++ more.values) h.all ∙ sym (flat_one h.values more.values);
  several = more.several ∙ ap (λ b. b || is_several more.values) h.several ∙ sym (list_any-append is_several h.values (more.values ∷ []) ∙ ap (λ b. list_any is_several h.values || b) (or_false (is_several more.values)));
}

pub gathers_not : (arguments : List (List Item)) (old now : Run) (k : ℕ) (before : ArgumentValues) (x : List Item) (f : ValueFault)
    → IsGathering arguments old k before now → k < length arguments → x ≡ slice_index_or arguments k x → Fails (atoms x now) f → Fails (all_atoms arguments old) f
gathers_not arguments old now k before x f h below here e = stops Any and_values arguments [] old k h.values now now x f h.goes below here (atoms_fail (λ values. pure (h.values ++ values ∷ [])) x now f e)

pub gathered_all : (arguments : List (List Item)) (old now : Run) (k : ℕ) (g : ArgumentValues) → IsGathering arguments old k g now → length arguments ≤ k → IsGathered arguments old now g
gathered_all arguments old now k g h past = record { values = h.values; are = ends Any and_values arguments [] old k h.values now h.goes past; all = h.all; several = h.several }

-- an argument of one item
pub alone_gathered : (x : Item) (old new : Run) (a : Atom) (before after : ArgumentValues) → GivesIn Any (atom_at x) old (Ok a) new → new ≡ record old { work = new.work }
    → after.values.items ≡ before.values.items ++ a ∷ [] → after.has_several ≡ before.has_several → IsGatheredMore (x ∷ []) old new before after
alone_gathered x old new a before after given same all several = record {
  values = a ∷ [];
  are = item_atoms x old ∙ ap (λ r. and_then r (λ b. pure (b ∷ []))) given.0;
  same = same;
  all = all;
  several = several ∙ sym (ap (λ b. before.has_several || b) not_several ∙ or_false before.has_several);
}
  where
    not_several : is_several (a ∷ []) ≡ false
    not_several = grind (arith, nat_tests)

pub alone_fails : (x : Item) (old : Run) (found : ValueFault) → Fails (atom_at x old) found → Fails (atoms (x ∷ []) old) found
alone_fails x old fault.Memory e = tt
alone_fails x old (fault.Code code) e = item_atoms x old ∙ ap (λ r. and_then r (λ b. pure (b ∷ []))) e

-- the text of one argument more
abbrev and_text : ℕ → List (List ℕ) → List Atom → M (List (List ℕ))
and_text _ given values = come_to (at_most_one values) >>= (λ text. pure (given ++ text ∷ []))

judged : (n : ℕ) (vs : List (List Atom)) (given : List (List ℕ)) (run : Run)
    → each and_text n vs given run ≡ cond (list_any is_several vs) (Err XPTY0004) (Ok (given ++ map first_printed vs, run))
judged n [] given run = ap (λ ts. Ok (ts, run)) (sym (append-nil given))
judged n ([] ∷ vs) given run =
    judged (suc n) vs (given ++ [] ∷ []) run ∙ ap (λ ts. cond (list_any is_several vs) (Err XPTY0004) (Ok (ts, run))) (append_assoc given ([] ∷ []) (map first_printed vs))
judged n ((a ∷ []) ∷ vs) given run =
    judged (suc n) vs (given ++ printed a ∷ []) run ∙ ap (λ ts. cond (list_any is_several vs) (Err XPTY0004) (Ok (ts, run))) (append_assoc given (printed a ∷ []) (map first_printed vs))
judged n ((a ∷ b ∷ rest) ∷ vs) given run = ap (λ t. cond (t || list_any is_several vs) (Err XPTY0004) (Ok (given ++ map first_printed ((a ∷ b ∷ rest) ∷ vs), run))) (sym more)
  where
    more : is_several (a ∷ b ∷ rest) ≡ true
    more = grind (arith, nat_tests)

-- of arguments that have at most one value each
flat : (vs : List (List Atom)) → list_any is_several vs ≡ false → concat (map first_printed vs) ≡ flat_map printed (flat_map (λ xs. xs) vs)
flat [] e = refl
flat ([] ∷ vs) e = flat vs e
flat ((a ∷ []) ∷ vs) e = ap (λ t. printed a ++ t) (flat vs e)
flat ((a ∷ b ∷ rest) ∷ vs) e = absurd (by (is_several (a ∷ b ∷ rest)) (grind (arith, nat_tests)) e)
  where
    by : (t : Bool) → t ≡ true → t || list_any is_several vs ≡ false → ⊥
    by true is e = cc
    by false is e = cc

text_of : (vs : List (List Atom)) (run : Run) (b : Bool) → list_any is_several vs ≡ b
    → and_then (cond b (Err XPTY0004) (Ok (map first_printed vs, run))) (λ texts. come_to (limited (concat texts)) >>= string) ≡ concatenated_of (flat_map (λ xs. xs) vs) b run
text_of vs run true is = refl
text_of vs run false is = ap (λ t. (come_to (limited t) >>= string) run) (flat vs is)

-- once the values of all arguments are known
concatenated_is : (arguments : List (List Item)) (old mid : Run) (g : ArgumentValues) (h : IsGathered arguments old mid g)
    → (at_most_one_each h.values >>= (λ texts. come_to (limited (concat texts)) >>= string)) mid ≡ concatenated_of g.values.items g.has_several mid
concatenated_is arguments old mid g h =
    ap (λ r. and_then r (λ texts. come_to (limited (concat texts)) >>= string)) (judged 0 h.values [] mid) ∙ text_of h.values mid (list_any is_several h.values) refl
    ∙ ap (λ xs. concatenated_of xs (list_any is_several h.values) mid) (sym h.all) ∙ ap (λ b. concatenated_of g.values.items b mid) (sym h.several)

pub concatenated_gives : (env : Environment) (arguments : List (List Item)) (old mid new : Run) (g : ArgumentValues) (r : Result (List Item) ValueFault)
    → IsGathered arguments old mid g → Gives (concatenated_of g.values.items g.has_several) mid r new → Gives (concatenated env arguments) old r new
concatenated_gives env arguments old mid new g r h given =
    then_gives Any Stand (all_atoms arguments) (λ values. at_most_one_each values >>= (λ texts. come_to (limited (concat texts)) >>= string)) old mid new h.values r h.are
    (gives_same (at_most_one_each h.values >>= (λ texts. come_to (limited (concat texts)) >>= string)) (concatenated_of g.values.items g.has_several) mid new r (concatenated_is arguments old mid g h) given)
