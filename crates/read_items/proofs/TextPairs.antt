-- Comparisons of texts where they lie come to what those of the items do.
use Rattle.std.proofs.Common.{◌≡◌, ◌∙◌, ℕ, suc, ◌+◌, ◌-◌, nat_le, Bool, true, false, ◌&&◌, if◌then◌else◌, List, [], ◌∷◌, ◌++◌, length, take, Option, Some, None, Result, Ok, Err, refl, ap, sym, arith, append-nil, append_assoc}
use Rattle.std.specs.List.{sum}
use Rattle.std.specs.Option.{option_and_then}
use Rattle.std.proofs.lemmas.List.Sums.{sum_by-cons}
use Rattle.data_model.specs.Trees.{Trees}
use Rattle.fault_codes.specs.declared.code.Code.{Code}
use Rattle.fault_codes.specs.declared.code.Code.TheVariants.{PXQ0002}
use Rattle.values.specs.Atoms as values
use Rattle.values.specs.Comparisons.{as_string, decided, holds, pair_compared, pair_work, pairs_compared, pairs_work, string_cmp, tried, tried_work}
use Rattle.values.specs.LentTexts.{IsLentText}
use Rattle.values.specs.Paid.{nodes_in}
use Rattle.values.specs.Work.{text_of, text_work}
use Rattle.values.specs.declared.atom.Atom.{Atom}
use Rattle.values.specs.declared.atom.Atom.TheVariants.{String, Boolean, Untyped, Integer}
use Rattle.values.specs.declared.atom.Item.{Item}
use Rattle.values.specs.declared.atom.Item.TheVariants as item
use Rattle.values.specs.declared.compare.Comparison.{Comparison}
use Rattle.values.specs.declared.fault.ValueFault.{ValueFault}
use Rattle.values.specs.declared.fault.ValueFault.TheVariants as fault
use Rattle.values.specs.declared.lent.LentText.{LentText}
use Rattle.query_meaning.specs.Running.{M, Run, and_then, ◌>>=◌, atom as atom_at, atoms, come_to, each, nodes_of, pure, trees_of, turns, work}
use Rattle.evaluation.specs.Gives.{Any, Fails, GivesIn}
use Rattle.evaluation.proofs.Alone.{item_atoms}
use Rattle.read_items.specs.Pairs.{and_text, and_texts, compared, each_compared, items_compared, no_pairs, pairs_of, pairs_taken, shorter, text}
use Rattle.read_items.specs.Read.{IsTaken}
use Rattle.read_items.specs.Texts.{string_at, text_paid}
use Rattle.read_items.specs.declared.read_item.TakenText.{TakenText}
use Rattle.read_items.specs.declared.text_pairs.TextPairs.{TextPairs}
use Rattle.read_items.proofs.Taking.{text_atom, text_in, text_is, its_text, together, then_same, then_same_after, no_work, works, turns_first, atom_paid, atom_taken}

-- ---- two values that are texts
module _ (op : Comparison) where
  abbrev answer : List ℕ → List ℕ → Result Bool Code
  answer s t = Ok (holds op (string_cmp s t))

  same_texts : (s t u v : List ℕ) → s ≡ u → t ≡ v → answer s t ≡ answer u v
  same_texts s t u v p q = ap (λ w. answer w t) p ∙ ap (answer u) q

  pair_of_texts : (a b : Atom) (s t : List ℕ) → as_string a ≡ String s → as_string b ≡ String t → pair_compared op a b ≡ Ok (holds op (string_cmp s t))
  pair_of_texts (String u) (String v) s t h k = let p : u ≡ s = cc in let q : v ≡ t = cc in same_texts u v s t p q
  pair_of_texts (String u) (Untyped v) s t h k = let p : u ≡ s = cc in let q : v ≡ t = cc in same_texts u v s t p q
  pair_of_texts (Untyped u) (String v) s t h k = let p : u ≡ s = cc in let q : v ≡ t = cc in same_texts u v s t p q
  pair_of_texts (Untyped u) (Untyped v) s t h k = let p : u ≡ s = cc in let q : v ≡ t = cc in same_texts u v s t p q
  pair_of_texts (String u) (Boolean b) s t h k = absurd cc
  pair_of_texts (String u) (Integer z) s t h k = absurd cc
  pair_of_texts (Untyped u) (Boolean b) s t h k = absurd cc
  pair_of_texts (Untyped u) (Integer z) s t h k = absurd cc
  pair_of_texts (Boolean b) c s t h k = absurd cc
  pair_of_texts (Integer z) c s t h k = absurd cc

work_of_texts : (a b : Atom) (s t : List ℕ) → text_of a ≡ s → text_of b ≡ t → pair_work a b ≡ shorter s t
work_of_texts a b s t p q = ap (λ u. shorter u (text_of b)) p ∙ ap (shorter s) q

-- ---- pairs of items with a value that is a text
-- from p to q: the values, what is paid for them, and their pairs where none before holds
record Ended (ts : Trees) (op : Comparison) (b : Atom) (xs : List Item) (p q : TextPairs) : Type 0 where
  pub values : List Atom
  pub paid : ℕ
  pub given : (n : ℕ) (before : List Atom) (run : Run) → trees_of run ≡ ts → each (λ _ given x. atom_at x >>= (λ a. pure (given ++ a ∷ []))) n xs before run ≡ and_then (work paid run) (λ _. pure (before ++ values))
  pub held : p.holds ≡ true → (q.holds ≡ true) × ((q.turns ≡ p.turns) × (q.work ≡ p.work + paid))
  pub untold : p.holds ≡ false → (decided (pairs_compared op values (b ∷ [])) ≡ Ok q.holds) × ((q.turns ≡ p.turns + tried (pairs_compared op values (b ∷ []))) × (q.work ≡ p.work + paid + tried_work op values (b ∷ [])))

sum-cons : (w : ℕ) (ws : List ℕ) → sum (w ∷ ws) ≡ w + sum ws
sum-cons w ws = sum_by-cons (λ x. x) w ws

module _ (ts : Trees) (op : Comparison) (b : Atom) (other : List ℕ) (is : as_string b ≡ String other) where
  none : (p q : TextPairs) → p ≡ q → Ended ts op b [] p q
  none p q e = record {
    values = [];
    paid = 0;
    given = λ n before run same. sym (ap (λ r. and_then r (λ _. pure (before ++ []))) (no_work run) ∙ ap (λ xs. Ok (xs, run)) (append-nil before));
    held = λ holds. (ap (λ r. r.holds) (sym e) ∙ holds, (ap (λ r. r.turns) (sym e), let w : q.work ≡ p.work = ap (λ r. r.work) (sym e) in omega (arith, w)));
    untold = λ holds. (ap Ok (sym holds ∙ ap (λ r. r.holds) e), (let n : q.turns ≡ p.turns = ap (λ r. r.turns) (sym e) in omega (arith, n), let w : q.work ≡ p.work = ap (λ r. r.work) (sym e) in omega (arith, w)));
  }

  module _ (x : Item) (xs : List Item) (p q : TextPairs) (t : List ℕ) (a : Atom) (found : values.atom_of ts x ≡ Ok a) (has : as_string a ≡ String t) where
    abbrev nodes : ℕ
    nodes = nodes_in ts x

    abbrev holds_here : Bool
    holds_here = holds op (string_cmp t other)

    abbrev next : TextPairs
    next = and_text op other nodes t p

    module _ (rest : Ended ts op b xs next q) where
      abbrev vs : List Atom
      vs = rest.values

      abbrev here : ℕ
      here = nodes + text_work t

      given_more : (n : ℕ) (before : List Atom) (run : Run) → trees_of run ≡ ts
          → each (λ _ given x. atom_at x >>= (λ a. pure (given ++ a ∷ []))) n (x ∷ xs) before run ≡ and_then (work (here + rest.paid) run) (λ _. pure (before ++ a ∷ vs))
      given_more n before run same =
          ap (λ r. and_then (and_then r (λ a. pure (before ++ a ∷ []))) (each (λ _ given x. atom_at x >>= (λ a. pure (given ++ a ∷ []))) (suc n) xs))
          (atom_taken x a nodes (text_work t) run (ap (λ ts. values.atom_of ts x) same ∙ found) (ap text_work (text_in a t has)) (ap (λ ts. nodes_in ts x) (sym same)))
          ∙ ap (λ r. and_then r (each (λ _ given x. atom_at x >>= (λ a. pure (given ++ a ∷ []))) (suc n) xs)) (together (work here run) (λ _. pure a) (λ a. pure (before ++ a ∷ [])))
          ∙ together (work here run) (λ _. pure (before ++ a ∷ [])) (each (λ _ given x. atom_at x >>= (λ a. pure (given ++ a ∷ []))) (suc n) xs)
          ∙ then_same_after here (each (λ _ given x. atom_at x >>= (λ a. pure (given ++ a ∷ []))) (suc n) xs (before ++ a ∷ [])) (work rest.paid >>= (λ _. pure (before ++ a ∷ vs))) run
          (λ left. rest.given (suc n) (before ++ a ∷ []) (record run { work = left }) same ∙ ap (λ ys. and_then (work rest.paid (record run { work = left })) (λ _. pure ys)) (append_assoc before (a ∷ []) vs))
          ∙ sym (together (work here run) (λ _. work rest.paid) (λ _. pure (before ++ a ∷ vs))) ∙ ap (λ r. and_then r (λ _. pure (before ++ a ∷ vs))) (works here rest.paid run)

      held_more : p.holds ≡ true → (q.holds ≡ true) × ((q.turns ≡ p.turns) × (q.work ≡ p.work + (here + rest.paid)))
      held_more held =
          let is : next ≡ record p { work = p.work + here } = ap (λ c. if c then record p { work = p.work + here } else record { holds = holds_here; turns = suc p.turns; work = p.work + here + shorter t other }) held in
          let w : next.work ≡ p.work + here = ap (λ r. r.work) is in
          let e = rest.held (ap (λ r. r.holds) is ∙ held) in
          let v : q.work ≡ next.work + rest.paid = e.1.1 in
          (e.0, (e.1.0 ∙ ap (λ r. r.turns) is, omega (arith, w, v)))

      pairs_first : pairs_compared op (a ∷ vs) (b ∷ []) ≡ Ok holds_here ∷ pairs_compared op vs (b ∷ [])
      pairs_first = ap (λ r. r ∷ pairs_compared op vs (b ∷ [])) (pair_of_texts op a b t other has is)

      works_first : pairs_work (a ∷ vs) (b ∷ []) ≡ shorter t other ∷ pairs_work vs (b ∷ [])
      works_first = ap (λ w. w ∷ pairs_work vs (b ∷ [])) (work_of_texts a b t other (text_in a t has) (text_in b other is))

      abbrev Tried : Bool → Type 0
      Tried c =
          (decided (Ok c ∷ pairs_compared op vs (b ∷ [])) ≡ Ok q.holds)
          × ((q.turns ≡ p.turns + tried (Ok c ∷ pairs_compared op vs (b ∷ [])))
          × (q.work ≡ p.work + (here + rest.paid) + sum (take (tried (Ok c ∷ pairs_compared op vs (b ∷ []))) (shorter t other ∷ pairs_work vs (b ∷ [])))))

      untold_next : (c : Bool) → next ≡ record { holds = c; turns = suc p.turns; work = p.work + here + shorter t other } → Tried c
      untold_next true next_is =
          let n : next.turns ≡ suc p.turns = ap (λ r. r.turns) next_is in
          let w : next.work ≡ p.work + here + shorter t other = ap (λ r. r.work) next_is in
          let e = rest.held (ap (λ r. r.holds) next_is) in
          let m : q.turns ≡ next.turns = e.1.0 in
          let v : q.work ≡ next.work + rest.paid = e.1.1 in
          let s : sum (shorter t other ∷ []) ≡ shorter t other + 0 = sum-cons (shorter t other) [] in
          (ap Ok (sym e.0), (omega (arith, n, m), omega (arith, w, v, s)))
      untold_next false next_is =
          let n : next.turns ≡ suc p.turns = ap (λ r. r.turns) next_is in
          let w : next.work ≡ p.work + here + shorter t other = ap (λ r. r.work) next_is in
          let e = rest.untold (ap (λ r. r.holds) next_is) in
          let m : q.turns ≡ next.turns + tried (pairs_compared op vs (b ∷ [])) = e.1.0 in
          let v : q.work ≡ next.work + rest.paid + tried_work op vs (b ∷ []) = e.1.1 in
          let s : sum (shorter t other ∷ take (tried (pairs_compared op vs (b ∷ []))) (pairs_work vs (b ∷ []))) ≡ shorter t other + tried_work op vs (b ∷ []) = sum-cons (shorter t other) (take (tried (pairs_compared op vs (b ∷ []))) (pairs_work vs (b ∷ []))) in
          (e.0, (omega (arith, n, m), omega (arith, w, v, s)))

      untold_more : p.holds ≡ false
          → (decided (pairs_compared op (a ∷ vs) (b ∷ [])) ≡ Ok q.holds)
          × ((q.turns ≡ p.turns + tried (pairs_compared op (a ∷ vs) (b ∷ []))) × (q.work ≡ p.work + (here + rest.paid) + tried_work op (a ∷ vs) (b ∷ [])))
      untold_more untold =
          let e : Tried holds_here =
          untold_next holds_here (ap (λ c. if c then record p { work = p.work + here } else record { holds = holds_here; turns = suc p.turns; work = p.work + here + shorter t other }) untold) in
          rw (pairs_first, works_first) e

      more : Ended ts op b (x ∷ xs) p q
      more = record { values = a ∷ vs; paid = here + rest.paid; given = given_more; held = held_more; untold = untold_more }

  ended : (xs : List Item) (p q : TextPairs) → and_texts ts op other xs p ≡ Some q → Ended ts op b xs p q
  ended [] p q h = let e : p ≡ q = cc in none p q e
  ended (x ∷ xs) p q h = of (text (values.atom_of ts x)) refl h (λ t. ended xs (and_text op other (nodes_in ts x) t p) q)
    where
      of : (o : Option (List ℕ)) → text (values.atom_of ts x) ≡ o → option_and_then (λ t. and_texts ts op other xs (and_text op other (nodes_in ts x) t p)) o ≡ Some q
          → ((t : List ℕ) → and_texts ts op other xs (and_text op other (nodes_in ts x) t p) ≡ Some q → Ended ts op b xs (and_text op other (nodes_in ts x) t p) q) → Ended ts op b (x ∷ xs) p q
      of None e h rest = absurd cc
      of (Some t) e h rest = let a = text_is (values.atom_of ts x) t e in more x xs p q t a.0 a.1.0 a.1.1 (rest t h)

-- ---- what all of them come to
module _ (op : Comparison) (vs : List Atom) (b : Atom) (holds : Bool) (told : decided (pairs_compared op vs (b ∷ [])) ≡ Ok holds) where
  abbrev count : ℕ
  count = tried (pairs_compared op vs (b ∷ []))

  abbrev units : ℕ
  units = tried_work op vs (b ∷ [])

  compared_alone : (run : Run) → compared op vs (b ∷ []) run ≡ and_then (turns count run) (λ _. work units >>= (λ _. pure holds))
  compared_alone run = ap (λ r. and_then (come_to (if nat_le count run.turns && nat_le units run.work then r else Err PXQ0002) run) (λ c. turns count >>= (λ _. work units >>= (λ _. pure c)))) told ∙ of (nat_le count run.turns) refl (nat_le units run.work) refl
    where
      of : (t : Bool) → nat_le count run.turns ≡ t → (u : Bool) → nat_le units run.work ≡ u
          → and_then (come_to (if nat_le count run.turns && nat_le units run.work then Ok holds else Err PXQ0002) run) (λ c. turns count >>= (λ _. work units >>= (λ _. pure c)))
          ≡ and_then (turns count run) (λ _. work units >>= (λ _. pure holds))
      of true p true q =
          ap (λ t. and_then (come_to (if t && nat_le units run.work then Ok holds else Err PXQ0002) run) (λ c. turns count >>= (λ _. work units >>= (λ _. pure c)))) p
          ∙ ap (λ u. and_then (come_to (if u then Ok holds else Err PXQ0002) run) (λ c. turns count >>= (λ _. work units >>= (λ _. pure c)))) q
      of true p false q = rw (p, q) refl
      of false p u q = rw p refl

  gathered : (paid here : ℕ) (run : Run)
      → and_then (work paid run) (λ _. work here >>= (λ _. turns count >>= (λ _. work units >>= (λ _. pure holds)))) ≡ and_then (turns count run) (λ _. work (paid + here + units) >>= (λ _. pure holds))
  gathered paid here run =
      sym (together (work paid run) (λ _. work here) (λ _. turns count >>= (λ _. work units >>= (λ _. pure holds))))
      ∙ ap (λ r. and_then r (λ _. turns count >>= (λ _. work units >>= (λ _. pure holds)))) (works paid here run)
      ∙ sym (together (work (paid + here) run) (λ _. turns count) (λ _. work units >>= (λ _. pure holds)))
      ∙ ap (λ r. and_then r (λ _. work units >>= (λ _. pure holds))) (turns_first (paid + here) count run)
      ∙ together (turns count run) (λ _. work (paid + here)) (λ _. work units >>= (λ _. pure holds))
      ∙ then_same (turns count run) (λ _. work (paid + here) >>= (λ _. work units >>= (λ _. pure holds))) (λ _. work (paid + here + units) >>= (λ _. pure holds))
      (λ _ now. sym (together (work (paid + here) now) (λ _. work units) (λ _. pure holds)) ∙ ap (λ r. and_then r (λ _. pure holds)) (works (paid + here) units now))

module _ (op : Comparison) (xs : List Item) (y : Item) (q : TextPairs) (run : Run) where
  module _ (b : Atom) (other : List ℕ) (found : values.atom_of (trees_of run) y ≡ Ok b) (has : as_string b ≡ String other) (e : Ended (trees_of run) op b xs (no_pairs (nodes_in (trees_of run) y) other) q) where
    abbrev there : ℕ
    there = nodes_in (trees_of run) y + text_work other

    abbrev rest : M Bool
    rest = turns (tried (pairs_compared op e.values (b ∷ []))) >>= (λ _. work (tried_work op e.values (b ∷ [])) >>= (λ _. pure q.holds))

    told : decided (pairs_compared op e.values (b ∷ [])) ≡ Ok q.holds
    told = (e.untold refl).0

    last : (left : ℕ) → (atom_at y >>= (λ w. compared op e.values (w ∷ []))) (record run { work = left }) ≡ (work there >>= (λ _. rest)) (record run { work = left })
    last left =
        ap (λ r. and_then r (λ w. compared op e.values (w ∷ []))) (atom_taken y b (nodes_in (trees_of run) y) (text_work other) (record run { work = left }) found (ap text_work (text_in b other has)) refl)
        ∙ together (work there (record run { work = left })) (λ _. pure b) (λ w. compared op e.values (w ∷ []))
        ∙ then_same (work there (record run { work = left })) (λ _. compared op e.values (b ∷ [])) (λ _. rest) (λ _ now. compared_alone op e.values b q.holds told now)

    each_as : each_compared op xs y run ≡ pairs_taken q run
    each_as =
        ap (λ r. and_then r (λ vs. atom_at y >>= (λ w. compared op vs (w ∷ [])))) (e.given 0 [] run refl)
        ∙ together (work e.paid run) (λ _. pure e.values) (λ vs. atom_at y >>= (λ w. compared op vs (w ∷ [])))
        ∙ then_same_after e.paid (atom_at y >>= (λ w. compared op e.values (w ∷ []))) (work there >>= (λ _. rest)) run last ∙ gathered op e.values b q.holds told e.paid there run
        ∙ (let n : tried (pairs_compared op e.values (b ∷ [])) ≡ q.turns = let m : q.turns ≡ 0 + tried (pairs_compared op e.values (b ∷ [])) = (e.untold refl).1.0 in omega (arith, m) in
        let w : e.paid + there + tried_work op e.values (b ∷ []) ≡ q.work = let v : q.work ≡ there + e.paid + tried_work op e.values (b ∷ []) = (e.untold refl).1.1 in omega (arith, v) in
        ap (λ n. and_then (turns n run) (λ _. work (e.paid + there + tried_work op e.values (b ∷ [])) >>= (λ _. pure q.holds))) n ∙ ap (λ w. and_then (turns q.turns run) (λ _. work w >>= (λ _. pure q.holds))) w)

  each_is : pairs_of (trees_of run) op xs y ≡ Some q → each_compared op xs y run ≡ pairs_taken q run
  each_is h = of (text (values.atom_of (trees_of run) y)) refl h
    where
      of : (o : Option (List ℕ)) → text (values.atom_of (trees_of run) y) ≡ o → option_and_then (λ other. and_texts (trees_of run) op other xs (no_pairs (nodes_in (trees_of run) y) other)) o ≡ Some q
          → each_compared op xs y run ≡ pairs_taken q run
      of None e h = absurd cc
      of (Some other) e h =
          let b = text_is (values.atom_of (trees_of run) y) other e in each_as b.0 other b.1.0 b.1.1 (ended (trees_of run) op b.0 other b.1.1 xs (no_pairs (nodes_in (trees_of run) y) other) q h)

  pub all_compared : (new : Run) (r : Result Bool ValueFault) → pairs_of (trees_of run) op xs y ≡ Some q → GivesIn Any (pairs_taken q) run r new → GivesIn Any (each_compared op xs y) run r new
  all_compared new (Ok b) h g = (each_is h ∙ g.0, g.1)
  all_compared new (Err fault.Memory) h g = tt
  all_compared new (Err (fault.Code code)) h g = each_is h ∙ g

module _ (op : Comparison) (x y : Item) (q : TextPairs) (run : Run) where
  one_is : items_compared op x y run ≡ each_compared op (x ∷ []) y run
  one_is =
      sym (ap (λ r. and_then r (λ vs. atom_at y >>= (λ w. compared op vs (w ∷ [])))) (item_atoms x run) ∙ together (atom_at x run) (λ a. pure (a ∷ [])) (λ vs. atom_at y >>= (λ w. compared op vs (w ∷ []))))

  pub one_compared : (new : Run) (r : Result Bool ValueFault) → pairs_of (trees_of run) op (x ∷ []) y ≡ Some q → GivesIn Any (pairs_taken q) run r new → GivesIn Any (items_compared op x y) run r new
  one_compared new (Ok b) h g = (one_is ∙ each_is op (x ∷ []) y q run h ∙ g.0, g.1)
  one_compared new (Err fault.Memory) h g = tt
  one_compared new (Err (fault.Code code)) h g = one_is ∙ each_is op (x ∷ []) y q run h ∙ g

-- ---- texts that are lent
pub each_pair : (ts : Trees) (op : Comparison) (xs : List Item) (y : Item) (other : LentText) (p q : TextPairs) → IsLentText ts y other → p ≡ no_pairs other.nodes other.text.now
    → and_texts ts op other.text.now xs p ≡ Some q → pairs_of ts op xs y ≡ Some q
each_pair ts op xs y other p q h none is =
    ap (option_and_then (λ t. and_texts ts op t xs (no_pairs (nodes_in ts y) t))) (its_text ts y other h) ∙ ap (λ n. and_texts ts op other.text.now xs (no_pairs n other.text.now)) (sym h.nodes)
    ∙ ap (and_texts ts op other.text.now xs) (sym none) ∙ is

pub one_pair : (ts : Trees) (op : Comparison) (x y : Item) (s t : LentText) (p : TextPairs) → IsLentText ts x s → IsLentText ts y t → p.holds ≡ holds op (string_cmp s.text.now t.text.now) → p.turns ≡ 1
    → p.work ≡ (t.nodes + text_work t.text.now) + (s.nodes + text_work s.text.now) + shorter s.text.now t.text.now → pairs_of ts op (x ∷ []) y ≡ Some p
one_pair ts op x y s t p h k held turn units =
    each_pair ts op (x ∷ []) y t (no_pairs t.nodes t.text.now) p k refl
    (ap (option_and_then (λ u. Some (and_text op t.text.now (nodes_in ts x) u (no_pairs t.nodes t.text.now)))) (its_text ts x s h)
    ∙ ap (λ n. Some (and_text op t.text.now n s.text.now (no_pairs t.nodes t.text.now))) (sym h.nodes) ∙ sym same)
  where
    pairs : Bool → ℕ → ℕ → Option TextPairs
    pairs h n w = Some (record { holds = h; turns = n; work = w })

    same : Some p ≡ Some (and_text op t.text.now s.nodes s.text.now (no_pairs t.nodes t.text.now))
    same = ap (λ h. pairs h p.turns p.work) held ∙ ap (λ n. pairs (holds op (string_cmp s.text.now t.text.now)) n p.work) turn ∙ ap (pairs (holds op (string_cmp s.text.now t.text.now)) 1) units

-- one more of the items on the left
pub and_item : (ts : Trees) (op : Comparison) (other : List ℕ) (x : Item) (xs : List Item) (s : LentText) (p q : TextPairs) → IsLentText ts x s → q ≡ and_text op other s.nodes s.text.now p
    → and_texts ts op other (x ∷ xs) p ≡ and_texts ts op other xs q
and_item ts op other x xs s p q h is =
    ap (option_and_then (λ t. and_texts ts op other xs (and_text op other (nodes_in ts x) t p))) (its_text ts x s h)
    ∙ ap (λ n. and_texts ts op other xs (and_text op other n s.text.now p)) (sym h.nodes) ∙ ap (and_texts ts op other xs) (sym is)

-- ---- one text
module _ (x : Item) (t : LentText) (run : Run) (h : IsLentText (trees_of run) x t) where
  its_atom : (a : Atom) × ((values.atom_of (trees_of run) x ≡ Ok a) × (as_string a ≡ String t.text.now))
  its_atom = text_atom (values.atom_of (trees_of run) x) t.text.now h.text

  atom_as : atom_at x run ≡ and_then (text_paid t.nodes (text_work t.text.now) run) (λ _. pure its_atom.0)
  atom_as = atom_paid x its_atom.0 t.nodes (text_work t.text.now) run its_atom.1.0 (ap text_work (text_in its_atom.0 t.text.now its_atom.1.1)) h.nodes

  pub text_gives : (new : Run) (u : Unit {0}) → GivesIn Any (text_paid t.nodes (text_work t.text.now)) run (Ok u) new → GivesIn Any (string_at x) run (Ok (String t.text.now)) new
  text_gives new u g =
      (ap (λ r. and_then r (λ a. pure (as_string a))) (atom_as ∙ ap (λ r. and_then r (λ _. pure its_atom.0)) g.0) ∙ ap (λ a. Ok (a, new)) its_atom.1.1, (g.1.0, tt))

  pub text_fails : (found : ValueFault) → Fails (text_paid t.nodes (text_work t.text.now) run) found → Fails (atom_at x run) found
  text_fails fault.Memory g = tt
  text_fails (fault.Code code) g = atom_as ∙ ap (λ r. and_then r (λ _. pure its_atom.0)) g

-- ---- what was taken out, and what is lent
pub lent_taken : (ts : Trees) (x : Item) (s : LentText) (t : TakenText) → IsLentText ts x s → t.text ≡ s.text.now → t.nodes ≡ s.nodes → IsTaken ts x t
lent_taken ts x s t h text nodes = record { text = h.text ∙ ap (λ u. Ok (String u)) (sym text); nodes = nodes ∙ h.nodes }

pub taken_lent : (ts : Trees) (x : Item) (t : TakenText) (s : LentText) → IsTaken ts x t → s.text.now ≡ t.text → s.nodes ≡ t.nodes → IsLentText ts x s
taken_lent ts x t s h text nodes = record { text = h.text ∙ ap (λ u. Ok (String u)) (sym text); nodes = nodes ∙ h.nodes }
