-- Values that are learnt, by position.
use Rattle.std.proofs.Common.{◌≡◌, ◌≢◌, ℕ, zero, suc, ◌+◌, ◌<◌, ◌≤◌, Bool, true, false, cond, arith, refl, sym, ap, subst, ◌∙◌, ◌⊎◌, inl, inr, ⊎_elim, List, [], ◌∷◌, ◌++◌, append_assoc, append-nil, length, get_or, Option, Some, None, IsSome, is_some, is_none, MatchOption, eqb}
use Rattle.std.specs.Borrow.{Bor}
use Rattle.std.specs.List.{All}
use Rattle.std.specs.Option.{option_copied}
use Rattle.std.proofs.lemmas.Bool.{false≢true, eq-eqb, ne_eqb, cases_eq}
use Rattle.std.proofs.lemmas.List.Elements.{All-pop}
use Rattle.ballots.specs.Values.{IsPosition, positions}
use Rattle.ballots.specs.declared.value.Value.{Value}
use Rattle.ballots.specs.declared.value.Pair.{Pair}
use Rattle.paxos.specs.Knowledge.{first, last_of_run, pair_of, value_at}
use Rattle.position_map.specs.Slots.{Slot, filled, HasSlot, IsNext, IsRunEnd, value_at as value_in}
use Rattle.learner.specs.Changes.{AreForgotten, not_learnt}
use Rattle.learner.specs.Hearing.{AreAbove, IsLowest}
use Rattle.learner.specs.Polls.{IsForgotten}
use Rattle.learner.specs.Slots.{AreWithin, pairs_of}
use Rattle.learner.specs.Terms.{Tally, open_in}
use Rattle.learner.proofs.Opening.{forgotten_open}

-- pairs have the values of their entries
pub value_pairs : (p : ℕ) (es : List (ℕ × Value)) → value_at p (pairs_of es) ≡ value_in p es
value_pairs p [] = refl
value_pairs p (e ∷ es) = by_test (eqb p e.0) (value_pairs p es)
  where
    by_test : (b : Bool) → value_at p (pairs_of es) ≡ value_in p es → cond b (Some e.1) (value_at p (pairs_of es)) ≡ cond b (Some e.1) (value_in p es)
    by_test true k = refl
    by_test false k = k

-- what is copied is there where it was
copied_some : {A : Type 0} (o : Option (Bor A)) → is_some (option_copied o) ≡ is_some o
copied_some None = refl
copied_some (Some x) = refl

copied_none : {A : Type 0} (o : Option (Bor A)) → is_some o ≡ false → option_copied o ≡ None
copied_none None e = refl
copied_none (Some x) e = cc

-- whether a position is learnt
pub is_learnt : (p : ℕ) (o : Option (Bor Value)) (es : List (ℕ × Value)) → option_copied o ≡ value_in p es → is_some o ≡ true → is_some (value_at p (pairs_of es)) ≡ true
is_learnt p o es e s = ap is_some (value_pairs p es ∙ sym e) ∙ copied_some o ∙ s

pub is_not_learnt : (p : ℕ) (o : Option (Bor Value)) (es : List (ℕ × Value)) → option_copied o ≡ value_in p es → is_some o ≡ false → value_at p (pairs_of es) ≡ None
is_not_learnt p o es e s = value_pairs p es ∙ sym e ∙ copied_none o s

-- a pair that is learnt already, and one that is not
pub learnt_already : (e : Pair) (learnt : List Pair) → is_some (value_at e.position learnt) ≡ true → not_learnt learnt (e ∷ []) ≡ []
learnt_already e learnt s = let n : is_none (value_at e.position learnt) ≡ false = none (value_at e.position learnt) s in rw n refl
  where
    none : (o : Option Value) → is_some o ≡ true → is_none o ≡ false
    none None k = cc
    none (Some x) k = refl

pub not_learnt_yet : (e : Pair) (learnt : List Pair) → value_at e.position learnt ≡ None → not_learnt learnt (e ∷ []) ≡ e ∷ []
not_learnt_yet e learnt n = rw n refl

-- the lowest position that has a value
pub lowest_is : (o : Option ℕ) (p : ℕ) (es : List (ℕ × Value)) → MatchOption o ((q : ℕ) → p ≤ q → value_in q es ≡ None) (λ next. IsNext es p next) → MatchOption o ((q : ℕ) → p ≤ q → value_at q (pairs_of es) ≡ None) (λ lowest. IsLowest p lowest (pairs_of es))
lowest_is None p es h = λ q l. value_pairs q es ∙ h q l
lowest_is (Some x) p es h = record { least = h.least; there = ap is_some (value_pairs x es) ∙ h.there; none_before = λ q l m. value_pairs q es ∙ h.first q l m }

-- it is a position that there may be
pub lowest_within : (o : Option ℕ) (p : ℕ) (slots : List (Slot Value)) → AreWithin slots → MatchOption o ((q : ℕ) → p ≤ q → value_in q (filled slots) ≡ None) (λ next. IsNext (filled slots) p next) → (q : ℕ) → o ≡ Some q → IsPosition q
lowest_within None p slots w h q e = let f : ⊥ = cc in absurd f
lowest_within (Some x) p slots w h q e = let same : x ≡ q = cc in subst IsPosition same (w x h.there)

-- where a run of positions that pass a test ends
pub run_is : (test : ℕ → Bool) (k p e : ℕ) → p ≤ e → e ≤ p + k → ((q : ℕ) → p < q → q ≤ e → test q ≡ true) → test (suc e) ≡ false → e ≡ last_of_run test k p
run_is test zero p e a b h l = omega arith
run_is test (suc k) p e a b h l = by_test (test (suc p)) refl (cases_eq p e) (λ c. run_is test k (suc p) e c (omega arith) (λ q m n. h q (omega arith) n) l)
  where
    by_test : (b : Bool) → test (suc p) ≡ b → (p ≡ e) ⊎ (p ≡ e → ⊥) → (suc p ≤ e → e ≡ last_of_run test k (suc p)) → e ≡ elim b as (λ x. ℕ) [ true ↦ last_of_run test k (suc p) | false ↦ p ]
    by_test true t (inl w) rest = absurd (false≢true (sym l ∙ ap (λ (x : ℕ). test (suc x)) (sym w) ∙ t))
    by_test true t (inr w) rest = rest (omega arith)
    by_test false t (inl w) rest = sym w
    by_test false t (inr w) rest = absurd (false≢true (sym t ∙ h (suc p) (omega arith) (omega arith)))

-- tests that agree have the same runs
pub run_same : (s t : ℕ → Bool) → ((p : ℕ) → s p ≡ t p) → (k p : ℕ) → last_of_run s k p ≡ last_of_run t k p
run_same s t h zero p = refl
run_same s t h (suc k) p = by_test (s (suc p)) (t (suc p)) (h (suc p)) (run_same s t h k (suc p))
  where
    by_test : (a b : Bool) → a ≡ b → last_of_run s k (suc p) ≡ last_of_run t k (suc p) → elim a as (λ x. ℕ) [ true ↦ last_of_run s k (suc p) | false ↦ p ] ≡ elim b as (λ x. ℕ) [ true ↦ last_of_run t k (suc p) | false ↦ p ]
    by_test true true e r = r
    by_test true false e r = cc
    by_test false true e r = cc
    by_test false false e r = refl

-- The run from 1 on is the prefix.
pub run_prefix : (slots : List (Slot Value)) (e : ℕ) → AreWithin slots → IsRunEnd (filled slots) 0 e → e ≡ last_of_run (λ p. is_some (value_at p (pairs_of (filled slots)))) positions 0
run_prefix slots e w r = run_is (λ p. is_some (value_at p (pairs_of (filled slots)))) positions 0 e (omega arith) (by_place (cases_eq 0 e)) (λ q l m. ap is_some (value_pairs q (filled slots)) ∙ r.each q l m) (ap is_some (value_pairs (suc e) (filled slots) ∙ r.longest))
  where
    by_place : (0 ≡ e) ⊎ (0 ≡ e → ⊥) → e ≤ 0 + positions
    by_place (inl z) = omega arith
    by_place (inr n) = let k = (w e (r.each e (omega arith) (omega arith))).1 in omega arith

-- pairs above a position, up to the last one, stand at positions that there may be
pub are_positions : (p : ℕ) (es : List Pair) → AreAbove p es → All (λ (e : Pair). e.position ≤ positions) es → All (λ (e : Pair). IsPosition e.position) es
are_positions p es a m = λ k d l. (least p es a k d l, m k d l)
  where
    least : (p : ℕ) (es : List Pair) → AreAbove p es → (k : ℕ) (d : Pair) → k < length es → 1 ≤ (get_or es k d).position
    least p [] a k d l = absurd (omega arith)
    least p (e ∷ es) a zero d l = let b = a.0 in omega arith
    least p (e ∷ es) a (suc k) d l = least e.position es a.1 k d (omega arith)

-- Pairs that are learnt, the last first: what is done and what is left.
pub record IsLearning (all rest done : List Pair) (old new : List (Slot Value)) (ts us : List Tally) : Type 0 where
  pub split : all ≡ rest ++ done
  pub room : All (λ (e : Pair). HasSlot e.position new) rest
  pub places : All (λ (e : Pair). IsPosition e.position) rest
  pub learnt : (q : ℕ) → value_at q (pairs_of (filled new)) ≡ first (value_at q done) (value_at q (pairs_of (filled old)))
  pub forgotten : AreForgotten done (open_in ts) (open_in us)
  pub within : AreWithin old → AreWithin new

pub learning_begins : (all : List Pair) (slots : List (Slot Value)) (ts : List Tally) → All (λ (e : Pair). HasSlot e.position slots) all → All (λ (e : Pair). IsPosition e.position) all → IsLearning all all [] slots slots ts ts
learning_begins all slots ts r p = record {
  split = sym (append-nil all);
  room = r;
  places = p;
  learnt = λ q. refl;
  forgotten = record { tallied = λ q v m e. refl; from = λ t h. (h, refl); distinct = λ d. d };
  within = λ w. w;
}

-- tallies of one more position are taken away
forgotten_more : (p : ℕ) (v : Value) (done : List Pair) (ts us ws : List Tally) → AreForgotten done ts us → IsForgotten p us ws → AreForgotten (pair_of p v ∷ done) ts ws
forgotten_more p v done ts us ws a f = record {
  tallied = λ q vote m e. let k = apart q e in f.tallied q vote m k.0 ∙ a.tallied q vote m k.1;
  from = λ t h. let g = f.from t h in let r = a.from t g.0 in (r.0, rw (ne_eqb t.position p g.1) r.1);
  distinct = λ d. f.distinct;
}
  where
    apart : (q : ℕ) → cond (eqb q p) (Some v) (value_at q done) ≡ None → (q ≢ p) × (value_at q done ≡ None)
    apart q e = ⊎_elim (λ (w : q ≡ p). absurd (same (rw (eq-eqb q p w) at e))) (λ (w : q ≡ p → ⊥). (w, rw (ne_eqb q p w) at e)) (cases_eq q p)
      where
        same : Some v ≡ None → ⊥
        same k = cc

-- One pair is learnt.
pub learning_more : (all rest left done : List Pair) (e : Pair) (old mid new : List (Slot Value)) (ts us ws : List Tally) → IsLearning all rest done old mid ts us → rest ≡ left ++ e ∷ [] → ((q : ℕ) → value_in q (filled new) ≡ cond (eqb q e.position) (Some e.value) (value_in q (filled mid))) → ((q : ℕ) → HasSlot q mid → HasSlot q new) → IsForgotten e.position us ws → IsLearning all left (e ∷ done) old new ts ws
learning_more all rest left done e old mid new ts us ws k s put others f = record {
  split = k.split ∙ ap (λ (es : List Pair). es ++ done) s ∙ append_assoc left (e ∷ []) done;
  room = λ i d l. others _ ((front (λ (x : Pair). HasSlot x.position mid) k.room).0 i d l);
  places = (front (λ (x : Pair). IsPosition x.position) k.places).0;
  learnt = learnt;
  forgotten = forgotten_more e.position e.value done (open_in ts) (open_in us) (open_in ws) k.forgotten (forgotten_open e.position us ws f);
  within = λ w p h. by_place p h w (cases_eq p e.position);
}
  where
    front : (P : Pair → Type 0) → All P rest → All P left × P e
    front P a = All-pop P rest left (Some e) s a

    learnt : (q : ℕ) → value_at q (pairs_of (filled new)) ≡ first (cond (eqb q e.position) (Some e.value) (value_at q done)) (value_at q (pairs_of (filled old)))
    learnt q = value_pairs q (filled new) ∙ put q ∙ ap (λ (o : Option Value). cond (eqb q e.position) (Some e.value) o) (sym (value_pairs q (filled mid)) ∙ k.learnt q) ∙ by_test (eqb q e.position)
      where
        by_test : (b : Bool) → cond b (Some e.value) (first (value_at q done) (value_at q (pairs_of (filled old)))) ≡ first (cond b (Some e.value) (value_at q done)) (value_at q (pairs_of (filled old)))
        by_test true = refl
        by_test false = refl

    by_place : (p : ℕ) → IsSome (value_in p (filled new)) → AreWithin old → (p ≡ e.position) ⊎ (p ≡ e.position → ⊥) → IsPosition p
    by_place p h w (inl x) = subst IsPosition (sym x) (front (λ (y : Pair). IsPosition y.position) k.places).1
    by_place p h w (inr n) = k.within w p (subst (λ (o : Option Value). is_some o ≡ true) (put p ∙ rw (ne_eqb p e.position n) refl) h)

-- the last pair has room
pub last_has : (all rest left done : List Pair) (e : Pair) (old mid : List (Slot Value)) (ts us : List Tally) → IsLearning all rest done old mid ts us → rest ≡ left ++ e ∷ [] → HasSlot e.position mid
last_has all rest left done e old mid ts us k s = (All-pop (λ (x : Pair). HasSlot x.position mid) rest left (Some e) s k.room).1
