-- The tallies that somebody is in.
use Rattle.std.proofs.Common.{◌≡◌, ◌≢◌, ℕ, Bool, true, false, not, cond, ◌&&◌, ◌||◌, refl, sym, ap, ◌∙◌, inl, inr, ⊎_elim, List, [], ◌∷◌, eqb, eqb-true}
use Rattle.std.specs.List.{list_any}
use Rattle.std.proofs.lemmas.Bool.{eqb-false, or_parts}
use Rattle.ballots.specs.Ballot.{has_member}
use Rattle.ballots.specs.Values.{same_vote}
use Rattle.ballots.specs.declared.value.Vote.{Vote}
use Rattle.paxos.specs.Lists.{Has}
use Rattle.learner.specs.Terms.{Tally, open_in}
use Rattle.learner.specs.Hearing.{AreDistinct, is_of, is_tallied, is_tallied_in}
use Rattle.learner.specs.Polls.{IsAdded, IsForgotten}
use Rattle.learner.proofs.Adding.{nobody}

-- who is tallied is in a tally that somebody is in
pub tallied_open : (p : ℕ) (vote : Vote) (m : ℕ) (ts : List Tally) → is_tallied (open_in ts) p vote m ≡ is_tallied ts p vote m
tallied_open p vote m [] = refl
tallied_open p vote m (t ∷ ts) = by_test (eqb t.mask 0) refl (tallied_open p vote m ts)
  where
    never : (b : Bool) → (b && false) ≡ false
    never true = refl
    never false = refl

    empty : t.mask ≡ 0 → is_tallied_in p vote m t ≡ false
    empty e = ap (λ (k : ℕ). is_of p vote t && has_member k m) e ∙ ap (λ (b : Bool). is_of p vote t && b) (nobody m) ∙ never (is_of p vote t)

    by_test : (b : Bool) → eqb t.mask 0 ≡ b → is_tallied (open_in ts) p vote m ≡ is_tallied ts p vote m → is_tallied (cond (not b) (t ∷ open_in ts) (open_in ts)) p vote m ≡ (is_tallied_in p vote m t || is_tallied ts p vote m)
    by_test true e rest = rest ∙ ap (λ (b : Bool). b || is_tallied ts p vote m) (sym (empty (eqb-true t.mask 0 e)))
    by_test false e rest = ap (λ (b : Bool). is_tallied_in p vote m t || b) rest

-- what is open is there
pub open_there : (t : Tally) (ts : List Tally) → Has (open_in ts) t → Has ts t × (t.mask ≢ 0)
open_there t [] h = absurd h
open_there t (u ∷ ts) h = by_test (eqb u.mask 0) refl (λ g. open_there t ts g) h
  where
    by_test : (b : Bool) → eqb u.mask 0 ≡ b → (Has (open_in ts) t → Has ts t × (t.mask ≢ 0)) → Has (cond (not b) (u ∷ open_in ts) (open_in ts)) t → Has (u ∷ ts) t × (t.mask ≢ 0)
    by_test true e rest g = let r = rest g in (inr r.0, r.1)
    by_test false e rest (inl w) = (inl w, λ z. eqb-false u.mask 0 e (ap (λ (x : Tally). x.mask) w ∙ z))
    by_test false e rest (inr g) = let r = rest g in (inr r.0, r.1)

-- and what is there with somebody in it is open
pub there_open : (t : Tally) (ts : List Tally) → Has ts t → t.mask ≢ 0 → Has (open_in ts) t
there_open t [] h n = absurd h
there_open t (u ∷ ts) h n = by_test (eqb u.mask 0) refl (λ g. there_open t ts g n) h
  where
    by_test : (b : Bool) → eqb u.mask 0 ≡ b → (Has ts t → Has (open_in ts) t) → Has (u ∷ ts) t → Has (cond (not b) (u ∷ open_in ts) (open_in ts)) t
    by_test true e rest (inl w) = absurd (n (ap (λ (x : Tally). x.mask) (sym w) ∙ eqb-true u.mask 0 e))
    by_test true e rest (inr g) = rest g
    by_test false e rest (inl w) = inl w
    by_test false e rest (inr g) = inr (rest g)

-- a test that none passes, no open one passes
open_any : (f : Tally → Bool) (ts : List Tally) → list_any f ts ≡ false → list_any f (open_in ts) ≡ false
open_any f [] h = refl
open_any f (t ∷ ts) h = let g = or_parts (f t) (list_any f ts) h in by_test (eqb t.mask 0) g.0 (open_any f ts g.1)
  where
    by_test : (b : Bool) → f t ≡ false → list_any f (open_in ts) ≡ false → list_any f (cond (not b) (t ∷ open_in ts) (open_in ts)) ≡ false
    by_test true e rest = rest
    by_test false e rest = rw e rest

open_distinct : (ts : List Tally) → AreDistinct ts → AreDistinct (open_in ts)
open_distinct [] d = tt
open_distinct (t ∷ ts) d = by_test (eqb t.mask 0) (open_distinct ts d.1)
  where
    by_test : (b : Bool) → AreDistinct (open_in ts) → AreDistinct (cond (not b) (t ∷ open_in ts) (open_in ts))
    by_test true rest = rest
    by_test false rest = (open_any (is_of t.position t.vote) ts d.0, rest)

-- One more acceptance changes the open tallies alike.
pub added_open : (k p : ℕ) (vote : Vote) (ts us : List Tally) → IsAdded k p vote ts us → IsAdded k p vote (open_in ts) (open_in us)
added_open k p vote ts us a = record {
  tallied = λ q v m l. tallied_open q v m us ∙ a.tallied q v m l ∙ ap (λ (b : Bool). (eqb k m && (eqb q p && same_vote v vote)) || b) (sym (tallied_open q v m ts));
  from = λ t h. let r = open_there t us h in ⊎_elim (λ (g : Has ts t). inl (there_open t ts g r.1)) (λ (g : (t.position ≡ p) × (t.mask ≢ 0)). inr g) (a.from t r.0);
  distinct = open_distinct us a.distinct;
}

-- Tallies that are taken away change the open ones alike.
pub forgotten_open : (p : ℕ) (ts us : List Tally) → IsForgotten p ts us → IsForgotten p (open_in ts) (open_in us)
forgotten_open p ts us a = record {
  tallied = λ q v m n. tallied_open q v m us ∙ a.tallied q v m n ∙ sym (tallied_open q v m ts);
  from = λ t h. let r = open_there t us h in let g = a.from t r.0 in (there_open t ts g.0 r.1, g.1);
  distinct = open_distinct us a.distinct;
}
