-- Drafts of promises and of learnt positions.
use Rattle.std.proofs.Common.{◌≡◌, ◌≢◌, ℕ, ◌+◌, ◌≤◌, Bool, true, false, arith, refl, sym, ap, ◌∙◌, subst, List, [], ◌∷◌, length, Option, Some}
use Rattle.std.specs.Prelude.{◌==◌}
use Rattle.ballots.specs.Messages.{Window}
use Rattle.ballots.specs.Values.{positions}
use Rattle.ballots.specs.declared.value.Entry.{Entry}
use Rattle.paxos.specs.Knowledge.{joins}
use Rattle.proposer.specs.declared.draft.Change.{Change}
use Rattle.proposer.specs.declared.draft.News.{News}
use Rattle.proposer.specs.declared.sends.Sends.{Sends}
use Rattle.proposer.specs.Hearing.{AreBetween, IsTaking, TakesIf, TakesLearnt}
use Rattle.proposer.specs.Taking.{IsAsWas, Tells}
use Rattle.proposer.specs.Terms.{Leading, cover_of}
use Rattle.proposer.specs.Views.{AreRising}

-- entries between two positions rise
pub rising_between : (least most : ℕ) (es : List Entry) → most ≤ positions → AreBetween least most es → AreRising least es
rising_between least most [] l h = tt
rising_between least most (e ∷ es) l h = (h.0, omega (arith, l, h.1), rising_between (e.position + 1) most es l h.2)

pub rising_from : (least most : ℕ) (es : List Entry) → 1 ≤ least → most ≤ positions → AreBetween least most es → AreRising 1 es
rising_from least most [] k l h = tt
rising_from least most (e ∷ es) k l h = (omega (arith, k, h.0), omega (arith, l, h.1), rising_between (e.position + 1) most es l h.2)

-- what joined before room was made joins after it
joins_as_was : (l x : Leading) (k : ℕ) (w : Window) → IsAsWas l x → joins x.ballot (cover_of x k) w ≡ joins l.ballot (cover_of l k) w
joins_as_was l x k w s = ap (λ (y : Leading). joins y.ballot (cover_of y k) w) s.same

-- a window that joins is taken in
pub takes_joined : (n : ℕ) (l x : Leading) (k : ℕ) (w : Window) (change : Change) (answer : Option Sends) → joins l.ballot (cover_of l k) w ≡ true → IsAsWas l x → IsTaking n x k w.covered w.entries [] change answer
    → TakesIf (joins x.ballot (cover_of x k) w) n x k w change answer
takes_joined n l x k w change answer j s t = subst (λ b. TakesIf b n x k w change answer) (sym (joins_as_was l x k w s ∙ j)) t

-- positions that there are are taken in
pub takes_positions : (n : ℕ) (x : Leading) (ps : List ℕ) (change : Change) (answer : Option Sends) → ps ≢ [] → IsTaking n x 0 0 [] ps change answer → TakesLearnt n (Some x) ps change answer
takes_positions n x [] change answer w t = absurd (w refl)
takes_positions n x (p ∷ ps) change answer w t = t

-- the same told by equal lists
pub tells_same : (m c : ℕ) (es fs : List Entry) (ps qs : List ℕ) (news : News) → es ≡ fs → ps ≡ qs → Tells m c es ps news → Tells m c fs qs news
tells_same m c es fs ps qs news e f t = subst (λ xs. Tells m c xs qs news) e (subst (λ xs. Tells m c es xs news) f t)

-- a list that isn't empty
pub not_empty : (ps : List ℕ) (b : Bool) → b ≡ (length ps == 0) → b ≡ false → ps ≢ []
not_empty ps b e f g = let q : true ≡ false = sym (e ∙ ap (λ (xs : List ℕ). length xs == 0) g) ∙ f in cc
