-- Texts that are short enough, and texts that are not.
use Rattle.std.proofs.Common.{◌≡◌, ℕ, Bool, true, false, nat_lt, if◌then◌else◌, List, [], length, Some, None, refl, ap}
use Rattle.fault_codes.specs.declared.code.Code.TheVariants.{PXQ0005}
use Rattle.values.specs.Limited.{added}
use Rattle.ballots.specs.Replies.{Answered, text, fault}
use Rattle.ballots.specs.Terms.{most_answer}

-- the answer of a text, if it isn't too long
abbrev pub shown : List ℕ → Answered
shown t = if nat_lt most_answer (length t) then fault PXQ0005 else text t

pub whole : (all t : List ℕ) → Some t ≡ (added (record { most = most_answer; text = Some [] }) all).text → text t ≡ shown all
unfolding added
whole all t h = cases (nat_lt most_answer (length all)) h
  where
    cases : (b : Bool) → Some t ≡ (if b then None else Some all) → text t ≡ (if b then fault PXQ0005 else text all)
    cases true e = absurd cc
    cases false e = (let same : t ≡ all = cc in ap text same)

pub long : (all : List ℕ) → None ≡ (added (record { most = most_answer; text = Some [] }) all).text → fault PXQ0005 ≡ shown all
unfolding added
long all h = cases (nat_lt most_answer (length all)) h
  where
    cases : (b : Bool) → None ≡ (if b then None else Some all) → fault PXQ0005 ≡ (if b then fault PXQ0005 else text all)
    cases true e = refl
    cases false e = absurd cc
