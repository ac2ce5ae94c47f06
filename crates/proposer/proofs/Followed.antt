-- Whether a proposer is followed is whether its member is.
use Rattle.std.proofs.Common.{◌≡◌, ◌≤◌, ℕ, ◌*◌, nat_lt, arith, sym, ap, ◌∙◌, List, Option, Some, None}
use Rattle.std.proofs.lemmas.Option.{none-some, same_Some}
use Rattle.ballots.specs.Messages.{Packet}
use Rattle.paxos.proofs.Same.{count_agrees}
use Rattle.paxos.specs.Step.{Leader, cover_heard}
use Rattle.proposer.specs.Following.{is_followed, is_followed_of}
use Rattle.proposer.specs.Knowing.{IsLed, Knows}
use Rattle.proposer.specs.Terms.{Leading, Proposer, cover_of}

followed_led : (n : ℕ) (heard : List Packet) (l : Leader) (x : Leading) → IsLed n heard l x → is_followed_of n x ≡ is_followed n heard (Some l)
followed_led n heard l x led =
    ap (λ k. nat_lt n (2 * k)) (count_agrees n (λ m. nat_lt x.base (cover_of x m)) (λ m. nat_lt l.base (cover_heard heard l m))
    (λ m least most. ap (λ b. nat_lt b (cover_of x m)) led.base ∙ ap (nat_lt l.base) (led.covers m (omega (arith, least)) most)))

pub followed_alike : (heard : List Packet) (leader : Option Leader) (x : Proposer) (lead : Leading) → x.lead ≡ Some lead → Knows heard leader x → is_followed_of x.members lead ≡ is_followed x.members heard leader
followed_alike heard None x lead is none = absurd (none-some lead (sym none ∙ is))
followed_alike heard (Some l) x lead is knows = ap (is_followed_of x.members) (same_Some _ _ (sym is ∙ knows.1)) ∙ followed_led x.members heard l knows.0 knows.2
