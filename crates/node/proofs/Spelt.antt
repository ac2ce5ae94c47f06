-- What is sent, as spellings of what a member says.
use Rattle.std.proofs.Common.{◌≡◌, ℕ, refl, sym, ap, ap₂, ◌∙◌, List, [], ◌∷◌, ◌++◌, map, Result, Ok, Err}
use Rattle.std.specs.Prelude.{IfOk, OnOk, filter, not, ◌==◌}
use Rattle.std.proofs.lemmas.Grind.{flat_map-append}
use Rattle.std.proofs.lemmas.List.{append-nil, append_assoc, map-append}
use Rattle.ballots.specs.Messages.{Body, body_of, packet, up_to}
use Rattle.ballots.specs.declared.message.Message.{Message}
use Rattle.member.specs.Drafts.{send_to}
use Rattle.member.specs.Steps.{all_packets, packets_of}
use Rattle.member.specs.declared.outcome.Send.{Send}
use Rattle.member.specs.declared.outcome.Target.{Target}
use Rattle.member.specs.declared.outcome.Target.TheVariants.{One, All, Others, Client}
use Rattle.messages.specs.Spelling.{spelling}
use Rattle.node.specs.Nodes.{posted, spelt, targets}
use Rattle.node.specs.declared.outbox.Sent.{Sent}

-- what holds after Ok, by what held
pub ok_so : {T E : Type 0} {P Q : Type 0} (r : Result T E) → (P → Q) → OnOk r P → OnOk r Q
ok_so (Ok t) f h = f h
ok_so (Err e) f h = h

pub if_so : {T E : Type 0} (r : Result T E) (P Q : T → Type 0) → ((t : T) → P t → Q t) → IfOk r P → IfOk r Q
if_so (Ok t) P Q f h = f t h
if_so (Err e) P Q f h = h

pub if_both : {T E : Type 0} (r : Result T E) (P Q S : T → Type 0) → ((t : T) → P t → Q t → S t) → IfOk r P → IfOk r Q → IfOk r S
if_both (Ok t) P Q S f p q = f t p q
if_both (Err e) P Q S f p q = p

-- the bytes for each target, as messages
each : (g m : ℕ) (body : Body) (ks : List ℕ) → map (λ k. (spelling (record { group = g; sender = m; body = body }), k)) ks ≡ map (spelt g) (map (packet m body) ks)
each g m body [] = refl
each g m body (k ∷ ks) = ap (λ xs. (spelling (record { group = g; sender = m; body = body }), k) ∷ xs) (each g m body ks)

-- one message
one : (n m g : ℕ) (t : Target) (message : Message) → map (λ k. (spelling (record { group = g; sender = m; body = body_of message }), k)) (targets n m t) ≡ map (spelt g) (packets_of n m (send_to t message))
one n m g (One k) message = refl
one n m g All message = each g m (body_of message) (up_to n)
one n m g Others message = each g m (body_of message) (filter (λ k. not (k == m)) (up_to n))
one n m g Client message = refl

one_sent : (n m g : ℕ) (s : Sent) (x : Send) → s.to ≡ x.to → s.bytes.items ≡ spelling (record { group = g; sender = m; body = body_of x.message })
    → map (λ k. (s.bytes.items, k)) (targets n m s.to) ≡ map (spelt g) (packets_of n m x)
one_sent n m g s x to bytes = ap₂ (λ bs t. map (λ k. (bs, k)) (targets n m t)) bytes to ∙ one n m g x.to x.message

-- One message more is sent.
pub posted_more : (n m g : ℕ) (old new : List Sent) (s : Sent) (x : Send) (xs : List Send) (all : List (List ℕ × ℕ)) → new ≡ old ++ s ∷ [] → s.to ≡ x.to → s.bytes.items ≡ spelling (record { group = g; sender = m; body = body_of x.message })
    → all ≡ posted n m new ++ map (spelt g) (all_packets n m xs) → all ≡ posted n m old ++ map (spelt g) (all_packets n m (x ∷ xs))
posted_more n m g old new s x xs all is to bytes h =
    let mine = map (spelt g) (packets_of n m x) in
    let rest = map (spelt g) (all_packets n m xs) in
    let added : posted n m new ≡ posted n m old ++ mine =
    ap (posted n m) is ∙ flat_map-append (λ (v : Sent). map (λ k. (v.bytes.items, k)) (targets n m v.to)) old (s ∷ []) ∙ ap (λ ys. posted n m old ++ ys) (append-nil _ ∙ one_sent n m g s x to bytes) in
    h ∙ ap (λ ys. ys ++ rest) added ∙ append_assoc (posted n m old) mine rest ∙ ap (λ ys. posted n m old ++ ys) (sym (map-append (spelt g) (packets_of n m x) (all_packets n m xs)))
