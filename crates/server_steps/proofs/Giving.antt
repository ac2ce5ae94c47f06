-- What a wire was given after more.
use Rattle.std.proofs.Common.{◌≡◌, ℕ, refl, sym, ap, ◌∙◌, subst, List, [], ◌∷◌, ◌++◌, map, Option}
use Rattle.std.specs.List.{flat_map}
use Rattle.std.proofs.lemmas.Grind.{flat_map-append}
use Rattle.std.proofs.lemmas.List.{append-nil, append_assoc}
use Rattle.node.specs.Nodes.{posted, targets}
use Rattle.node.specs.declared.outbox.Sent.{Sent}
use Rattle.server_steps.specs.Addressed.{addressed, datagram_to}
use Rattle.wires.specs.Wires.{Carried}

pub given_none : {T W : Type 0} (G : W → List T → Type 0) (w : W) (ds : List T) → G w ds → G w (ds ++ [])
given_none G w ds h = subst (G w) (sym (append-nil ds)) h

pub given_both : {T W : Type 0} (G : W → List T → Type 0) (a b c : W) (xs ys zs : List T) → zs ≡ xs ++ ys
    → ((ds : List T) → G a ds → G b (ds ++ xs)) → ((ds : List T) → G b ds → G c (ds ++ ys)) → (ds : List T) → G a ds → G c (ds ++ zs)
given_both G a b c xs ys zs is first second ds h =
    subst (λ z. G c (ds ++ z)) (sym is) (subst (G c) (append_assoc ds xs ys) (second (ds ++ xs) (first ds h)))

-- bytes for each of some targets
each : {A : Type 0} (end : ℕ) (peers : List A) (client : Option A) (bytes : List ℕ) (ks : List ℕ)
    → addressed end peers client (map (λ k. (bytes, k)) ks) ≡ flat_map (datagram_to end peers client bytes) ks
each end peers client bytes [] = refl
each end peers client bytes (k ∷ ks) = ap (λ ys. datagram_to end peers client bytes k ++ ys) (each end peers client bytes ks)

-- what is posted of one message and of others
pub more : {A : Type 0} (end : ℕ) (peers : List A) (client : Option A) (n m : ℕ) (s : Sent) (ss : List Sent)
    → addressed end peers client (posted n m (s ∷ ss)) ≡ flat_map (datagram_to end peers client s.bytes.items) (targets n m s.to) ++ addressed end peers client (posted n m ss)
more end peers client n m s ss =
    flat_map-append (λ (d : List ℕ × ℕ). datagram_to end peers client d.0 d.1) (map (λ k. (s.bytes.items, k)) (targets n m s.to)) (posted n m ss)
    ∙ ap (λ xs. xs ++ addressed end peers client (posted n m ss)) (each end peers client s.bytes.items (targets n m s.to))

pub given_more : {A W : Type 0} (G : W → List (Carried A) → Type 0) (a b c : W) (end : ℕ) (peers : List A) (client : Option A) (n m : ℕ) (all : List Sent) (s : Sent) (ss : List Sent) → all ≡ s ∷ ss
    → ((ds : List (Carried A)) → G a ds → G b (ds ++ flat_map (datagram_to end peers client s.bytes.items) (targets n m s.to)))
    → ((ds : List (Carried A)) → G b ds → G c (ds ++ addressed end peers client (posted n m ss)))
    → (ds : List (Carried A)) → G a ds → G c (ds ++ addressed end peers client (posted n m all))
given_more G a b c end peers client n m all s ss is first second =
    given_both G a b c (flat_map (datagram_to end peers client s.bytes.items) (targets n m s.to)) (addressed end peers client (posted n m ss)) (addressed end peers client (posted n m all))
    (ap (λ x. addressed end peers client (posted n m x)) is ∙ more end peers client n m s ss) first second

-- the same, where what is posted is named otherwise
pub given_as : {A W : Type 0} (G : W → List (Carried A) → Type 0) (a c : W) (end : ℕ) (peers : List A) (client : Option A) (n m n' m' : ℕ) (sent sent' : List Sent) → n ≡ n' → m ≡ m' → sent ≡ sent'
    → ((ds : List (Carried A)) → G a ds → G c (ds ++ addressed end peers client (posted n m sent)))
    → (ds : List (Carried A)) → G a ds → G c (ds ++ addressed end peers client (posted n' m' sent'))
given_as G a c end peers client n m n' m' sent sent' is_n is_m is_sent f =
    subst (λ x. (ds : List (Carried _)) → G a ds → G c (ds ++ addressed end peers client (posted n' m' x))) is_sent
    (subst (λ x. (ds : List (Carried _)) → G a ds → G c (ds ++ addressed end peers client (posted n' x sent))) is_m
    (subst (λ x. (ds : List (Carried _)) → G a ds → G c (ds ++ addressed end peers client (posted x m sent))) is_n f))
