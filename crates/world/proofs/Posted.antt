-- Messages by number, and what is posted.
use Rattle.std.proofs.Common.{◌≡◌, ◌<◌, ◌≤◌, ℕ, zero, suc, ◌+◌, ◌-◌, ◌==◌, Bool, true, false, arith, cond, refl, sym, subst, ap, ap₂, ◌∙◌, ◌⊎◌, ⊎_elim, inl, inr, List, [], ◌∷◌, ◌++◌, map, length, Option, None, Some, slice_get}
use Rattle.std.proofs.lemmas.List.{append_assoc, length-append, map-append}
use Rattle.ballots.specs.Messages.{Packet, Submit, packet}
use Rattle.ballots.specs.Terms.{Request}
use Rattle.ballots.specs.declared.value.Pair.{Pair}
use Rattle.messages.specs.Reading.{Read, Gives, Fails, datagram_read}
use Rattle.messages.specs.Spelling.{Datagram, spelling}
use Rattle.node.specs.Nodes.{ReadsBack, datagram, posted as posted_by, spelt, targets}
use Rattle.node.specs.declared.outbox.Sent.{Sent}
use Rattle.paxos.specs.Lists.{Has}
use Rattle.paxos.specs.World.{told_to}
use Rattle.world.specs.Posts.{AreThere, all_deliveries, deliveries, delivery, packet_in, packet_of, said, unsaid}
use Rattle.world.proofs.Lifting.{eq_self}
use Rattle.world.specs.Tellings.{told_in, telling}
use Rattle.world.specs.declared.mail.Delivery.{Delivery}
use Rattle.world.specs.declared.told.Told.{Told}
use Rattle.std.specs.Option.{option_map}
use Rattle.std.proofs.Math.ListN.{get_or}
use Rattle.std.proofs.lemmas.Option.{same_Some, slice_get-map, slice_get_read}
use Rattle.paxos.specs.Lists.{at}

-- the element of a number in a mapped list
pub at_map : {A B : Type 0} (f : A → B) (xs : List A) (n : ℕ) → 1 ≤ n → option_map f (slice_get xs (n - 1)) ≡ at (map f xs) n
at_map f xs zero h = absurd (omega arith)
at_map f xs (suc i) h =
    let q : i ≡ suc i - 1 = omega arith in
    subst (λ j. option_map f (slice_get xs j) ≡ slice_get (map f xs) i) q (sym (slice_get-map f xs i))

-- an element that is read by its number
pub at_read : {A B : Type 0} (f : A → B) (xs : List A) (n : ℕ) (x : A) → 1 ≤ n → n ≤ length xs → x ≡ get_or xs (n - 1) x → Some (f x) ≡ at (map f xs) n
at_read f xs n x least most is = sym (ap (option_map f) (slice_get_read xs (length xs) (n - 1) x refl (omega arith) is)) ∙ at_map f xs n least

-- an element of the first list
slice_get_left : {A : Type 0} (xs ys : List A) (i : ℕ) → i < length xs → slice_get (xs ++ ys) i ≡ slice_get xs i
slice_get_left [] ys i h = absurd (omega arith)
slice_get_left (x ∷ xs) ys zero h = refl
slice_get_left (x ∷ xs) ys (suc i) h = slice_get_left xs ys i (omega arith)

-- the first element of the second list
slice_get_next : {A : Type 0} (xs : List A) (y : A) (ys : List A) → slice_get (xs ++ y ∷ ys) (length xs) ≡ Some y
slice_get_next [] y ys = refl
slice_get_next (x ∷ xs) y ys = slice_get_next xs y ys

-- what a delivery of a message says
abbrev says : (group : ℕ) → Delivery → Option Sent → Packet
says g d o = elim o as (λ o. Packet) [
  | Some s ↦ packet_in g (s.bytes.items, d.target)
  | None ↦ unsaid d.target
]

-- what was sent was sent still
sent_still : (g : ℕ) (messages more : List Sent) (ds : List Delivery) → AreThere (length messages) ds → map (packet_of g (messages ++ more)) ds ≡ map (packet_of g messages) ds
sent_still g messages more [] a = refl
sent_still g messages more (d ∷ ds) a = ap₂ (λ x xs. x ∷ xs) (ap (says g d) (slice_get_left messages more d.message a.0)) (sent_still g messages more ds a.1)

-- the deliveries of one message are what is sent
mapped_said : (g i : ℕ) (all : List Sent) (s : Sent) → slice_get all i ≡ Some s → (ks : List ℕ) → map (packet_of g all) (map (delivery i) ks) ≡ map (packet_in g) (map (λ k. (s.bytes.items, k)) ks)
mapped_said g i all s q [] = refl
mapped_said g i all s q (k ∷ ks) = ap₂ (λ x xs. x ∷ xs) (ap (says g (delivery i k)) q) (mapped_said g i all s q ks)

-- so for all messages
delivered_all : (g n m : ℕ) (messages sent : List Sent) → map (packet_of g (messages ++ sent)) (all_deliveries n m (length messages) sent) ≡ map (packet_in g) (posted_by n m sent)
delivered_all g n m messages [] = refl
delivered_all g n m messages (s ∷ sent) =
    map-append (packet_of g (messages ++ s ∷ sent)) (deliveries n m (length messages) s.to) (all_deliveries n m (suc (length messages)) sent)
    ∙ ap₂ (λ xs ys. xs ++ ys) (mapped_said g (length messages) (messages ++ s ∷ sent) s (slice_get_next messages s sent) (targets n m s.to))
    (subst (λ (xs : List Sent). map (packet_of g xs) (all_deliveries n m (suc (length messages)) sent) ≡ map (packet_in g) (posted_by n m sent)) (append_assoc messages (s ∷ []) sent)
    (subst (λ k. map (packet_of g ((messages ++ s ∷ []) ++ sent)) (all_deliveries n m k sent) ≡ map (packet_in g) (posted_by n m sent)) (one_more messages s) (delivered_all g n m (messages ++ s ∷ []) sent)))
    ∙ sym (map-append (packet_in g) (map (λ k. (s.bytes.items, k)) (targets n m s.to)) (posted_by n m sent))
  where
    one_more : (xs : List Sent) (x : Sent) → length (xs ++ x ∷ []) ≡ suc (length xs)
    one_more [] x = refl
    one_more (y ∷ xs) x = ap suc (one_more xs x)

-- What is sent then: what was, and what the bytes say to all their targets.
pub posted : (g n m : ℕ) (messages sent : List Sent) (ds : List Delivery) → AreThere (length messages) ds
    → map (packet_of g (messages ++ sent)) (ds ++ all_deliveries n m (length messages) sent) ≡ map (packet_of g messages) ds ++ map (packet_in g) (posted_by n m sent)
posted g n m messages sent ds a =
    map-append (packet_of g (messages ++ sent)) ds (all_deliveries n m (length messages) sent) ∙ ap₂ (λ xs ys. xs ++ ys) (sent_still g messages sent ds a) (delivered_all g n m messages sent)

-- bytes that read as a datagram of the group say that
pub says_so : (g t : ℕ) (bytes : List ℕ) (k : Packet) → k.target ≡ t → datagram_read bytes ≡ Gives (datagram g k) [] → packet_in g (bytes, t) ≡ k
says_so g t bytes k target reads = ap (said g t) reads ∙ ap (λ b. cond b (packet k.sender k.body t) (unsaid t)) (eq_self g) ∙ ap (packet k.sender k.body) (sym target)

-- What reads back says the messages that were spelt.
pub says_all : (g : ℕ) (ks : List Packet) → ((k : Packet) → Has ks k → ReadsBack g k) → map (packet_in g) (map (spelt g) ks) ≡ ks
says_all g [] reads = refl
says_all g (k ∷ ks) reads = ap₂ (λ x xs. x ∷ xs) (says_so g k.target (spelling (datagram g k)) k refl (reads k (inl refl))) (says_all g ks (λ x h. reads x (inr h)))

-- both lists
there_append : (n : ℕ) (xs ys : List Delivery) → AreThere n xs → AreThere n ys → AreThere n (xs ++ ys)
there_append n [] ys a b = b
there_append n (x ∷ xs) ys a b = (a.0, there_append n xs ys a.1 b)

-- a bound that holds for each holds for each where it is no smaller
bound_more : (ds : List Delivery) (a b : ℕ) → a ≤ b → AreThere a ds → AreThere b ds
bound_more [] a b h all = tt
bound_more (d ∷ ds) a b h all = (omega (arith, h, all.0), bound_more ds a b h all.1)

mapped_within : (i b : ℕ) → i < b → (ks : List ℕ) → AreThere b (map (delivery i) ks)
mapped_within i b h [] = tt
mapped_within i b h (k ∷ ks) = (h, mapped_within i b h ks)

all_within : (n m i b : ℕ) (sent : List Sent) → i + length sent ≤ b → AreThere b (all_deliveries n m i sent)
all_within n m i b [] h = tt
all_within n m i b (s ∷ sent) h = there_append b (deliveries n m i s.to) (all_deliveries n m (suc i) sent)
    (mapped_within i b (omega (arith, h)) (targets n m s.to)) (all_within n m (suc i) b sent (omega (arith, h)))

-- Each delivery's message is there then.
pub whole_posted : (n m : ℕ) (messages sent : List Sent) (ds : List Delivery) → AreThere (length messages) ds
    → AreThere (length (messages ++ sent)) (ds ++ all_deliveries n m (length messages) sent)
whole_posted n m messages sent ds a = there_append (length (messages ++ sent)) ds (all_deliveries n m (length messages) sent)
    (bound_more ds (length messages) (length (messages ++ sent)) (subst (λ k. length messages ≤ k) (sym (length-append messages sent)) (omega arith)) a)
    (all_within n m (length messages) (length (messages ++ sent)) sent (subst (λ k. length messages + length sent ≤ k) (sym (length-append messages sent)) (omega arith)))

-- what is told then
pub told_posted : (m : ℕ) (old : List Told) (tells : List Pair) → told_in (old ++ map (telling m) tells) ≡ told_in old ++ map (told_to m) tells
told_posted m [] tells = each tells
  where
    each : (es : List Pair) → told_in (map (telling m) es) ≡ map (told_to m) es
    each [] = refl
    each (e ∷ es) = ap (λ xs. told_to m e ∷ xs) (each es)
told_posted m (t ∷ old) tells = ap (λ xs. told_to t.member t.pair ∷ xs) (told_posted m old tells)

-- a delivery that is read has a message that is there
pub there_read : (n : ℕ) (ds : List Delivery) (i : ℕ) (d : Delivery) → AreThere n ds → i < length ds → d ≡ get_or ds i d → d.message < n
there_read n [] i d all h q = absurd (omega (arith, h))
there_read n (x ∷ ds) zero d all h q = subst (λ (e : Delivery). e.message < n) (sym q) all.0
there_read n (x ∷ ds) (suc i) d all h q = there_read n ds i d all.1 (omega (arith, h)) q

-- what a client asks is posted
pub asked : (g : ℕ) (messages : List Sent) (ds : List Delivery) (target : ℕ) (s : Sent) (q : Request) → AreThere (length messages) ds → datagram_read s.bytes.items ≡ Gives (record { group = g; sender = 0; body = Submit q }) []
    → map (packet_of g (messages ++ s ∷ [])) (ds ++ delivery (length messages) target ∷ []) ≡ map (packet_of g messages) ds ++ packet 0 (Submit q) target ∷ []
asked g messages ds target s q a reads =
    map-append (packet_of g (messages ++ s ∷ [])) ds (delivery (length messages) target ∷ [])
    ∙ ap₂ (λ xs ys. xs ++ ys) (sent_still g messages (s ∷ []) ds a) (ap (λ o. says g (delivery (length messages) target) o ∷ []) (slice_get_next messages s [])
    ∙ ap (λ x. x ∷ []) (says_so g target s.bytes.items (packet 0 (Submit q) target) refl reads))

pub whole_asked : (messages : List Sent) (ds : List Delivery) (target : ℕ) (s : Sent) → AreThere (length messages) ds
    → AreThere (length (messages ++ s ∷ [])) (ds ++ delivery (length messages) target ∷ [])
whole_asked messages ds target s a =
    let more : length (messages ++ s ∷ []) ≡ length messages + 1 = length-append messages (s ∷ []) in
    there_append (length (messages ++ s ∷ [])) ds (delivery (length messages) target ∷ [])
    (bound_more ds (length messages) (length (messages ++ s ∷ [])) (omega (arith, more)) a) (omega (arith, more), tt)

-- to whom a delivery goes
pub target_of : (g : ℕ) (messages : List Sent) (d : Delivery) → (packet_of g messages d).target ≡ d.target
target_of g messages d = one (slice_get messages d.message)
  where
    on : (r : Read Datagram) → (said g d.target r).target ≡ d.target
    on (Gives x []) = in_group (x.group == g)
      where
        in_group : (b : Bool) → (cond b (packet x.sender x.body d.target) (unsaid d.target)).target ≡ d.target
        in_group true = refl
        in_group false = refl
    on (Gives x (b ∷ rest)) = refl
    on (Fails why) = refl

    one : (o : Option Sent) → (says g d o).target ≡ d.target
    one (Some s) = on (datagram_read s.bytes.items)
    one None = refl

-- a delivery to no member that there is
pub to_nobody : {A : Type 0} (g : ℕ) (messages : List Sent) (d : Delivery) (seats : List A) (o : Option Packet) → option_map (packet_of g messages) (Some d) ≡ o → (d.target ≡ 0) ⊎ (length seats < d.target)
    → (p : Packet) → o ≡ Some p → at seats p.target ≡ None
to_nobody g messages d seats o is beyond p there =
    let same : packet_of g messages d ≡ p = same_Some (packet_of g messages d) p (is ∙ there) in
    subst (λ k. at seats k ≡ None) (sym (target_of g messages d) ∙ ap (λ (x : Packet). x.target) same) (⊎_elim
    (λ (e : d.target ≡ 0). subst (λ k. at seats k ≡ None) (sym e) refl)
    (λ (l : length seats < d.target). past seats d.target l)
    beyond)
  where
    past : {A : Type 0} (xs : List A) (k : ℕ) → length xs < k → at xs k ≡ None
    past xs zero l = absurd (omega (arith, l))
    past [] (suc i) l = refl
    past (x ∷ xs) (suc zero) l = absurd (omega (arith, l))
    past (x ∷ xs) (suc (suc i)) l = past xs (suc i) (omega (arith, l))
