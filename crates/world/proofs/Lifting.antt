-- What code holds follows the protocol's world, seat by seat and event by event.
use Rattle.std.proofs.Common.{rules, ◌≡◌, ◌⊎◌, ℕ, zero, suc, Bool, true, false, refl, sym, subst, ap, ap₂, ◌∙◌, Some, ⊎_elim, List, [], ◌∷◌, ◌++◌, ◌==◌, arith, map, length}
use Rattle.std.specs.Prelude.{if◌then◌else◌}
use Rattle.std.proofs.lemmas.Bool.{cases_eq, eqb-true}
use Rattle.std.proofs.lemmas.Option.{none-some, same_Some}
use Rattle.ballots.specs.Messages.{Packet}
use Rattle.ballots.specs.declared.value.Pair.{Pair}
use Rattle.ballots.specs.declared.value.Value.{Value}
use Rattle.paxos.specs.Lists.{at, put, Has}
use Rattle.paxos.specs.Records.{Record}
use Rattle.paxos.specs.Step.{Effect}
use Rattle.paxos.specs.World.{World as Whole, Member as Part, told_to, after}
use Rattle.paxos.proofs.Lists.{at_put, at_put_other, length_put, has_cases}
use Rattle.world.specs.Seats.{IsKeptAt, IsPart, Moves, Stands, part_after}
use Rattle.world.specs.Shown.{World, AllStand, AreKept, Picks, Shows}
use Rattle.world.specs.Reached.{Follows, Stays, Steps}
use Rattle.world.specs.declared.seat.Seat.{Seat}
use Rattle.world.proofs.Clients.{GoesToClients}

-- what code holds after one seat has moved
abbrev pub moved : {R A : Type 0} → World R A → (m : ℕ) → Seat R A → List Packet → List Pair → World R A
moved w m s sends tells = record { members = w.members; group = w.group; names = w.names; seats = put w.seats m s; sent = w.sent ++ sends; told = w.told ++ map (told_to m) tells }

-- where a member sits there is one
pub some_at : {A B : Type 0} (xs : List A) (ys : List B) (m : ℕ) (x : A) → length ys ≡ length xs → at xs m ≡ Some x → (y : B) × (at ys m ≡ Some y)
some_at xs ys zero x q h = absurd (none-some x h)
some_at [] ys (suc i) x q h = absurd (none-some x h)
some_at (a ∷ xs) [] (suc i) x q h = absurd (omega arith)
some_at (a ∷ xs) (b ∷ ys) (suc zero) x q h = (b, refl)
some_at (a ∷ xs) (b ∷ ys) (suc (suc i)) x q h = some_at xs ys (suc i) x (omega arith) h

-- numbers compared
pub eq_self : (n : ℕ) → (n == n) ≡ true
eq_self n = search rules

pub eq_other : (j m : ℕ) → (j ≡ m → ⊥) → (j == m) ≡ false
eq_other j m d = bool_cases (j == m) (λ h. absurd (d (eqb-true j m h))) (λ h. h)
  where
    bool_cases : (b : Bool) → (b ≡ true → b ≡ false) → (b ≡ false → b ≡ false) → b ≡ false
    bool_cases true f g = f refl
    bool_cases false f g = refl

module _ {R A : Type 0} (stands : R → Record → Record → Type 0) (is_kept : R → Type 0) (has_applied : List (List ℕ) → List Value → A → Type 0) (MayBe : Whole → Type 0) (Given : Part → Type 0) (May : Part → Effect → Type 0)
    (old : World R A) (m : ℕ) (s t : Seat R A) (sends : List Packet) (tells : List Pair) (there : at old.seats m ≡ Some s) (moves : Moves stands is_kept has_applied Given May s t sends tells)
    (given : (before : ℕ → Record) (v : Whole) (y : Part) → MayBe v → Shows has_applied old before v → at v.members m ≡ Some y → Given y)
    (for_clients : (before : ℕ → Record) (v : Whole) (y : Part) (e : Effect) → MayBe v → Shows has_applied old before v → at v.members m ≡ Some y → May y e → e.sends ≡ sends → (k : Packet) → Has sends k → GoesToClients k) where
  abbrev new : World R A
  new = moved old m t sends tells

  -- that very seat, or another as it was
  each_seat : (P : ℕ → Seat R A → Type 0) → P m t → ((j : ℕ) (r : Seat R A) → (j ≡ m → ⊥) → at old.seats j ≡ Some r → P j r) → (j : ℕ) (r : Seat R A) → at (put old.seats m t) j ≡ Some r → P j r
  each_seat P own others j r h = ⊎_elim
      (λ (q : j ≡ m). subst (λ i. P i r) (sym q) (subst (P m) (same_Some t r (sym (at_put old.seats m s t there) ∙ subst (λ i. at (put old.seats m t) i ≡ Some r) q h)) own))
      (λ (d : j ≡ m → ⊥). others j r d (sym (at_put_other old.seats m j t d) ∙ h))
      (cases_eq j m)

  -- another record for one member
  abbrev with : (ℕ → Record) → Record → ℕ → Record
  with f r j = if j == m then r else f j

  with_own : (f : ℕ → Record) (r : Record) → with f r m ≡ r
  with_own f r = ap (λ b. if b then r else f m) (eq_self m)

  with_other : (f : ℕ → Record) (r : Record) (j : ℕ) → (j ≡ m → ⊥) → with f r j ≡ f j
  with_other f r j d = ap (λ b. if b then r else f j) (eq_other j m d)

  -- one of two records of each
  pick_with : (a b now : ℕ → Record) (c d : Record) → Picks now (with a c) (with b d) → (r : Record) → (r ≡ a m) ⊎ (r ≡ b m) → Picks (with now r) a b
  pick_with a b now c d p r q j = ⊎_elim
      (λ (e : j ≡ m). subst (λ i. (with now r i ≡ a i) ⊎ (with now r i ≡ b i)) (sym e) (subst (λ x. (x ≡ a m) ⊎ (x ≡ b m)) (sym (with_own now r)) q))
      (λ (n : j ≡ m → ⊥).
      let o : (now j ≡ a j) ⊎ (now j ≡ b j) = subst (λ x. (now j ≡ x) ⊎ (now j ≡ b j)) (with_other a c j n) (subst (λ x. (now j ≡ with a c j) ⊎ (now j ≡ x)) (with_other b d j n) (p j)) in
      subst (λ x. (x ≡ a j) ⊎ (x ≡ b j)) (sym (with_other now r j n)) o)
      (cases_eq j m)

  -- the member's own record
  pick_own : (a b now : ℕ → Record) (c d : Record) → Picks now (with a c) (with b d) → (now m ≡ c) ⊎ (now m ≡ d)
  pick_own a b now c d p = subst (λ x. (now m ≡ x) ⊎ (now m ≡ d)) (with_own a c) (subst (λ x. (now m ≡ with a c m) ⊎ (now m ≡ x)) (with_own b d) (p m))

  -- What code holds follows the member's step.
  pub follows : Follows stands is_kept has_applied MayBe (Steps has_applied old s m May) old new
  follows = record {
    members = refl;
    names = refl;
    kept = before;
    changes = λ k a b stand.
        let step = moves.changes (k m t (at_put old.seats m s t there)) (a m) (b m) (stand m s there) in (
          with a step.0,
          with b step.1,
          all_stand a b step.0 step.1 step.2 stand,
          λ now p.
              let choice = step.3 (now m) (pick_own a b now step.0 step.1 p) in (
                with now choice.0,
                pick_with a b now step.0 step.1 p choice.0 choice.1,
                λ v may shows.
                    let part = some_at old.seats v.members m s shows.size there in
                    let own : IsPart has_applied s choice.0 part.0 = subst (λ r. IsPart has_applied s r part.0) (with_own now choice.0) (shows.parts m s part.0 there part.1) in
                    let did = choice.2 part.0 (given (with now choice.0) v part.0 may shows part.1) own in (
                      after v m part.0.kept did.0,
                      record { size = shows.size; sent = shows.sent; part = part.0; there = part.1; kept = choice.0; is_part = own; effect = did.0; may = did.1; is = refl },
                      shown now choice.0 v part.0 did.0 may shows part.1 did.1 did.2 did.3 did.4,
                    ),
              ),
        );
  }
    where
      before : AreKept is_kept new → AreKept is_kept old
      before k j r h = ⊎_elim
          (λ (q : j ≡ m). subst (IsKeptAt is_kept) (same_Some s r (sym there ∙ subst (λ i. at old.seats i ≡ Some r) q h)) (moves.kept (k m t (at_put old.seats m s t there))))
          (λ (d : j ≡ m → ⊥). k j r (at_put_other old.seats m j t d ∙ h))
          (cases_eq j m)

      all_stand : (a b : ℕ → Record) (c d : Record) → Stands stands t c d → AllStand stands old a b → AllStand stands new (with a c) (with b d)
      all_stand a b c d own stand = each_seat (λ j r. Stands stands r (with a c j) (with b d j))
          (subst (λ x. Stands stands t x (with b d m)) (sym (with_own a c)) (subst (Stands stands t c) (sym (with_own b d)) own))
          (λ j r n h. subst (λ x. Stands stands r x (with b d j)) (sym (with_other a c j n)) (subst (Stands stands r (a j)) (sym (with_other b d j n)) (stand j r h)))

      shown : (now : ℕ → Record) (r : Record) (v : Whole) (y : Part) (e : Effect) → MayBe v → Shows has_applied old (with now r) v → at v.members m ≡ Some y → May y e
          → e.sends ≡ sends → e.tells ≡ tells → IsPart has_applied t (now m) (part_after y e) → Shows has_applied new now (after v m y.kept e)
      shown now r v y e may shows here does sends_are tells_are own = record {
        sent = ap₂ (λ xs ys. xs ++ ys) shows.sent sends_are;
        told = ap₂ (λ xs ys. xs ++ map (told_to m) ys) shows.told tells_are;
        size = length_put v.members m (part_after y e) ∙ shows.size ∙ sym (length_put old.seats m t);
        parts = λ j q z h o. each_seat (λ i u. (x : Part) → at (put v.members m (part_after y e)) i ≡ Some x → IsPart has_applied u (now i) x)
            (λ x g. subst (IsPart has_applied t (now m)) (same_Some (part_after y e) x (sym (at_put v.members m y (part_after y e) here) ∙ g)) own)
            (λ i u n g x f. subst (λ w. IsPart has_applied u w x) (with_other now r i n) (shows.parts i u x g (sym (at_put_other v.members m i (part_after y e) n) ∙ f)))
            j q h z o;
        for_clients = λ k h. ⊎_elim (λ (o : Has old.sent k). shows.for_clients k o) (λ (o : Has sends k). for_clients (with now r) v y e may shows here does sends_are k o) (has_cases old.sent sends k h);
      }

-- a seat that moves so, moves as that comes to
pub moves_so : {R A : Type 0} {stands : R → Record → Record → Type 0} {is_kept : R → Type 0} {has_applied : List (List ℕ) → List Value → A → Type 0} {Given : Part → Type 0} {s t : Seat R A} {sends : List Packet} {tells : List Pair} (May Other : Part → Effect → Type 0)
    → ((y : Part) (e : Effect) → May y e → Other y e) → Moves stands is_kept has_applied Given May s t sends tells → Moves stands is_kept has_applied Given Other s t sends tells
moves_so May Other into moves = record {
  kept = moves.kept;
  changes = λ k a b stand.
      let one = moves.changes k a b stand in (
        one.0,
        one.1,
        one.2,
        λ r q.
            let own = one.3 r q in
            (own.0, own.1, λ y given part. let did = own.2 y given part in (did.0, into y did.0 did.1, did.2, did.3, did.4)),
      );
}

module _ {R A : Type 0} {stands : R → Record → Record → Type 0} {is_kept : R → Type 0} {has_applied : List (List ℕ) → List Value → A → Type 0} {MayBe : Whole → Type 0} where
  -- What follows one change and then another.
  pub joined : (Next : Whole → Whole → Type 0) (old mid end : World R A) → Follows stands is_kept has_applied MayBe Stays old mid → Follows stands is_kept has_applied MayBe Next mid end → Follows stands is_kept has_applied MayBe Next old end
  joined Next old mid end f g = record {
    members = g.members ∙ f.members;
    names = g.names ∙ f.names;
    kept = λ k. f.kept (g.kept k);
    changes = λ k a b stand.
        let one = f.changes (g.kept k) a b stand in
        let two = g.changes k one.0 one.1 one.2 in (
          two.0,
          two.1,
          two.2,
          λ now p.
              let second = two.3 now p in
              let first = one.3 second.0 second.1 in (
                first.0,
                first.1,
                λ v may shows.
                    let was = first.2 v may shows in
                    let is = second.2 was.0 (subst MayBe (sym was.1) may) was.2 in
                    (is.0, subst (λ w. Next w is.0) was.1 is.1, is.2),
              ),
        );
  }

  -- What follows a change follows what that comes to in a world that was shown.
  pub so_shown : (One Other : Whole → Whole → Type 0) (old end : World R A) → ((before : ℕ → Record) (v z : Whole) → MayBe v → Shows has_applied old before v → One v z → Other v z)
      → Follows stands is_kept has_applied MayBe One old end → Follows stands is_kept has_applied MayBe Other old end
  so_shown One Other old end into f = record {
    members = f.members;
    names = f.names;
    kept = f.kept;
    changes = λ k a b stand.
        let one = f.changes k a b stand in (
          one.0,
          one.1,
          one.2,
          λ now p.
              let first = one.3 now p in
              (first.0, first.1, λ v may shows. let was = first.2 v may shows in (was.0, into first.0 v was.0 may shows was.1, was.2)),
        );
  }

  -- so in any
  pub so : (One Other : Whole → Whole → Type 0) (old end : World R A) → ((v z : Whole) → MayBe v → One v z → Other v z) → Follows stands is_kept has_applied MayBe One old end → Follows stands is_kept has_applied MayBe Other old end
  so One Other old end into f = so_shown One Other old end (λ before v z may shows one. into v z may one) f

  -- What has not changed follows what changes nothing.
  pub idle : (Next : Whole → Whole → Type 0) (old : World R A) → ((before : ℕ → Record) (v : Whole) → MayBe v → Shows has_applied old before v → Next v v) → Follows stands is_kept has_applied MayBe Next old old
  idle Next old does = record { members = refl; names = refl; kept = λ k. k; changes = λ k a b stand. (a, b, stand, λ now p. (now, p, λ v may shows. (v, does now v may shows, shows))) }
