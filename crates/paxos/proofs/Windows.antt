-- What is read off the windows that a leader heard.
use Rattle.std.proofs.Common.{◌≡◌, ℕ, suc, ◌<◌, ◌≤◌, Bool, true, false, cond, arith, refl, ◌⊎◌, inl, inr, sym, subst, ap, ◌∙◌, Option, Some, None, ⊎_elim, List, [], ◌∷◌, ◌==◌, ◌&&◌, eqb-true, ltb-true, nat_le}
use Rattle.std.proofs.lemmas.Bool.{cases_lt, and_parts, leb-true, le-leb, eq-eqb}
use Rattle.std.proofs.lemmas.Option.{none-some}
use Rattle.paxos.specs.Lists.{Has}
use Rattle.ballots.specs.Ballot.{below}
use Rattle.ballots.specs.declared.ballot.Ballot.{Ballot}
use Rattle.ballots.specs.declared.value.Vote.{Vote}
use Rattle.ballots.specs.Messages.{Window, Packet, Body, Promise}
use Rattle.paxos.specs.Records.{vote_at}
use Rattle.paxos.specs.Knowledge.{Promised, promised_of, windows, joins, cover, report_in, higher, reported}
use Rattle.paxos.specs.Proposable.{HasPromised}
use Rattle.paxos.proofs.Order.{below_self, below_not, same_ballot_equal}
use Rattle.paxos.proofs.Safe.{NotAbove, above_self, above_trans}
use Rattle.paxos.proofs.Lists.{has_cases}

-- the higher vote is not below the first
higher_left : (a b : Option Vote) → NotAbove a (higher a b)
higher_left None b = tt
higher_left (Some a) None = below_self a.ballot
higher_left (Some a) (Some b) = left a b (below a.ballot b.ballot) refl
  where
    left : (a b : Vote) (t : Bool) → below a.ballot b.ballot ≡ t → NotAbove (Some a) (cond t (Some b) (Some a))
    left a b true h = below_not a.ballot b.ballot h
    left a b false h = below_self a.ballot

-- the higher vote is not below the second
higher_right : (a b : Option Vote) → NotAbove b (higher a b)
higher_right None b = above_self b
higher_right (Some a) None = tt
higher_right (Some a) (Some b) = right a b (below a.ballot b.ballot) refl
  where
    right : (a b : Vote) (t : Bool) → below a.ballot b.ballot ≡ t → NotAbove (Some b) (cond t (Some b) (Some a))
    right a b true h = below_self b.ballot
    right a b false h = h

-- the higher vote is one of the two
higher_is : (a b : Option Vote) (t : Vote) → higher a b ≡ Some t → (a ≡ Some t) ⊎ (b ≡ Some t)
higher_is None b t h = inr h
higher_is (Some a) None t h = inl h
higher_is (Some a) (Some b) t h = which a b t (below a.ballot b.ballot) h
  where
    which : (a b t : Vote) (c : Bool) → cond c (Some b) (Some a) ≡ Some t → (Some a ≡ Some t) ⊎ (Some b ≡ Some t)
    which a b t true h = inr h
    which a b t false h = inl h

-- what it is to join
pub record Joined (b : Ballot) (c : ℕ) (w : Window) : Type 0 where
  pub ballot : w.ballot ≡ b
  pub low : w.from ≤ suc c
  pub high : c < w.covered

-- the test of a window that joins tells
joined : (b : Ballot) (c : ℕ) (w : Window) → joins b c w ≡ true → Joined b c w
joined b c w h =
    let k = and_parts _ _ h in
    let l = and_parts _ _ k.1 in
    record { ballot = sym (same_ballot_equal b w.ballot k.0); low = leb-true w.from (suc c) l.0; high = ltb-true c w.covered l.1 }

-- a member's window of the ballot, with the position inside, that reports this there
record Inside (ws : List Promised) (b : Ballot) (p m : ℕ) (report : Option Vote) : Type 0 where
  of : Promised
  there : Has ws of
  member : of.member ≡ m
  ballot : of.window.ballot ≡ b
  low : of.window.from ≤ p
  high : p ≤ of.window.covered
  reports : vote_at p of.window.entries ≡ report

-- a window more
longer : (x : Promised) (older : List Promised) (b : Ballot) (p m : ℕ) (o : Option Vote) → Inside older b p m o → Inside (x ∷ older) b p m o
longer x older b p m o r = record { of = r.of; there = inr r.there; member = r.member; ballot = r.ballot; low = r.low; high = r.high; reports = r.reports }

-- a window more covers no less
pub covers_more : (b : Ballot) (base m : ℕ) (x : Promised) (older : List Promised) → cover b base m older ≤ cover b base m (x ∷ older)
covers_more b base m x older = one (x.member == m && joins b (cover b base m older) x.window) refl
  where
    one : (t : Bool) → (x.member == m && joins b (cover b base m older) x.window) ≡ t → cover b base m older ≤ cond t x.window.covered (cover b base m older)
    one true h = let j : Joined b (cover b base m older) x.window = joined b (cover b base m older) x.window (and_parts (x.member == m) (joins b (cover b base m older) x.window) h).1 in omega (arith, j.high)
    one false h = omega arith

-- the report that counts does not fall
older_reports : (b : Ballot) (base p : ℕ) (x : Promised) (older : List Promised) → NotAbove (reported b base p older) (reported b base p (x ∷ older))
older_reports b base p x older = one (joins b (cover b base x.member older) x.window)
  where
    one : (t : Bool) → NotAbove (reported b base p older) (cond t (higher (reported b base p older) (report_in p x.window)) (reported b base p older))
    one true = higher_left (reported b base p older) (report_in p x.window)
    one false = above_self (reported b base p older)

-- the report that counts is not below that of the newest window
new_reports : (b : Ballot) (base p : ℕ) (x : Promised) (older : List Promised) → joins b (cover b base x.member older) x.window ≡ true → NotAbove (report_in p x.window) (reported b base p (x ∷ older))
new_reports b base p x older h = rw h (higher_right (reported b base p older) (report_in p x.window))

-- inside a window its votes are reported
inside_report : (p : ℕ) (w : Window) → w.from ≤ p → p ≤ w.covered → report_in p w ≡ vote_at p w.entries
inside_report p w l h = rw (le-leb w.from p l, le-leb p w.covered h) refl

-- A member that covers a position reported on it, and no higher than the report that counts.
covered_reports : (b : Ballot) (base m p : ℕ) (ws : List Promised) → base < p → p ≤ cover b base m ws → (o : Option Vote) × Inside ws b p m o × NotAbove o (reported b base p ws)
covered_reports b base m p [] l h = absurd (omega arith)
covered_reports b base m p (x ∷ older) l h = one (λ q. covered_reports b base m p older l q) (x.member == m && joins b (cover b base m older) x.window) refl h
  where
    Rest : Type 0
    Rest = p ≤ cover b base m older → (o : Option Vote) × Inside older b p m o × NotAbove o (reported b base p older)

    old : Rest → p ≤ cover b base m older → (o : Option Vote) × Inside (x ∷ older) b p m o × NotAbove o (reported b base p (x ∷ older))
    old rest q = let r = rest q in
        (r.0, longer x older b p m r.0 r.1, above_trans r.0 (reported b base p older) (reported b base p (x ∷ older)) r.2 (older_reports b base p x older))

    one : Rest → (t : Bool) → (x.member == m && joins b (cover b base m older) x.window) ≡ t → p ≤ cond t x.window.covered (cover b base m older)
        → (o : Option Vote) × Inside (x ∷ older) b p m o × NotAbove o (reported b base p (x ∷ older))
    one rest false e q = old rest q
    one rest true e q = ⊎_elim
        (λ (y : cover b base m older < p).
        let parts = and_parts _ _ e in
        let mine : x.member ≡ m = eqb-true x.member m parts.0 in
        let j = joined b (cover b base m older) x.window parts.1 in
        let low : x.window.from ≤ p = omega (arith, j.low) in (
          vote_at p x.window.entries,
          record { of = x; there = inl refl; member = mine; ballot = j.ballot; low = low; high = q; reports = refl },
          subst (λ o. NotAbove o (reported b base p (x ∷ older))) (inside_report p x.window low q)
              (new_reports b base p x older (subst (λ k. joins b (cover b base k older) x.window ≡ true) (sym mine) parts.1)),
        ))
        (λ (y : p ≤ cover b base m older). old rest y)
        (cases_lt (cover b base m older) p)

-- a report of the newest window, by a member that covers the position
reports_new : (b : Ballot) (base p : ℕ) (x : Promised) (older : List Promised) (t : Vote) → joins b (cover b base x.member older) x.window ≡ true → report_in p x.window ≡ Some t
    → Inside (x ∷ older) b p x.member (Some t) × (p ≤ cover b base x.member (x ∷ older))
reports_new b base p x older t h e =
    let j = joined b (cover b base x.member older) x.window h in
    let c = inside (nat_le x.window.from p && nat_le p x.window.covered) (vote_at p x.window.entries) t e in
    let parts = and_parts _ _ c.0 in
    let high : p ≤ x.window.covered = leb-true p x.window.covered parts.1 in (
      record { of = x; there = inl refl; member = refl; ballot = j.ballot; low = leb-true x.window.from p parts.0; high = high; reports = c.1 },
      rw (eq-eqb x.member x.member refl) (rw h high),
    )
  where
    inside : (c : Bool) (o : Option Vote) (t : Vote) → cond c o None ≡ Some t → (c ≡ true) × (o ≡ Some t)
    inside true o t h = (refl, h)
    inside false o t h = absurd (none-some t h)

-- The report that counts was made by a member that covers the position.
reported_is : (b : Ballot) (base p : ℕ) (ws : List Promised) (t : Vote) → reported b base p ws ≡ Some t → (m : ℕ) × Inside ws b p m (Some t) × (p ≤ cover b base m ws)
reported_is b base p [] t h = absurd (none-some t h)
reported_is b base p (x ∷ older) t h = one (λ q. reported_is b base p older t q) (joins b (cover b base x.member older) x.window) refl h
  where
    Rest : Type 0
    Rest = reported b base p older ≡ Some t → (m : ℕ) × Inside older b p m (Some t) × (p ≤ cover b base m older)

    old : Rest → reported b base p older ≡ Some t → (m : ℕ) × Inside (x ∷ older) b p m (Some t) × (p ≤ cover b base m (x ∷ older))
    old rest q = let r = rest q in let more = covers_more b base r.0 x older in (r.0, longer x older b p r.0 (Some t) r.1, omega (arith, r.2))

    one : Rest → (c : Bool) → joins b (cover b base x.member older) x.window ≡ c → cond c (higher (reported b base p older) (report_in p x.window)) (reported b base p older) ≡ Some t
        → (m : ℕ) × Inside (x ∷ older) b p m (Some t) × (p ≤ cover b base m (x ∷ older))
    one rest false e q = old rest q
    one rest true e q = ⊎_elim (old rest)
        (λ (o : report_in p x.window ≡ Some t). let r = reports_new b base p x older t e o in (x.member, r.0, r.1))
        (higher_is (reported b base p older) (report_in p x.window) t q)

-- a promised window stands in a message
record Told (packets : List Packet) (x : Promised) : Type 0 where
  packet : Packet
  there : Has packets packet
  sender : packet.sender ≡ x.member
  body : packet.body ≡ Promise x.window

-- the window of one message
one_told : (k : Packet) (older : List Packet) (body : Body) (x : Promised) → k.body ≡ body → Has (promised_of k.sender body) x → Told (k ∷ older) x
one_told k older (Promise w) x e (inl h) = record { packet = k; there = inl refl; sender = ap (λ (y : Promised). y.member) h; body = e ∙ ap (λ (y : Promised). Promise y.window) h }
one_told k older (Promise w) x e (inr h) = absurd h
one_told k older body x e h = absurd h

-- each window comes from a message
windows_told : (packets : List Packet) (x : Promised) → Has (windows packets) x → Told packets x
windows_told [] x h = absurd h
windows_told (k ∷ older) x h = ⊎_elim
    (λ (o : Has (promised_of k.sender k.body) x). one_told k older k.body x refl o)
    (λ (o : Has (windows older) x). let r = windows_told older x o in record { packet = r.packet; there = inr r.there; sender = r.sender; body = r.body })
    (has_cases (promised_of k.sender k.body) (windows older) x h)

-- a window is a promise
promised : (packets : List Packet) (b : Ballot) (p m : ℕ) (o : Option Vote) → Inside (windows packets) b p m o → HasPromised packets m b p o
promised packets b p m o r =
    let t = windows_told packets r.of r.there in
    record { packet = t.packet; window = r.of.window; sent = t.there; sender = t.sender ∙ r.member; body = t.body; of_ballot = r.ballot; from = r.low; covered = r.high; reports = r.reports }

-- A member that covers a position promised it, and reported no higher than the report that counts.
pub cover_promised : (b : Ballot) (base m p : ℕ) (packets : List Packet) → base < p → p ≤ cover b base m (windows packets) → (o : Option Vote) × HasPromised packets m b p o × NotAbove o (reported b base p (windows packets))
cover_promised b base m p packets l h = let r = covered_reports b base m p (windows packets) l h in (r.0, promised packets b p m r.0 r.1, r.2)

-- The report that counts was promised by a member that covers the position.
pub reported_promised : (b : Ballot) (base p : ℕ) (packets : List Packet) (t : Vote) → reported b base p (windows packets) ≡ Some t → (m : ℕ) × HasPromised packets m b p (Some t) × (p ≤ cover b base m (windows packets))
reported_promised b base p packets t h = let r = reported_is b base p (windows packets) t h in (r.0, promised packets b p r.0 (Some t) r.1, r.2)
