-- Writes one after another.
use Rattle.std.proofs.Common.{◌≡◌, ℕ, arith, refl, sym, ap, ◌∙◌, subst, Bool, List, [], ◌∷◌, ◌++◌, Result}
use Rattle.paxos.specs.Records.{Record, written}
use Rattle.records.specs.Group.{after, write_of, AreWrites, Behind, IsBehind, GoTogether, HasRoom, IsDue, IsWrite, MayBeWritten}
use Rattle.records.specs.Law.{Fate, Goes}
use Rattle.records.specs.declared.records.RecordsFault.{RecordsFault}
use Rattle.records.specs.declared.group.Write.{Write}
use Rattle.records.specs.declared.group.Write.TheVariants as write

-- a learnt value that comes just behind the others, at a position, has room
pub has_room : (w : Write) (r : Record) → IsWrite w → IsDue w r → HasRoom w r
has_room (write.Promise ballot) r a d = tt
has_room (write.Vote position vote) r a d = tt
has_room (write.Learnt position value) r a d = omega arith

-- one write more, behind the others
pub writes_more : (ws : List Write) (w : Write) → AreWrites ws → IsWrite w → AreWrites (ws ++ w ∷ [])
writes_more [] w h a = (a, tt)
writes_more (v ∷ vs) w h a = (h.0, writes_more vs w h.1 a)

pub after_more : (ws : List Write) (w : Write) (r : Record) → after (ws ++ w ∷ []) r ≡ written (write_of w) (after ws r)
after_more [] w r = refl
after_more (v ∷ vs) w r = after_more vs w (written (write_of v) r)

may_more : (ws : List Write) (w : Write) (r : Record) → MayBeWritten ws r → IsDue w (after ws r) → MayBeWritten (ws ++ w ∷ []) r
may_more [] w r m d = (d, tt)
may_more (v ∷ vs) w r m d = (m.0, may_more vs w (written (write_of v) r) m.1 d)

-- The store is one write more behind.
pub is_behind_more : {R : Type 0} (stands : R → Record → Record → Type 0) (store : R) (ws : List Write) (w : Write) (taken base : Record) → IsBehind stands store ws taken base → IsDue w taken → IsBehind stands store (ws ++ w ∷ []) (written (write_of w) taken) base
is_behind_more stands store ws w taken base b d =
    let may = may_more ws w base b.1 (subst (IsDue w) b.2 d) in
    (b.0, may, ap (written (write_of w)) b.2 ∙ sym (after_more ws w base))

pub behind_more : {R : Type 0} (stands : R → Record → Record → Type 0) (store : R) (ws : List Write) (w : Write) (taken : Record) → Behind stands store ws taken → IsDue w taken → Behind stands store (ws ++ w ∷ []) (written (write_of w) taken)
behind_more stands store ws w taken b d = (b.0, is_behind_more stands store ws w taken b.0 b.1 d)

-- So far as a loop over writes has come: the rest may be written over the record now, and makes of it what all of them make of the first.
pub record Left (writes rest : List Write) (first now : Record) : Type 0 where
  pub are : AreWrites rest
  pub due : MayBeWritten rest now
  pub same : after rest now ≡ after writes first

-- all of them are left
pub left_all : (ws : List Write) (r : Record) → AreWrites ws → MayBeWritten ws r → Left ws ws r r
left_all ws r a d = record { are = a; due = d; same = refl }

left_rest : (ws : List Write) (w : Write) (more : List Write) (first now : Record) → Left ws (w ∷ more) first now → IsWrite w × IsDue w now × Left ws more first (written (write_of w) now)
left_rest ws w more first now l = (l.are.0, l.due.0, record { are = l.are.1; due = l.due.1; same = l.same })

-- the next of them is written
pub left_next : (ws rest : List Write) (w : Write) (more : List Write) (first now : Record) → rest ≡ w ∷ more → Left ws rest first now → IsWrite w × IsDue w now × Left ws more first (written (write_of w) now)
left_next ws rest w more first now e l = left_rest ws w more first now (subst (λ r. Left ws r first now) e l)

-- none is left
pub left_none : (ws rest : List Write) (first now : Record) → rest ≡ [] → Left ws rest first now → now ≡ after ws first
left_none ws rest first now e l = subst (λ r. after r now ≡ after ws first) e l.same

-- of writes that are made as one
pub goes_together : (stands : Record → Record → Type 0) (old new : ℕ → Fate) (p : Bool) (last : Record) (ws : List Write) (result : Result (Unit {0}) RecordsFault) → (ws ≡ [] → ⊥) → Goes stands old new p last (after ws last) result → GoTogether stands old new p last ws result
goes_together stands old new p last [] result some h = absurd (some refl)
goes_together stands old new p last (w ∷ ws) result some h = h
