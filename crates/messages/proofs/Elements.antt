-- Lists that are read element by element.
use Rattle.std.proofs.Common.{◌≡◌, ℕ, zero, suc, ◌-◌, ◌<◌, List, [], ◌∷◌, ◌++◌, refl, ap, sym, arith}
use Rattle.std.proofs.lemmas.List.{append_assoc}
use Rattle.std.specs.Prelude.{false, ◌==◌, length, slice_index_or}
use Rattle.paxos.specs.WellFormed.{last_position}
use Rattle.ballots.specs.declared.ballot.Ballot.{Ballot}
use Rattle.ballots.specs.declared.value.Entry.{Entry}
use Rattle.ballots.specs.declared.value.Pair.{Pair}
use Rattle.messages.specs.declared.fault.WireFault.{WireFault}
use Rattle.ballots.specs.Values.{positions}
use Rattle.messages.specs.Reading.{Read, Gives, Fails, on_read, pure, entry_read, entries_read, pair_read, pairs_read, ends_well}

-- what was read, and then the rest
abbrev pub more : {A : Type 0} → List A → Read (List A) → Read (List A)
more xs r = on_read r (λ ys. pure (xs ++ ys))

join : {A : Type 0} (xs : List A) (x : A) (r : Read (List A)) → more xs (on_read r (λ ys. pure (x ∷ ys))) ≡ more (xs ++ x ∷ []) r
join xs x (Gives ys rest) = ap (λ zs. Gives zs rest) (sym (append_assoc xs (x ∷ []) ys))
join xs x (Fails f) = refl

pub next_entry : (left fewer next : ℕ) (b : Ballot) (least most : ℕ) (bytes after : List ℕ) (xs : List Entry) (e : Entry) → left ≡ suc fewer → next ≡ suc e.position → entry_read b least most bytes ≡ Gives e after → more xs (entries_read left b least most bytes) ≡ more (xs ++ e ∷ []) (entries_read fewer b next most after)
next_entry left n next b least most bytes after xs e a c h = rw (a, c, h) (join xs e (entries_read n b (suc e.position) most after))

pub no_entry : (left fewer : ℕ) (b : Ballot) (least most : ℕ) (bytes : List ℕ) (xs : List Entry) (f : WireFault) → left ≡ suc fewer → entry_read b least most bytes ≡ Fails f → more xs (entries_read left b least most bytes) ≡ Fails f
no_entry left n b least most bytes xs f a h = rw (a, h) refl

pub next_pair : (left fewer next least : ℕ) (bytes after : List ℕ) (xs : List Pair) (e : Pair) → left ≡ suc fewer → next ≡ suc e.position → pair_read least bytes ≡ Gives e after → more xs (pairs_read left least bytes) ≡ more (xs ++ e ∷ []) (pairs_read fewer next after)
next_pair left n next least bytes after xs e a c h = rw (a, c, h) (join xs e (pairs_read n (suc e.position) after))

pub no_pair : (left fewer least : ℕ) (bytes : List ℕ) (xs : List Pair) (f : WireFault) → left ≡ suc fewer → pair_read least bytes ≡ Fails f → more xs (pairs_read left least bytes) ≡ Fails f
no_pair left n least bytes xs f a h = rw (a, h) refl

pub from_none : {A : Type 0} (r : Read (List A)) → r ≡ more [] r
from_none (Gives ys rest) = refl
from_none (Fails f) = refl

-- so many are left
pub one_fewer : (left : ℕ) → 0 < left → left ≡ suc (left - 1)
one_fewer left some = omega arith

-- the last of eight votes
pub last_of : (n p : ℕ) (es : List Entry) (d : Entry) → length es ≡ suc n → last_position p es ≡ (slice_index_or es n d).position
last_of n p [] d h = absurd (omega arith)
last_of zero p (e ∷ []) d h = refl
last_of zero p (e ∷ x ∷ es) d h = absurd (omega arith)
last_of (suc n) p (e ∷ es) d h = last_of n e.position es d (omega arith)

not-equal : (a b : ℕ) → (a ≡ b → ⊥) → (a == b) ≡ false
not-equal a b h = grind arith

-- eight votes end with the last that is covered, where that is not the last position of all
pub ends_with_eighth : (covered : ℕ) (es : List Entry) (d : Entry) → (covered ≡ positions → ⊥) → length es ≡ 8 → ((slice_index_or es 7 d).position == covered) ≡ ends_well covered es
ends_with_eighth covered es d other eight = rw (not-equal covered positions other, eight, last_of 7 0 es d eight) refl
