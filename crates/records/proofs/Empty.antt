-- The record that keeps nothing.
use Rattle.std.proofs.Common.{◌≡◌, ℕ, refl, sym, subst, inl, arith}
use Rattle.paxos.specs.Records.{Record, empty_record}
use Rattle.paxos.specs.WellFormed.{IsRecord}

-- it is the record of one of so many members, however many they are
pub empty_is_record : (n : ℕ) → IsRecord n empty_record
empty_is_record n = record { promise = inl refl; votes = tt; learnt = omega arith }

-- so is each that is the same
pub is_record_empty : (r : Record) (n : ℕ) → r ≡ empty_record → IsRecord n r
is_record_empty r n is = subst (IsRecord n) (sym is) (empty_is_record n)
