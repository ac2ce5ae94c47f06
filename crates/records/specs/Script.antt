-- A store in memory whose writes fail by a plan.
use Rattle.std.specs.Prelude.{◌≡◌, ◌+◌, ◌-◌, ◌^◌, ◌==◌, ◌⊎◌, ℕ, suc, min, Bool, false, cond, List, Option, Some, None, Result, Ok, Err, refl}
use Rattle.std.specs.Map.{lookup}
use Rattle.std.specs.Coded.{Coded, code_by, coded×, coded_ℕ, coded_bool, coded_list}
use Rattle.paxos.specs.Records.{Record, Write, written}
use Rattle.position_map.specs.Slots.{value_at}
use Rattle.records.specs.Kept.{record_code}
use Rattle.records.specs.Law.{Fate, passing}
use Rattle.records.specs.declared.records.RecordsFault.{RecordsFault}
use Rattle.records.specs.declared.records.RecordsFault.TheVariants.{Memory, Store}

-- the record, which writes fail and whether they are made, how many writes there were and how many failed, and whether the next is let pass
pub record Script : Type 0 where
  pub kept : Record
  pub plan : List (ℕ × Bool)
  pub writes : ℕ
  pub failures : ℕ
  pub passes : Bool

abbrev pub script_code : Coded Script
script_code =
    code_by (Record × (List (ℕ × Bool) × (ℕ × (ℕ × Bool)))) (coded× record_code (coded× (coded_list (coded× coded_ℕ coded_bool)) (coded× coded_ℕ (coded× coded_ℕ coded_bool)))) (λ s. (s.kept, (s.plan, (s.writes, (s.failures, s.passes))))) (λ p. record { kept = p.0; plan = p.1.0; writes = p.1.1.0; failures = p.1.1.1.0; passes = p.1.1.1.1 }) (λ _. refl)

-- what a crash leaves is what it keeps
abbrev pub Stands : Script → Record → Record → Type 0
Stands s a b = (s.kept ≡ a) ⊎ (s.kept ≡ b)

-- nobody else has it
abbrev pub IsKept : Script → Type 0
IsKept s = Unit {0}

-- one more, up to the largest number of 64 bits
abbrev pub one_more : ℕ → ℕ
one_more n = min (n + 1) (2 ^ 64 - 1)

-- whether the write of a number fails: where it does, whether it is made
abbrev pub fails_at : (number : ℕ) → List (ℕ × Bool) → Option Bool
fails_at n plan = lookup (λ m. n == m) plan

-- the first of the two that there is
abbrev pub first_of : {A : Type 0} → Option A → Option A → Option A
first_of None o = o
first_of (Some x) o = Some x

-- a map has of each number what the plan says of it
abbrev pub AreFates : List (ℕ × Bool) → (plan : List (ℕ × Bool)) → Type 0
AreFates fates plan = (n : ℕ) → value_at n fates ≡ fails_at n plan

-- what comes of the writes: the next one, and those after it
abbrev pub fates_of : Script → ℕ → Fate
fates_of s k = Some (fails_at (min (s.writes + suc k) (2 ^ 64 - 1)) s.plan)

-- whether the next write fails: where it does, whether it is made
abbrev pub next_fate : Script → Option Bool
next_fate s = passing s.passes (fails_at (one_more s.writes) s.plan)

-- no more is let pass
abbrev pub stopping : Script → Script
stopping s = record { kept = s.kept; plan = s.plan; writes = s.writes; failures = s.failures; passes = false }

-- what the plan makes of a write: none where it doesn't fail
abbrev pub after_write : Option Bool → Write → Script → Script
after_write None w s = record { kept = written w s.kept; plan = s.plan; writes = one_more s.writes; failures = s.failures; passes = false }
after_write (Some is_made) w s = record { kept = cond is_made (written w s.kept) s.kept; plan = s.plan; writes = one_more s.writes; failures = one_more s.failures; passes = false }

-- A write went by the plan; where memory was refused, it was none.
abbrev pub GoesBy : Script → Write → Script → Result (Unit {0}) RecordsFault → Type 0
GoesBy old w new (Ok _) = (next_fate old ≡ None) × (new ≡ after_write None w old)
GoesBy old w new (Err Memory) = new ≡ stopping old
GoesBy old w new (Err Store) = (is_made : Bool) × (next_fate old ≡ Some is_made) × (new ≡ after_write (Some is_made) w old)
