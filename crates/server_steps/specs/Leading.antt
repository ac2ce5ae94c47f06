-- When a member that was told to lead begins a ballot.
use Rattle.std.specs.Prelude.{ℕ, ◌==◌, ◌*◌, ◌-◌, Bool, true, false, if◌then◌else◌, min, nat_le}
use Rattle.server_steps.specs.declared.leading.Word.{Word}
use Rattle.server_steps.specs.declared.leading.Word.TheVariants.{Unsaid, Said, CatchingUp, Begun, Spent}

abbrev pub is_told : Word → Bool
is_told Unsaid = false
is_told word = true

-- how many ticks pass before a member that nobody follows begins again, for the first time and at most
abbrev pub first_pause : ℕ
first_pause = 10

abbrev pub longest_pause : ℕ
longest_pause = 64

-- so many ticks before it begins again, where that is not yet to be; each pause is twice as long as the one before it
abbrev pub after_pause : (left pause : ℕ) → Word × Bool
after_pause left pause = if nat_le left 1 then (Begun (min (2 * pause) longest_pause) (min (2 * pause) longest_pause), true) else (Begun (left - 1) pause, false)

-- What becomes of the word at a tick, and whether a ballot begins now: where so many positions are learnt without a gap, where the node leads, and where it
-- is followed. A member catches up first, as far as it is told anything; it begins where a while told it nothing. While it leads and nobody follows it,
-- it begins again. Once it is followed, or has yielded, it never does.
abbrev pub after_tick : Word → (prefix : ℕ) → (leads is_followed : Bool) → Word × Bool
after_tick Unsaid prefix leads is_followed = (Unsaid, false)
after_tick Said prefix leads is_followed = (CatchingUp prefix, false)
after_tick (CatchingUp before) prefix leads is_followed = if prefix == before then (Begun first_pause first_pause, true) else (CatchingUp prefix, false)
after_tick (Begun left pause) prefix true false = after_pause left pause
after_tick (Begun left pause) prefix leads is_followed = (Spent, false)
after_tick Spent prefix leads is_followed = (Spent, false)
