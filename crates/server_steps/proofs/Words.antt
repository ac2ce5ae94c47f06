-- A word to lead, at a tick.
use Rattle.std.proofs.Common.{◌≡◌, ◌∙◌, ℕ, Bool, true, false, refl, sym, ap}
use Rattle.std.specs.Prelude.{◌==◌, ◌*◌, ◌-◌, if◌then◌else◌, min, nat_le}
use Rattle.std.proofs.lemmas.Bool.{false≢true}
use Rattle.server_steps.specs.Leading.{after_tick, first_pause, is_told, longest_pause}
use Rattle.server_steps.specs.declared.leading.Word.{Word}
use Rattle.server_steps.specs.declared.leading.Word.TheVariants.{Unsaid, Said, CatchingUp, Begun, Spent}

-- what is told is told either way
either : (b : Bool) (p q : Word × Bool) (t : Bool) → is_told p.0 ≡ t → is_told q.0 ≡ t → is_told (if b then p else q).0 ≡ t
either true p q t so not_so = so
either false p q t so not_so = not_so

after_told : (word : Word) (prefix : ℕ) (leads is_followed : Bool) → is_told (after_tick word prefix leads is_followed).0 ≡ is_told word
after_told Unsaid prefix leads is_followed = refl
after_told Said prefix leads is_followed = refl
after_told (CatchingUp before) prefix leads is_followed = either (prefix == before) (Begun first_pause first_pause, true) (CatchingUp prefix, false) true refl refl
after_told (Begun left pause) prefix true true = refl
after_told (Begun left pause) prefix true false = either (nat_le left 1) (Begun (min (2 * pause) longest_pause) (min (2 * pause) longest_pause), true) (Begun (left - 1) pause, false) true refl refl
after_told (Begun left pause) prefix false is_followed = refl
after_told Spent prefix leads is_followed = refl

after_begins : (word : Word) (prefix : ℕ) (leads is_followed : Bool) → (after_tick word prefix leads is_followed).1 ≡ true → is_told word ≡ true
after_begins Unsaid prefix leads is_followed is = absurd (false≢true is)
after_begins Said prefix leads is_followed is = refl
after_begins (CatchingUp before) prefix leads is_followed is = refl
after_begins (Begun left pause) prefix leads is_followed is = refl
after_begins Spent prefix leads is_followed is = refl

pub stays_told : (word : Word) (prefix : ℕ) (leads is_followed : Bool) (r : Word × Bool) → r ≡ after_tick word prefix leads is_followed → is_told r.0 ≡ is_told word
stays_told word prefix leads is_followed r is = ap (λ (p : Word × Bool). is_told p.0) is ∙ after_told word prefix leads is_followed

pub begins_told : (word : Word) (prefix : ℕ) (leads is_followed : Bool) (r : Word × Bool) → r ≡ after_tick word prefix leads is_followed → r.1 ≡ true → is_told word ≡ true
begins_told word prefix leads is_followed r is begins = after_begins word prefix leads is_followed (ap (λ (p : Word × Bool). p.1) (sym is) ∙ begins)
