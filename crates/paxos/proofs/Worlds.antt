-- What is known of runs and of single events without the protocol: what code that runs a world has to show.
use Rattle.std.proofs.Common.{◌≡◌, ℕ, zero, suc, refl, sym, ap, ◌∙◌, Some, None, List, [], ◌∷◌, ◌++◌, append-nil, slice_get, slice_set}
use Rattle.std.proofs.lemmas.List.{map-append}
use Rattle.std.proofs.lemmas.Option.{same_Some}
use Rattle.paxos.specs.Lists.{at, put}
use Rattle.paxos.specs.Application.{Application}
use Rattle.paxos.specs.Records.{Record}
use Rattle.paxos.specs.Step.{Running, Effect, quiet}
use Rattle.paxos.specs.World.{World, Event, Choice, after, acts, takes, happens, Happening, run, Run}

-- one event more
pub run_more : (app : Application) (w : World) (hs : List Happening) (h : Happening) → run app w (hs ++ h ∷ []) ≡ happens app (run app w hs) h.choice h.event
run_more app w [] h = refl
run_more app w (x ∷ hs) h = run_more app (happens app w x.choice x.event) hs h

-- a list of events and one more, whatever it left open
pub Run-more : (app : Application) (w end : World) (events : List Event) (event : Event) (c : Choice) → Run app w events end → Run app w (events ++ event ∷ []) (happens app end c event)
Run-more app w end events event c r = (
  r.0 ++ new ∷ [],
  map-append (λ (h : Happening). h.event) r.0 (new ∷ []) ∙ ap (λ (es : List Event). es ++ event ∷ []) r.1,
  run_more app w r.0 new ∙ ap (λ (x : World). happens app x c event) r.2,
)
  where
    new : Happening
    new = record { event = event; choice = c }

-- no event
pub Run-none : (app : Application) (w : World) → Run app w [] w
Run-none app w = ([], refl, refl)

-- what is set in its own place changes nothing
put_same : {A : Type 0} (xs : List A) (i : ℕ) (x : A) → slice_get xs i ≡ Some x → slice_set xs i x ≡ xs
put_same [] i x h = refl
put_same (y ∷ xs) zero x h = ap (λ z. z ∷ xs) (sym (same_Some y x h))
put_same (y ∷ xs) (suc i) x h = ap (λ z. y ∷ z) (put_same xs i x h)

-- what is put in its own place changes nothing
pub put-same : {A : Type 0} (xs : List A) (m : ℕ) (x : A) → at xs m ≡ Some x → put xs m x ≡ xs
put-same xs zero x h = refl
put-same xs (suc i) x h = put_same xs i x h

-- a quiet step changes nothing
pub quiet-same : (w : World) (m : ℕ) (r : Record) (u : Running) → at w.members m ≡ Some (record { kept = r; running = Some u }) → after w m r (quiet u) ≡ w
quiet-same w m r u h = rw (put-same w.members m (record { kept = r; running = Some u }) h) (simp append-nil)

-- a running member that is there takes its step
pub acts-there : (w : World) (m : ℕ) (r : Record) (u : Running) (step : Record → Running → Effect) → at w.members m ≡ Some (record { kept = r; running = Some u }) → acts w m step ≡ after w m r (step r u)
acts-there w m r u step h = ap (takes w m step) h

-- a stopped member takes none
pub acts-stopped : (w : World) (m : ℕ) (r : Record) (step : Record → Running → Effect) → at w.members m ≡ Some (record { kept = r; running = None }) → acts w m step ≡ w
acts-stopped w m r step h = ap (takes w m step) h
