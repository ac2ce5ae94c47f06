-- What waits, after a change.
use Rattle.std.proofs.Common.{◌≡◌, ℕ, zero, suc, ◌<◌, Bool, true, false, List, [], ◌∷◌, length, sym, ap, ◌⊎◌, ⊎_elim, inl, inr, arith}
use Rattle.std.specs.Prelude.{remove, if◌then◌else◌, slice_index_or}
use Rattle.std.specs.Map.{values_of}
use Rattle.std.specs.List.{IsAmong}
use Rattle.indexmap.specs.IndexMap.{insert_entry}
use Rattle.paxos.specs.Lists.{Has}
use Rattle.server_steps.specs.Held.{carried, held_in}
use Rattle.server_steps.specs.declared.waiting.Held.{Held}
use Rattle.wires.specs.Wires.{Carried}

module _ {K D : Type 0} where
  -- what is inserted waits, and what waited before
  pub held_insert : (eq : K → K → Bool) (es : List (K × Held D)) (k : K) (h : Held D) (c : Carried D)
      → Has (held_in (insert_entry eq es k h)) c → Has (held_in es) c ⊎ (carried h ≡ c)
  held_insert eq [] k h c (inl is) = inr is
  held_insert eq [] k h c (inr none) = absurd none
  held_insert eq (e ∷ es) k h c has = at (held_insert eq es k h c) (eq k e.0) has
    where
      at : (Has (held_in (insert_entry eq es k h)) c → Has (held_in es) c ⊎ (carried h ≡ c)) → (b : Bool)
          → Has (held_in (if b then (e.0, h) ∷ es else e ∷ insert_entry eq es k h)) c → Has (held_in (e ∷ es)) c ⊎ (carried h ≡ c)
      at later true (inl is) = inr is
      at later true (inr has) = inl (inr has)
      at later false (inl is) = inl (inl is)
      at later false (inr has) = ⊎_elim (λ old. inl (inr old)) (λ is. inr is) (later has)

  -- what is left when one is removed had waited
  pub held_remove : (es : List (K × Held D)) (i : ℕ) (c : Carried D) → Has (held_in (remove es i)) c → Has (held_in es) c
  held_remove [] zero c none = none
  held_remove [] (suc i) c none = none
  held_remove (e ∷ es) zero c has = inr has
  held_remove (e ∷ es) (suc i) c (inl is) = inl is
  held_remove (e ∷ es) (suc i) c (inr has) = inr (held_remove es i c has)

  -- what a key finds waits
  pub held_among : (es : List (K × Held D)) (h : Held D) → IsAmong (values_of es) h → Has (held_in es) (carried h)
  held_among es h (i, at) = go es i at.0 at.1
    where
      go : (es : List (K × Held D)) (i : ℕ) → i < length (values_of es) → h ≡ slice_index_or (values_of es) i h → Has (held_in es) (carried h)
      go [] i less is = absurd (omega arith)
      go (e ∷ es) zero less is = inl (ap carried (sym is))
      go (e ∷ es) (suc i) less is = inr (go es i (omega arith) is)
