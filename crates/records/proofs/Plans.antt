-- What a plan says of writes, from a map.
use Rattle.std.proofs.Common.{◌≡◌, ℕ, Bool, true, false, cond, refl, sym, ap, ◌∙◌, ◌⊎◌, inl, inr, List, Option, Some, None, is_some, eqb, nat_cmp}
use Rattle.std.proofs.lemmas.Bool.{eq-eqb, ne_eqb, cases_eq, false≢true}
use Rattle.std.specs.Map.{lookup}
use Rattle.std.specs.BTreeMap.{is_at}
use Rattle.position_map.specs.Slots.{value_at}
use Rattle.position_map.proofs.Filling.{found, changed}
use Rattle.records.specs.Script.{AreFates, fails_at, first_of}

-- what a look-up finds is what the plan says
pub fate_found : (n : ℕ) (fates plan : List (ℕ × Bool)) (o : Option Bool) → AreFates fates plan → o ≡ lookup (is_at (nat_cmp n)) fates → o ≡ fails_at n plan
fate_found n fates plan o h e = e ∙ found n fates ∙ h n

-- what is noted where nothing was
pub noted_new : (k n : ℕ) (b : Bool) (es fs : List (ℕ × Bool)) → is_some (lookup (is_at (nat_cmp k)) es) ≡ false → lookup (is_at (nat_cmp n)) fs ≡ cond (is_at (nat_cmp k) n) (Some b) (lookup (is_at (nat_cmp n)) es) → value_at n fs ≡ first_of (value_at n es) (cond (eqb n k) (Some b) None)
noted_new k n b es fs absent e = changed k n (Some b) es fs e ∙ by_test (cases_eq n k)
  where
    nothing : (o : Option Bool) → is_some o ≡ false → first_of o (Some b) ≡ Some b
    nothing None i = refl
    nothing (Some c) i = absurd (false≢true (sym i))

    same : (o : Option Bool) → o ≡ first_of o None
    same None = refl
    same (Some c) = refl

    by_test : (n ≡ k) ⊎ (n ≡ k → ⊥) → cond (eqb n k) (Some b) (value_at n es) ≡ first_of (value_at n es) (cond (eqb n k) (Some b) None)
    by_test (inl i) = rw (eq-eqb n k i) (sym (nothing (value_at n es) (ap (λ m. is_some (value_at m es)) i ∙ ap is_some (sym (found k es)) ∙ absent)))
    by_test (inr m) = rw (ne_eqb n k m) (same (value_at n es))

-- where something was, it stays
pub noted_old : (k n : ℕ) (b : Bool) (es : List (ℕ × Bool)) → is_some (lookup (is_at (nat_cmp k)) es) ≡ true → value_at n es ≡ first_of (value_at n es) (cond (eqb n k) (Some b) None)
noted_old k n b es there = by_test (cases_eq n k)
  where
    some : (o p : Option Bool) → is_some o ≡ true → o ≡ first_of o p
    some None p i = absurd (false≢true i)
    some (Some c) p i = refl

    same : (o : Option Bool) → o ≡ first_of o None
    same None = refl
    same (Some c) = refl

    by_test : (n ≡ k) ⊎ (n ≡ k → ⊥) → value_at n es ≡ first_of (value_at n es) (cond (eqb n k) (Some b) None)
    by_test (inl i) = some (value_at n es) _ (ap (λ m. is_some (value_at m es)) i ∙ ap is_some (sym (found k es)) ∙ there)
    by_test (inr m) = rw (ne_eqb n k m) (same (value_at n es))
