-- Relations of runs that each single change keeps.
use Rattle.std.proofs.Common.{◌≡◌, ◌≤◌, ◌<◌, ◌+◌, ℕ, List, [], ◌∷◌, ◌++◌, refl, ap, sym, ◌∙◌, arith}
use Rattle.std.proofs.lemmas.Bool.{leb-true}
use Rattle.std.proofs.lemmas.List.{append-nil, append_assoc}
use Rattle.data_model.proofs.Weights.{append-none, append-append}
use Rattle.data_model.specs.Trees.{Trees, no_trees, append}
use Rattle.pending.specs.Primitives.{PrimitiveTerm}
use Rattle.query_meaning.specs.Running.{Run, most_nodes}
use Rattle.update_meaning.specs.Changed.{rooted_at, with_changed}
use Rattle.meaning_laws.proofs.Changing.{IsRoot, others_of, below_others, first_stay}
use Rattle.meaning_laws.proofs.Keeps.{AreFrom, IsSteady, IsQuiet}

abbrev pub SameForest : Run → Run → Type 0
SameForest a b = b.shelf.lent ≡ a.shelf.lent

pub same_forest : IsSteady SameForest
same_forest = record {
  quiet = record {
    same = λ run. refl;
    chained = λ a b c h g. g ∙ h;
    turned = λ run n. refl;
    worked = λ run n. refl;
    numbered = λ run n h. refl;
    stood = λ run ts. refl;
    changed = λ a b is ps h from. h;
  };
  added = λ run p. refl;
  owned = λ run a h. h;
}

abbrev IsWithin : Run → Type 0
IsWithin run = run.shelf.own.next ≤ run.shelf.lent.next + most_nodes

-- identities are taken, within the limit
abbrev pub Numbers : Run → Run → Type 0
Numbers a b = (a.shelf.own.next ≤ b.shelf.own.next) × (IsWithin a → IsWithin b)

pub numbers : IsSteady Numbers
numbers = record {
  quiet = record {
    same = λ run. (omega arith, λ h. h);
    chained = λ a b c h g. (omega (arith, h.0, g.0), λ w. g.1 (h.1 w));
    turned = λ run n. (omega arith, λ h. h);
    worked = λ run n. (omega arith, λ h. h);
    numbered = λ run n h. (omega arith, λ w. leb-true (run.shelf.own.next + n) (run.shelf.lent.next + most_nodes) h);
    stood = λ run ts. (omega arith, λ h. h);
    changed = λ a b is ps h from. h;
  };
  added = λ run p. (omega arith, λ h. h);
  owned = λ run a h. h;
}

abbrev pub Longer : List PrimitiveTerm → List PrimitiveTerm → Type 0
Longer xs ys = (more : List PrimitiveTerm) × (ys ≡ xs ++ more)

-- primitives are put after those that there are
abbrev pub MorePrimitives : Run → Run → Type 0
MorePrimitives a b = Longer a.primitives b.primitives

pub more_primitives : IsSteady MorePrimitives
more_primitives = record {
  quiet = record {
    same = λ run. ([], sym (append-nil run.primitives));
    chained = λ a b c h g. (h.0 ++ g.0, g.1 ∙ ap (λ xs. xs ++ g.0) h.1 ∙ append_assoc a.primitives h.0 g.0);
    turned = λ run n. ([], sym (append-nil run.primitives));
    worked = λ run n. ([], sym (append-nil run.primitives));
    numbered = λ run n h. ([], sym (append-nil run.primitives));
    stood = λ run ts. ([], sym (append-nil run.primitives));
    changed = λ a b is ps h from. h;
  };
  added = λ run p. (p ∷ [], refl);
  owned = λ run a h. ([], sym (append-nil run.primitives));
}

abbrev pub Beside : Trees → Trees → Type 0
Beside ts us = (more : Trees) × (us ≡ append ts more)

pub same_beside : (ts us : Trees) → us ≡ ts → Beside ts us
same_beside ts us h = (no_trees, h ∙ sym (append-none ts))

pub none_beside : (ts : Trees) → Beside ts ts
none_beside ts = same_beside ts ts refl

pub both_beside : (ts us vs : Trees) → Beside ts us → Beside us vs → Beside ts vs
both_beside ts us vs h g = (append h.0 g.0, g.1 ∙ ap (λ ws. append ws g.0) h.1 ∙ append-append ts h.0 g.0)

-- some trees stand first, and the next identity is n or a later one
abbrev pub AreFirst : ℕ → Trees → Run → Type 0
AreFirst n ts run = (n ≤ run.shelf.own.next) × Beside ts run.shelf.own.trees

-- where they stand first, they do so still
abbrev pub StandFirst : ℕ → Trees → Run → Run → Type 0
StandFirst n ts a b = AreFirst n ts a → AreFirst n ts b

-- trees whose roots come before n stay, since those that are changed come later
pub stand_first : (n : ℕ) (ts : Trees) → ((k : ℕ) → IsRoot k ts → k < n) → IsSteady (StandFirst n ts)
stand_first n ts low = record {
  quiet = record {
    same = λ run h. h;
    chained = λ a b c h g k. g (h k);
    turned = λ run m h. h;
    worked = λ run m h. h;
    numbered = λ run m room h. (omega (arith, h.0), h.1);
    stood = λ run us h. (h.0, both_beside ts run.shelf.own.trees _ h.1 (us, refl));
    changed = λ a b is ps stay from h. (let g = stay h in (g.0, changed a.shelf.own.next is ps b.shelf.own.trees h.0 from g.1));
  };
  added = λ run p h. h;
  owned = λ run a stay h. stay h;
}
  where
    changed : (m : ℕ) (is : List ℕ) (ps : List PrimitiveTerm) (us : Trees) → n ≤ m → AreFrom m is → Beside ts us → Beside ts (with_changed (rooted_at is) ps us)
    changed m is ps us h from g =
        let others = others_of is ts (λ k r. below_others m k is from (let l = low k r in omega (arith, l, h))) in
        (with_changed (rooted_at is) ps g.0, ap (with_changed (rooted_at is) ps) g.1 ∙ first_stay is ps ts g.0 others)

abbrev pub SamePrimitives : Run → Run → Type 0
SamePrimitives a b = b.primitives ≡ a.primitives

pub same_primitives : IsQuiet SamePrimitives
same_primitives = record {
  same = λ run. refl;
  chained = λ a b c h g. g ∙ h;
  turned = λ run n. refl;
  worked = λ run n. refl;
  numbered = λ run n h. refl;
  stood = λ run ts. refl;
  changed = λ a b is ps h from. h;
}

-- Relations of a kind.

-- the next identity is none that was taken before
abbrev pub Onward : (Run → Run → Type 0) → Run → Run → Type 0
Onward R a b = (a.shelf.own.next ≤ b.shelf.own.next) × R a b

pub quiet_onward : (R : Run → Run → Type 0) → IsQuiet R → IsQuiet (Onward R)
quiet_onward R s = record {
  same = λ run. (omega arith, s.same run);
  chained = λ a b c h g. (omega (arith, h.0, g.0), s.chained a b c h.1 g.1);
  turned = λ run n. (omega arith, s.turned run n);
  worked = λ run n. (omega arith, s.worked run n);
  numbered = λ run n room. (omega arith, s.numbered run n room);
  stood = λ run ts. (omega arith, s.stood run ts);
  changed = λ a b is ps h from. (h.0, s.changed a b is ps h.1 from);
}

pub steady_onward : (R : Run → Run → Type 0) → IsSteady R → IsSteady (Onward R)
steady_onward R s = record {
  quiet = quiet_onward R s.quiet;
  added = λ run p. (omega arith, s.added run p);
  owned = λ run a h. (h.0, s.owned run a h.1);
}

-- whichever the primitives are
abbrev pub Whichever : (Run → Run → Type 0) → Run → Run → Type 0
Whichever R a b = (ps : List PrimitiveTerm) → R (record a { primitives = ps }) (record b { primitives = ps })

-- what does not ask for primitives is kept by those that are added too
pub steady_whichever : (R : Run → Run → Type 0) → IsQuiet R → IsSteady (Whichever R)
steady_whichever R s = record {
  quiet = record {
    same = λ run ps. s.same (record run { primitives = ps });
    chained = λ a b c h g ps. s.chained (record a { primitives = ps }) (record b { primitives = ps }) (record c { primitives = ps }) (h ps) (g ps);
    turned = λ run n ps. s.turned (record run { primitives = ps }) n;
    worked = λ run n ps. s.worked (record run { primitives = ps }) n;
    numbered = λ run n room ps. s.numbered (record run { primitives = ps }) n room;
    stood = λ run ts ps. s.stood (record run { primitives = ps }) ts;
    changed = λ a b is qs h from ps. s.changed (record a { primitives = ps }) (record b { primitives = ps }) is qs (h ps) from;
  };
  added = λ run p ps. s.same (record run { primitives = ps });
  owned = λ run a h ps. h ps;
}
