-- What trees say but for identities, and what it decides.
use Rattle.std.proofs.Common.{◌≡◌, ℕ, suc, ◌+◌, ◌/◌, Bool, true, false, ◌&&◌, nat_le, if◌then◌else◌, List, length, refl, ap, ap₂, sym, ◌∙◌}
use Rattle.data_model.specs.Changes.{renumbered}
use Rattle.data_model.specs.Limits.{most_listed, most_height}
use Rattle.data_model.specs.Tidy.{lacks_name, has_distinct_names, begins_with_text}
use Rattle.data_model.specs.Trees.{Trees, no_trees, tree, append, bytes_in, roots, size, height}
use Rattle.data_model.specs.declared.node.Kind.{Kind}
use Rattle.query_meaning.specs.Content.{those, are_all, is_attribute, is_other, has_attributes_first, has_room}
use Rattle.printed_meaning.specs.Made.{anonymous, copy_work}

pub anonymous_append : (ts us : Trees) → anonymous (append ts us) ≡ append (anonymous ts) (anonymous us)
anonymous_append no_trees us = refl
anonymous_append (tree c bs cs rest) us = ap (λ t. tree (record c { identity = 0 }) (anonymous bs) (anonymous cs) t) (anonymous_append rest us)

pub anonymous_renumbered : (n : ℕ) (ts : Trees) → anonymous (renumbered n ts) ≡ anonymous ts
anonymous_renumbered n no_trees = refl
anonymous_renumbered n (tree c bs cs rest) =
    rw (anonymous_renumbered (n + 1) bs, anonymous_renumbered (n + 1 + size bs) cs, anonymous_renumbered (n + 1 + size bs + size cs) rest)

pub anonymous_those : (f : Kind → Bool) (ts : Trees) → those f (anonymous ts) ≡ anonymous (those f ts)
anonymous_those f no_trees = refl
anonymous_those f (tree c bs cs rest) = of (f c.kind) (anonymous_those f rest)
  where
    of : (b : Bool) → those f (anonymous rest) ≡ anonymous (those f rest)
        → (if b then tree (record c { identity = 0 }) (anonymous bs) (anonymous cs) (those f (anonymous rest)) else those f (anonymous rest)) ≡ anonymous (if b then tree c bs cs (those f rest) else those f rest)
    of true h = ap (λ t. tree (record c { identity = 0 }) (anonymous bs) (anonymous cs) t) h
    of false h = h

-- Numbers and tests that identities do not matter to.

pub same_length : (ts : Trees) → length (roots (anonymous ts)) ≡ length (roots ts)
same_length no_trees = refl
same_length (tree c bs cs rest) = ap suc (same_length rest)

pub same_size : (ts : Trees) → size (anonymous ts) ≡ size ts
same_size no_trees = refl
same_size (tree c bs cs rest) = rw (same_size bs, same_size cs, same_size rest)

pub same_height : (ts : Trees) → height (anonymous ts) ≡ height ts
same_height no_trees = refl
same_height (tree c bs cs rest) = rw (same_height bs, same_height cs, same_height rest)

pub same_bytes : (ts : Trees) → bytes_in (anonymous ts) ≡ bytes_in ts
same_bytes no_trees = refl
same_bytes (tree c bs cs rest) = rw (same_bytes bs, same_bytes cs, same_bytes rest)

pub same_copy_work : (ts : Trees) → copy_work (anonymous ts) ≡ copy_work ts
same_copy_work no_trees = refl
same_copy_work (tree c bs cs rest) = ap₂ (λ n m. n / 16 + m) (same_bytes (tree c bs cs no_trees)) (same_copy_work rest)

pub same_all : (f : Kind → Bool) (ts : Trees) → are_all f (anonymous ts) ≡ are_all f ts
same_all f no_trees = refl
same_all f (tree c bs cs rest) = ap (λ b. f c.kind && b) (same_all f rest)

pub same_lacks : (name : List ℕ) (ts : Trees) → lacks_name name (anonymous ts) ≡ lacks_name name ts
same_lacks name no_trees = refl
same_lacks name (tree c bs cs rest) = rw (same_lacks name rest)

pub same_distinct : (ts : Trees) → has_distinct_names (anonymous ts) ≡ has_distinct_names ts
same_distinct no_trees = refl
same_distinct (tree c bs cs rest) = ap₂ (λ a b. a && b) (same_lacks c.name rest) (same_distinct rest)

pub same_beginning : (ts : Trees) → begins_with_text (anonymous ts) ≡ begins_with_text ts
same_beginning no_trees = refl
same_beginning (tree c bs cs rest) = refl

pub same_first : (ts : Trees) → has_attributes_first (anonymous ts) ≡ has_attributes_first ts
same_first no_trees = refl
same_first (tree c bs cs rest) = ap₂ (λ a b. if is_attribute c.kind then a else b) (same_first rest) (same_all is_other rest)

pub same_room : (ts : Trees) → has_room (anonymous ts) ≡ has_room ts
same_room ts = ap₂ (λ n m. nat_le n most_listed && nat_le (m + 1) most_height) (same_length ts) (same_height ts)

-- such a number or test is the same for trees that say the same
pub carried : {A : Type 0} (f : Trees → A) → ((ts : Trees) → f (anonymous ts) ≡ f ts) → (ts us : Trees) → anonymous ts ≡ anonymous us → f ts ≡ f us
carried f same ts us e = sym (same ts) ∙ ap f e ∙ same us

-- what the roots of some kinds say
pub carried_those : (f : Kind → Bool) (ts us : Trees) → anonymous ts ≡ anonymous us → anonymous (those f ts) ≡ anonymous (those f us)
carried_those f ts us e = sym (anonymous_those f ts) ∙ ap (those f) e ∙ anonymous_those f us
