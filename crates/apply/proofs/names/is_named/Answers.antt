use Rattle.std.proofs.Common.{◌≡◌, ◌+◌, ◌∙◌, ◌||◌, ℕ, true, false, not, List, None, Some, Option, length, get_or, ap, sym, arith}
use Rattle.std.specs.Str.{bytes_eq}
use Rattle.data_model.specs.Trees.{Place, find, roots}
use Rattle.data_model.specs.Tidy.{has_distinct_names}
use Rattle.data_model.proofs.Climbs.{find-absent}
use Rattle.name_sets.specs.NameSets.{is_among}
use Rattle.name_sets.proofs.Distinct.{is_distinct_after, begins, goes_on, stops}
use Rattle.node_plans.specs.Splices.{rest_of}
use Rattle.tracked_drafts.specs.Tests.{is_named}
use Rattle.tracked_drafts.proofs.Exits.{passes-found, passes-absent}
use Rattle.apply.proofs.Attributes.{attributes_in, item-in, few-distinct, rest-all, none-left}
use Rattle.apply.proofs.Turns.{seen, unseen}
use Rattle.apply.proofs.names.is_named.Goals as goal
use Rattle.apply.proofs.names.is_named.Goals.{in-Some-node+in_ok-is_new+else-not-is_new, in_default}

pub returns-in-None : goal.returns-in-None
returns-in-None c = sym (passes-absent c.args.id is_named 0 c.args.draft.now.draft.after (unseen c.node.result c.args.id c.args.draft.now.draft.after c.in-None.is c.node.ensures))

pub returns-then-node-lt2 : goal.returns-then-node-lt2
returns-then-node-lt2 c =
    let ts = c.args.draft.now.draft.after in
    let x = seen c.node.result c.in-Some.node (find c.args.id ts) c.in-Some.is c.node.ensures in
    let few = c.if-node-lt2.true in
    let same : length c.in-Some.node.attributes.now ≡ length (roots x.0.attributes) = ap length x.2.attributes in
    sym (passes-found c.args.id is_named None 0 ts x.0 (c.facts.ensures.distinct c.args.id) x.1 ∙ few-distinct x.0.attributes (omega arith))

pub loop-attribute-init : goal.loop-attribute-init
loop-attribute-init c =
    let bs = attributes_in (find c.args.id c.args.draft.now.draft.after) in
    rw (c.new-names.ensures, rest-all bs) (begins bs)

-- the attributes that are left, at a place that was found
at-place : (names : List (List ℕ)) (k : ℕ) (o : Option Place) (x : Place) → o ≡ Some x → is_distinct_after names (rest_of k (attributes_in o)) ≡ has_distinct_names (attributes_in o) → is_distinct_after names (rest_of k x.attributes) ≡ has_distinct_names x.attributes
at-place names k o x e h = rw e at h

to-place : (names : List (List ℕ)) (k : ℕ) (o : Option Place) (x : Place) → o ≡ Some x → is_distinct_after names (rest_of k x.attributes) ≡ has_distinct_names x.attributes → is_distinct_after names (rest_of k (attributes_in o)) ≡ has_distinct_names (attributes_in o)
to-place names k o x e h = rw e h

pub returns-then-not-is_new : goal.returns-then-not-is_new
returns-then-not-is_new c =
    let ts = c.args.draft.now.draft.after in
    let k = c.loop-attribute.attribute-index in
    let x = seen c.node.result c.in-Some.node (find c.args.id ts) c.in-Some.is c.node.ensures in
    let l = c.loop-attribute-test.true in
    let same : length c.in-Some.node.attributes.now ≡ length (roots x.0.attributes) = ap length x.2.attributes in
    let i = c.attribute-item.result in
    let at : i ≡ get_or (roots x.0.attributes) k i = c.attribute-item.is ∙ ap (λ ids. get_or ids k i) x.2.attributes in
    let it = item-in c.args.id i k ts x.0 c.facts.ensures.distinct x.1 (omega arith) at in
    let y = seen c.node-in-loop-attribute.result c.in-Some-node.attribute (find i ts) c.in-Some-node.is c.node-in-loop-attribute.ensures in
    let z : y.0 ≡ record { parent = Some c.args.id; content = it.0.content; attributes = it.0.attributes; children = it.0.children } = (let e = sym y.1 ∙ it.1 in cc) in
    let name : c.in-Some-node.attribute.name.now ≡ it.0.content.name = y.2.name ∙ ap (λ (p : Place). p.content.name) z in
    let met : not (is_among it.0.content.name c.loop-attribute.names) ≡ false = ap (λ n. not (is_among n c.loop-attribute.names)) (sym name) ∙ sym c.in_ok-is_new.ensures.new ∙ c.if-not-is_new.true in
    let whole = at-place c.loop-attribute.names k (find c.args.id ts) x.0 x.1 c.loop-attribute.invariant in
    stops c.loop-attribute.names it.0.content it.0.attributes it.0.children (rest_of (k + 1) x.0.attributes) (has_distinct_names x.0.attributes) met (rw it.0.is at whole)
    ∙ sym (passes-found c.args.id is_named None 0 ts x.0 (c.facts.ensures.distinct c.args.id) x.1)

there : (o : Option Place) (x : Place) → o ≡ Some x → o ≡ None → ⊥
there o x e h = (let z : Some x ≡ None = sym e ∙ h in cc)

pub loop-attribute-preserved : goal.loop-attribute-preserved
loop-attribute-preserved c =
    let ts = c.args.draft.now.draft.after in
    let k = c.loop-attribute.attribute-index in
    let x = seen c.node.result c.in-Some.node (find c.args.id ts) c.in-Some.is c.node.ensures in
    let l = c.loop-attribute-test.true in
    let same : length c.in-Some.node.attributes.now ≡ length (roots x.0.attributes) = ap length x.2.attributes in
    let i = c.attribute-item.result in
    let at : i ≡ get_or (roots x.0.attributes) k i = c.attribute-item.is ∙ ap (λ ids. get_or ids k i) x.2.attributes in
    let it = item-in c.args.id i k ts x.0 c.facts.ensures.distinct x.1 (omega arith) at in
    elim c.match-node-2.branch [
      | in-Some-node+in_ok-is_new+else-not-is_new w ↦
          let y = seen c.node-in-loop-attribute.result w.in-Some-node.attribute (find i ts) w.in-Some-node.is c.node-in-loop-attribute.ensures in
          let z : y.0 ≡ record { parent = Some c.args.id; content = it.0.content; attributes = it.0.attributes; children = it.0.children } = (let e = sym y.1 ∙ it.1 in cc) in
          let name : w.in-Some-node.attribute.name.now ≡ it.0.content.name = y.2.name ∙ ap (λ (p : Place). p.content.name) z in
          let fresh : not (is_among it.0.content.name c.loop-attribute.names) ≡ true = ap (λ n. not (is_among n c.loop-attribute.names)) (sym name) ∙ sym w.in_ok-is_new.ensures.new ∙ w.if-not-is_new.false in
          let whole = at-place c.loop-attribute.names k (find c.args.id ts) x.0 x.1 c.loop-attribute.invariant in
          let more : (n : List ℕ) → is_among n c.match-node-2.names ≡ bytes_eq n it.0.content.name || is_among n c.loop-attribute.names = λ n. (rw (← name) (rw w.names-is (w.in_ok-is_new.ensures.names n))) in
          to-place c.match-node-2.names (k + 1) (find c.args.id ts) x.0 x.1 (goes_on c.loop-attribute.names c.match-node-2.names it.0.content it.0.attributes it.0.children (rest_of (k + 1) x.0.attributes) (has_distinct_names x.0.attributes) fresh more (rw it.0.is at whole))
      | in_default w ↦ absurd (there (find i ts) _ it.1 (find-absent None i ts (unseen c.node-in-loop-attribute.result i ts w.in_default.is c.node-in-loop-attribute.ensures)))
    ]

pub returns : goal.returns
returns c =
    let ts = c.args.draft.now.draft.after in
    let k = c.loop-attribute.attribute-index in
    let x = seen c.node.result c.in-Some.node (find c.args.id ts) c.in-Some.is c.node.ensures in
    let l = c.loop-attribute-test.false in
    let same : length c.in-Some.node.attributes.now ≡ length (roots x.0.attributes) = ap length x.2.attributes in
    none-left c.loop-attribute.names k x.0.attributes (has_distinct_names x.0.attributes) (omega arith) (at-place c.loop-attribute.names k (find c.args.id ts) x.0 x.1 c.loop-attribute.invariant) ∙ sym (passes-found c.args.id is_named None 0 ts x.0 (c.facts.ensures.distinct c.args.id) x.1)
