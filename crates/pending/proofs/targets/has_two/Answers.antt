use Rattle.std.proofs.Common.{◌∙◌, sym, ap, refl, filter_map, map}
use Rattle.pending.specs.Compatible.{has_two, is_among}
use Rattle.pending.specs.Inside.{target_by}
use Rattle.pending.specs.Primitives.{primitive_term}
use Rattle.pending.proofs.Repeats.{among-none, step, not-new}
use Rattle.pending.proofs.targets.has_two.Goals as goal

pub loop-primitive-init : goal.loop-primitive-init
loop-primitive-init c = rw c.new-targets.ensures (rw (among-none (filter_map (target_by c.args.once) (map primitive_term c.args.primitives.now))) refl)

pub loop-primitive-preserved-else-not-is_new : goal.loop-primitive-preserved-else-not-is_new
loop-primitive-preserved-else-not-is_new c =
    step (target_by c.args.once) c.loop-primitive.targets c.add.new.self (primitive_term c.in-Some.primitive.now) (map primitive_term c.in-Some.others.now) (map primitive_term c.loop-primitive.rest.now) c.in-Some-target_of.target
    (has_two (target_by c.args.once) (map primitive_term c.args.primitives.now))
    (ap (map primitive_term) (c.in-Some.ensures.cases).0)
    (sym c.target_of.ensures ∙ c.in-Some-target_of.is)
    (not-new c.in_ok-is_new.is_new (is_among c.loop-primitive.targets c.in-Some-target_of.target) (c.in_ok-is_new.ensures).added c.if-not-is_new.false)
    (c.in_ok-is_new.ensures).targets
    c.loop-primitive.invariant
