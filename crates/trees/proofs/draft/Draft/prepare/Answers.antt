use Rattle.std.proofs.Common.{◌∙◌, ap, refl}
use Rattle.trees.specs.Drafts.{DraftTerm}
use Rattle.trees.proofs.Drafts.{roomy-is, roomy-drafted, same-table}
use Rattle.trees.proofs.draft.Draft.prepare.Goals as goal

pub make_room-requires : goal.make_room-requires
make_room-requires c = c.self.invariant.before.named

pub invariant_of-result : goal.invariant_of-result
invariant_of-result c =
    let a = c.self.inside.parts in
    let m = c.make_room in
    record {
      drafted = roomy-drafted a c.args.self c.self.view_is c.self.invariant (record a { rows = m.new.rows; index = m.new.index }) m.ensures.same refl refl refl refl refl refl m.ensures.before m.ensures.sizes refl;
      room = c.in-Ok.ensures.room;
      named = rw (same-table a.plan a.rows m.new.rows m.ensures.same) c.in-Ok.ensures.after;
    }

pub undrafted-requires : goal.undrafted-requires
undrafted-requires c =
    let a = c.self.inside.parts in
    let m = c.make_room in
    (roomy-drafted a c.args.self c.self.view_is c.self.invariant (record a { rows = m.new.rows; index = m.new.index }) m.ensures.same refl refl refl refl refl refl m.ensures.before m.ensures.sizes refl).before

pub returns-in-Ok-clause-prepared : goal.returns-in-Ok-clause-prepared
returns-in-Ok-clause-prepared c =
    let a = c.self.inside.parts in
    let m = c.make_room in roomy-is a c.args.self c.self.view_is c.self.invariant (record a { rows = m.new.rows; index = m.new.index }) m.ensures.same refl refl refl refl refl refl m.ensures.before m.ensures.sizes refl

pub returns-in-Err-clause-refused : goal.returns-in-Err-clause-refused
returns-in-Err-clause-refused c =
    let a = c.self.inside.parts in
    let m = c.make_room in
    c.undrafted.ensures ∙ ap (λ (d : DraftTerm). d.before) (roomy-is a c.args.self c.self.view_is c.self.invariant (record a { rows = m.new.rows; index = m.new.index }) m.ensures.same refl refl refl refl refl refl m.ensures.before m.ensures.sizes refl)
