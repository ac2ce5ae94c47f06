use Rattle.std.proofs.Common.{◌≡◌, refl, string_bytes}
use Rattle.data_model.specs.Trees.{Content}
use Rattle.data_model.specs.Changes.{with_content}
use Rattle.node_table.specs.Flat.{IsChangedAt, with_name}
use Rattle.node_table.proofs.Contents.{SaysSame}
use Rattle.node_plans.specs.Planned.{table_with}
use Rattle.node_plans.proofs.Results.{by-result, on-ok, on-err}
use Rattle.trees.specs.Drafted.{table_after, draft_of, IsDrafted}
use Rattle.trees.specs.declared.draft.Drafted.{Drafted}
use Rattle.trees.proofs.Drafts.{table-there, drafted-same, drafted-content}
use Rattle.trees.proofs.draft.Draft.set_name.Goals as goal

pub set_name-requires : goal.set_name-requires
set_name-requires c = table-there c.self.inside.parts c.args.self.now c.self.view_is c.self.invariant c.args.id c.requires

abbrev says : goal.After-set_name → Content → Content
says c d = record d { name = string_bytes c.args.name }

abbrev after : goal.After-set_name → Drafted
after c = record c.self.inside.parts { plan = c.set_name.new.plan }

same : (c : goal.After-set_name) → SaysSame (says c) (with_name (string_bytes c.args.name))
same c = record { identity = λ d. refl; entry = λ d p bs cs. refl }

abbrev Changed : goal.After-set_name → Type 0
Changed c = IsChangedAt (table_after c.self.inside.parts) (table_with c.set_name.new.plan c.self.inside.parts.rows) c.args.id (with_name (string_bytes c.args.name))

abbrev Same : goal.After-set_name → Type 0
Same c = table_with c.set_name.new.plan c.self.inside.parts.rows ≡ table_after c.self.inside.parts

set : (c : goal.After-set_name) → Changed c → IsDrafted (after c) × (draft_of (after c) ≡ record c.args.self.now { after = with_content c.args.id (says c) c.args.self.now.after })
set c = drafted-content c.self.inside.parts c.args.self.now c.self.view_is c.self.invariant c.set_name.new.plan c.set_name.ensures.places (says c) (with_name (string_bytes c.args.name)) (same c) (λ e. refl) (λ e d. d) c.args.id c.requires

kept : (c : goal.After-set_name) → Same c → IsDrafted (after c) × (draft_of (after c) ≡ c.args.self.now)
kept c = drafted-same c.self.inside.parts c.args.self.now c.self.view_is c.self.invariant c.set_name.new.plan c.set_name.ensures.places

pub invariant_of-self : goal.invariant_of-self
invariant_of-self c = by-result c.set_name.result (Changed c) (Same c) (IsDrafted (after c)) c.set_name.ensures.changed c.set_name.ensures.refused (λ h. (set c h).0) (λ h. (kept c h).0)

pub returns-clause-set : goal.returns-clause-set
returns-clause-set c = on-ok c.set_name.result (Changed c) _ c.set_name.ensures.changed (λ h. (set c h).1)

pub returns-clause-refused : goal.returns-clause-refused
returns-clause-refused c = on-err c.set_name.result (Same c) _ c.set_name.ensures.refused (λ h. (kept c h).1)
