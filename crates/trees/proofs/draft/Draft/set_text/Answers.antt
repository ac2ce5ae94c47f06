use Rattle.std.proofs.Common.{◌≡◌, refl, string_bytes}
use Rattle.data_model.specs.Trees.{Content}
use Rattle.data_model.specs.Changes.{with_content}
use Rattle.node_table.specs.Flat.{IsChangedAt, with_text}
use Rattle.node_table.proofs.Contents.{SaysSame}
use Rattle.node_plans.specs.Planned.{table_with}
use Rattle.node_plans.proofs.Results.{by-result, on-ok, on-err}
use Rattle.trees.specs.Drafted.{table_after, draft_of, IsDrafted}
use Rattle.trees.specs.declared.draft.Drafted.{Drafted}
use Rattle.trees.proofs.Drafts.{table-there, drafted-same, drafted-content}
use Rattle.trees.proofs.draft.Draft.set_text.Goals as goal

pub set_text-requires : goal.set_text-requires
set_text-requires c = table-there c.self.inside.parts c.args.self.now c.self.view_is c.self.invariant c.args.id c.requires

abbrev says : goal.After-set_text → Content → Content
says c d = record d { text = string_bytes c.args.text }

abbrev after : goal.After-set_text → Drafted
after c = record c.self.inside.parts { plan = c.set_text.new.plan }

same : (c : goal.After-set_text) → SaysSame (says c) (with_text (string_bytes c.args.text))
same c = record { identity = λ d. refl; entry = λ d p bs cs. refl }

abbrev Changed : goal.After-set_text → Type 0
Changed c = IsChangedAt (table_after c.self.inside.parts) (table_with c.set_text.new.plan c.self.inside.parts.rows) c.args.id (with_text (string_bytes c.args.text))

abbrev Same : goal.After-set_text → Type 0
Same c = table_with c.set_text.new.plan c.self.inside.parts.rows ≡ table_after c.self.inside.parts

set : (c : goal.After-set_text) → Changed c → IsDrafted (after c) × (draft_of (after c) ≡ record c.args.self.now { after = with_content c.args.id (says c) c.args.self.now.after })
set c = drafted-content c.self.inside.parts c.args.self.now c.self.view_is c.self.invariant c.set_text.new.plan c.set_text.ensures.places (says c) (with_text (string_bytes c.args.text)) (same c) (λ e. refl) (λ e d. d) c.args.id c.requires

kept : (c : goal.After-set_text) → Same c → IsDrafted (after c) × (draft_of (after c) ≡ c.args.self.now)
kept c = drafted-same c.self.inside.parts c.args.self.now c.self.view_is c.self.invariant c.set_text.new.plan c.set_text.ensures.places

pub invariant_of-self : goal.invariant_of-self
invariant_of-self c = by-result c.set_text.result (Changed c) (Same c) (IsDrafted (after c)) c.set_text.ensures.changed c.set_text.ensures.refused (λ h. (set c h).0) (λ h. (kept c h).0)

pub returns-clause-set : goal.returns-clause-set
returns-clause-set c = on-ok c.set_text.result (Changed c) _ c.set_text.ensures.changed (λ h. (set c h).1)

pub returns-clause-refused : goal.returns-clause-refused
returns-clause-refused c = on-err c.set_text.result (Same c) _ c.set_text.ensures.refused (λ h. (kept c h).1)
