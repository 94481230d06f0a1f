use Rattle.std.proofs.Common.{◌∙◌, ap, sym, is_some, true≢false}
use Rattle.jl_tracker.specs.Entries.{put, count_of}
use Rattle.jl_tracker.proofs.TableLemmas.{set_at-view, lookup-view}
use Rattle.jl_tracker.proofs.table.Table.set.Goals as goal

pub returns-in-Some : goal.returns-in-Some
returns-in-Some c = set_at-view c.args.name.now c.args.count c.self.inside.entries.entries c.in-Some.index c.in-Some.ensures.index ∙ ap (put c.args.name.now c.args.count) c.self.view_is

pub returns-in_default : goal.returns-in_default
returns-in_default c = absurd (true≢false (sym c.requires ∙ ap is_some (sym (lookup-view c.args.name.now c.self.inside.entries.entries ∙ ap (count_of c.args.name.now) c.self.view_is)) ∙ sym c.in_default.ensures.found))
