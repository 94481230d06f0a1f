use Rattle.std.proofs.Common.{◌∙◌, ap}
use Rattle.jl_tracker.specs.Entries.{put}
use Rattle.jl_tracker.specs.Views.{view_entries}
use Rattle.jl_tracker.proofs.TableLemmas.{insert-view}
use Rattle.jl_tracker.proofs.table.Table.add.Goals as goal

pub returns-clause-ok : goal.returns-clause-ok
returns-clause-ok c =
    ap view_entries c.in_ok-insert.ensures.entries ∙ insert-view c.in_ok-from_str.field-0 1 c.self.inside.entries.entries ∙ (λ i. put (c.in_ok-from_str.ensures.ok i) 1 (c.self.view_is i))
