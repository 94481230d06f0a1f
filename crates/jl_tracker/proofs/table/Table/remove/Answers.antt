use Rattle.std.proofs.Common.{◌∙◌, ap}
use Rattle.jl_tracker.specs.Entries.{without}
use Rattle.jl_tracker.specs.Views.{view_entries}
use Rattle.jl_tracker.proofs.TableLemmas.{remove-view}
use Rattle.jl_tracker.proofs.table.Table.remove.Goals as goal

pub returns : goal.returns
returns c = ap view_entries c.shift_remove.ensures.entries ∙ remove-view c.args.name.now c.self.inside.entries.entries ∙ ap (without c.args.name.now) c.self.view_is
