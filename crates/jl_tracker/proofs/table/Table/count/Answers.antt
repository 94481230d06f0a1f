use Rattle.std.proofs.Common.{◌∙◌, ap}
use Rattle.jl_tracker.specs.Entries.{count_of}
use Rattle.jl_tracker.proofs.TableLemmas.{lookup-view}
use Rattle.jl_tracker.proofs.table.Table.count.Goals as goal

pub returns : goal.returns
returns c = c.copied.ensures ∙ c.get.ensures.value ∙ lookup-view c.args.name.now c.self.inside.entries.entries ∙ ap (count_of c.args.name.now) c.self.view_is
