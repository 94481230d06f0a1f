use Rattle.std.proofs.Common.{◌∙◌, true≢false, sym, ap, Err}
use Rattle.jl_text.specs.Paths.{is_bad}
use Rattle.jl_evict.proofs.Naming.{item_path_good}
use Rattle.jl_evict.proofs.reducing.read_path.Goals as goal

pub unreachable-requires : goal.unreachable-requires
unreachable-requires c =
    true≢false (sym (c.in-Err-BadPath.ensures.bad (ap Err c.in-Err-BadPath.field-0-is)) ∙ ap is_bad c.as_str.ensures ∙ item_path_good c.args.item.now.path c.requires)
