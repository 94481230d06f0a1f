use Rattle.std.proofs.Common.{rules, ◌≡◌, ◌++◌, ◌∷◌, [], take, string_bytes}
use Rattle.jl_store.specs.Warnings.{warning_text}
use Rattle.jl_cmd.specs.Texts.{warning_lines}
use Rattle.jl_cmd.proofs.CacheLemmas.{lines-take}
use Rattle.jl_cmd.proofs.warn.lines_of.Goals as goal

pub loop-warning-preserved : goal.loop-warning-preserved
loop-warning-preserved c =
    let said : string_bytes c.push_str-in-loop-warning.new.self ≡ (warning_lines c.args.memory.now.module (take c.loop-warning.warning-index c.args.warnings.now) ++ warning_text c.args.memory.now.module c.warning-item.result) ++ (10 ∷ []) = search rules in
    lines-take c.args.memory.now.module c.args.warnings.now c.loop-warning.warning-index c.warning-item.result (string_bytes c.push_str-in-loop-warning.new.self) c.warning-item.is c.loop-warning-test.true said
