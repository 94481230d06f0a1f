use Rattle.std.proofs.Common.{◌≡◌, ◌++◌, ap, ◌∙◌}
use Rattle.jl_text.specs.Paths.{is_part}
use Rattle.jl_entry.specs.Names.{suffix}
use Rattle.jl_entry.proofs.TempFacts.{temp_is_part}
use Rattle.jl_entry.proofs.temp.join_temp.Goals as goal

pub join-requires : goal.join-requires
join-requires c =
    let text : c.as_str.result.now ≡ c.args.part.now ++ suffix c.args.token.now = c.as_str.ensures.value ∙ c.in_ok-text.ensures ∙ ap (λ t. c.args.part.now ++ suffix t) c.as_str-token.ensures.same in
    ap is_part text ∙ temp_is_part c.args.part.now c.args.token.now c.requires c.as_str-token.ensures.form
