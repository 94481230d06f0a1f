use Rattle.std.proofs.Common.{◌∙◌, ℕ, List, [], ◌∷◌, ap, subst}
use Rattle.jl_entry.specs.Names.{IsFinal, code_of, below, root_of}
use Rattle.jl_store.proofs.checking.code_files.Goals as goal

pub returns : goal.returns
returns c =
    let root = root_of c.args.memory.now.location in
    let final = subst (λ (m : List ℕ). IsFinal root (code_of m c.args.name.now) c.in_ok-last.last) c.as_str-module.ensures c.in_ok-last.ensures in (
      c.in_ok-folder.ensures ∙ ap (λ (m : List ℕ). below root (m ∷ c.args.name.now ∷ [])) c.as_str-module.ensures,
      final,
      c.in_ok-temp.ensures.temporary root (code_of c.args.memory.now.module c.args.name.now) final,
    )
