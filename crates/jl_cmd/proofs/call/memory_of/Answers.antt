use Rattle.std.proofs.Common.{rules, ◌≡◌, Some}
use Rattle.jl_words.specs.ModuleNames.{module_name_of}
use Rattle.jl_cmd.proofs.CacheLemmas.{named_module}
use Rattle.jl_cmd.proofs.call.memory_of.Goals as goal

pub returns-clause-name : goal.returns-clause-name
returns-clause-name c =
    let is : module_name_of c.args.file.now ≡ Some c.new.result = search rules in
    named_module c.args.file.now c.new.result is
