use Rattle.std.proofs.Common.{sym}
use Rattle.jl_value.specs.Form.{tree_of}
use Rattle.jl_entry.specs.declared.names.EntryFile.TheVariants.{Output, Metadata, Access}
use Rattle.jl_store.proofs.Wholes.{output_whole, metadata_whole, access_whole}
use Rattle.jl_store.proofs.keeping.entry_texts.Goals as goal

pub returns-clause-whole : goal.returns-clause-whole
returns-clause-whole c e key Output =
    output_whole e.module_name e.function_name e.key c.in_ok-output.output c.args.code.now c.args.args.now (tree_of c.args.value.now) c.requires.keepable (sym key) c.in_ok-output.ensures.entry
returns-clause-whole c e key Metadata = metadata_whole e.module_name e.function_name e.key c.in_ok-metadata.metadata c.args.duration c.args.moment c.in_ok-metadata.ensures
returns-clause-whole c e key Access = access_whole e.module_name e.function_name e.key c.in_ok-access.access c.args.moment c.in_ok-access.ensures
