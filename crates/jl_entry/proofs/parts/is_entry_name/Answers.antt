use Rattle.std.proofs.Common.{refl, subst, sym}
use Rattle.jl_entry.specs.declared.names.EntryFile.TheVariants.{Output, Metadata, Access}
use Rattle.jl_entry.specs.Names.{entry_part, IsEntryName}
use Rattle.jl_entry.proofs.PartLemmas.{entry_name_by}
use Rattle.jl_entry.proofs.parts.is_entry_name.Goals as goal

pub returns-then-is_named : goal.returns-then-is_named
unfolding entry_part
returns-then-is_named c = (λ is. subst IsEntryName c.as_bytes-bytes.ensures.value (Output, c.is_named.ensures.0 c.if-is_named.true), λ of. refl)

pub returns-then-is_named-2 : goal.returns-then-is_named-2
unfolding entry_part
returns-then-is_named-2 c = (λ is. subst IsEntryName c.as_bytes-bytes.ensures.value (Metadata, c.is_named-2.ensures.0 c.if-is_named-2.true), λ of. refl)

pub returns : goal.returns
unfolding entry_part
returns c = (
  λ is. subst IsEntryName c.as_bytes-bytes.ensures.value (Access, c.is_named-3.ensures.0 is),
  λ of. entry_name_by c.is_named.result c.is_named-2.result c.is_named-3.result c.as_bytes-bytes.result.now c.is_named.ensures.1 c.is_named-2.ensures.1 c.is_named-3.ensures.1 c.if-is_named.false c.if-is_named-2.false
      (subst IsEntryName (sym c.as_bytes-bytes.ensures.value) of),
)
