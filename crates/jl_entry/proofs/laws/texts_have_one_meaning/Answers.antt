use Rattle.jl_entry.proofs.Entries.{entry_once}
use Rattle.jl_entry.proofs.MomentFacts.{access_once, metadata_once}
use Rattle.jl_entry.proofs.CodeFacts.{same_code_once}
use Rattle.jl_entry.proofs.laws.texts_have_one_meaning.Goals as goal

pub returns-clause-entry : goal.returns-clause-entry
returns-clause-entry c bytes a b ps qs t u h k = entry_once bytes a b ps qs t u h k

pub returns-clause-access : goal.returns-clause-access
returns-clause-access c = access_once

pub returns-clause-metadata : goal.returns-clause-metadata
returns-clause-metadata c = metadata_once

pub returns-clause-code : goal.returns-clause-code
returns-clause-code c bytes a b h k = same_code_once a b bytes h k
