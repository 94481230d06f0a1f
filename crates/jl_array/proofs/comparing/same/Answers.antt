use Rattle.std.proofs.Common.{inl, subst, arith}
use Rattle.jl_array.specs.Dumps.{dump_text, HasPart}
use Rattle.jl_array.specs.Answers.{ComparesFile, ComparesList}
use Rattle.jl_array.proofs.NodeFacts.{has_later, part_lasting}
use Rattle.jl_array.proofs.CompareLemmas.{compares_list}
use Rattle.jl_array.proofs.comparing.same.Goals as goal

-- the array has as many numbers, and the file was compared
pub returns-clause-file : goal.returns-clause-file
returns-clause-file g c = λ t.
    subst (λ ns. ComparesFile c.args.array.now ns c.compare_numbers.result
    (g.F.Folder.view c.compare_numbers.new.folder)) c.as_slice-numbers.ensures
    (inl (omega (arith, c.if-numbers-array.false), c.compare_numbers.ensures.compares t))

-- so they are those of the list, or others
pub returns-clause-list : goal.returns-clause-list
returns-clause-list g c = λ t list holds.
    let old = g.F.Folder.view c.args.folder.now in
    let new = g.F.Folder.view c.compare_numbers.new.folder in
    let number = c.args.array.now.no.0 in
    subst (λ ns. ComparesList list ns c.compare_numbers.result) c.as_slice-numbers.ensures
    (compares_list number list c.as_slice-numbers.result.now c.compare_numbers.result new
    holds.signed (omega (arith, c.if-numbers-array.false, holds.count))
    c.compare_numbers.ensures.signed
    (has_later old new number (HasPart 0 (dump_text list))
    (part_lasting 0 (dump_text list)) c.compare_numbers.ensures.frame.opens
    (c.compare_numbers.ensures.waits t) holds.text)
    (c.compare_numbers.ensures.compares t))
