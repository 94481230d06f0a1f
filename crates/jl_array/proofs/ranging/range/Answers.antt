use Rattle.std.proofs.Common.{◌≡◌, ◌+◌, ◌<◌, ◌∙◌, ℕ, length, take, drop, arith, refl, ap, take_at}
use Rattle.std.proofs.Common.{length-append, length-take, length-drop}
use Rattle.jl_array.specs.Dumps.{dump_text, dump_length, HasPart}
use Rattle.jl_array.proofs.Numerals.{numbers_size}
use Rattle.jl_array.proofs.NodeFacts.{has_as, has_later, part_lasting}
use Rattle.jl_array.proofs.RangeLemmas.{range_list, list_whole}
use Rattle.jl_array.proofs.ranging.range.Goals as goal

-- those that were read are those of the list
pub returns-in-Whole-clause-list : goal.returns-in-Whole-clause-list
returns-in-Whole-clause-list g c = λ t list holds.
    let old = g.F.Folder.view c.args.folder.now in
    let new = g.F.Folder.view c.fill_numbers.new.folder in
    let part = c.fill_numbers.new.out in
    let number = c.args.array.now.no.0 in
    let text =
    has_later old new number (HasPart 0 (dump_text list))
    (part_lasting 0 (dump_text list)) c.in-Whole.ensures.frame.opens
    (c.in-Whole.ensures.waits t) holds.text in
    let size : length part ≡ c.min-count.result =
    omega (
      arith,
      c.fill_numbers.auto.out,
      c.min-count.ensures,
      length-take c.min-count.result
          c.args.out.now,
    ) in
    let read =
    range_list new number c.args.from list part
    (omega (arith, size, c.min-count.ensures, c.requires.within, holds.count)) holds.signed
    (c.in-Whole.ensures.signed refl) text (c.in-Whole.ensures.fills t) in
    take_at part (drop c.min-count.result c.args.out.now) c.min-count.result size ∙ read
    ∙ ap (λ (n : ℕ). take n (drop c.args.from list)) size

-- the file ends before those that are wanted
pub returns-in-Short-clause-file : goal.returns-in-Short-clause-file
returns-in-Short-clause-file g c = λ t.
    let new = g.F.Folder.view c.fill_numbers.new.folder in
    has_as new c.args.array.now.no.0 _ _
    (λ bytes short. omega (
      arith,
      short,
      numbers_size c.fill_numbers.new.out,
      c.fill_numbers.auto.out,
      c.min-count.ensures,
      length-take c.min-count.result c.args.out.now,
      length-append c.fill_numbers.new.out
          (drop c.min-count.result c.args.out.now),
      length-drop c.min-count.result c.args.out.now,
    ))
    (c.in-Short.ensures.fills t)

-- so it holds no list of so many
pub returns-in-Short-clause-list : goal.returns-in-Short-clause-list
returns-in-Short-clause-list g c = λ t list holds.
    let old = g.F.Folder.view c.args.folder.now in
    let new = g.F.Folder.view c.fill_numbers.new.folder in
    let part = c.fill_numbers.new.out in
    let number = c.args.array.now.no.0 in
    let text =
    has_later old new number (HasPart 0 (dump_text list))
    (part_lasting 0 (dump_text list)) c.in-Short.ensures.frame.opens
    (c.in-Short.ensures.waits t) holds.text in
    let size : length part ≡ c.min-count.result =
    omega (
      arith,
      c.fill_numbers.auto.out,
      c.min-count.ensures,
      length-take c.min-count.result
          c.args.out.now,
    ) in
    let n = c.args.from + length part in
    list_whole new number n list (omega (
      arith,
      size,
      c.min-count.ensures,
      c.requires.within,
      holds.count,
    )) text
    (has_as new number _ (λ bytes. length bytes < dump_length n)
    (λ bytes short. omega (arith, short, numbers_size part)) (c.in-Short.ensures.fills t))
