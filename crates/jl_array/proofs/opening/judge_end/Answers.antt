use Rattle.std.proofs.Common.{◌+◌, ◌-◌, ◌<◌, ◌++◌, ◌∙◌, ℕ, List, length}
use Rattle.jl_folder.proofs.ReadingLemmas.{waits_trans}
use Rattle.jl_array.specs.Dumps.{HasPart, SaysCount, IsNoDump, IsDump}
use Rattle.jl_array.specs.Answers.{IsShorter}
use Rattle.jl_array.proofs.NodeFacts.{has_as, has_both, has_later, part_lasting}
use Rattle.jl_array.proofs.JudgeLemmas.{says_lasting, short_body, long_body, whole_body, said_later}
use Rattle.jl_array.proofs.opening.judge_end.Goals as goal

-- two readings make no move
pub returns-in-Whole-fill-clause-waits : goal.returns-in-Whole-fill-clause-waits
returns-in-Whole-fill-clause-waits g c =
    λ t. waits_trans _ _ _ c.fill.ensures.frame.token (c.fill.ensures.waits t)
    (c.fill-2.ensures.waits (c.fill.ensures.frame.told t))

-- where the second finds nothing
pub returns-in-Short-fill-clause-waits : goal.returns-in-Short-fill-clause-waits
returns-in-Short-fill-clause-waits g c =
    λ t. waits_trans _ _ _ c.fill.ensures.frame.token (c.fill.ensures.waits t)
    (c.fill-2.ensures.waits (c.fill.ensures.frame.told t))

-- and where it fails
pub returns-in-Fault-fill-clause-waits : goal.returns-in-Fault-fill-clause-waits
returns-in-Fault-fill-clause-waits g c =
    λ t. waits_trans _ _ _ c.fill.ensures.frame.token (c.fill.ensures.waits t)
    (c.fill-2.ensures.waits (c.fill.ensures.frame.told t))

-- the last byte isn't there
pub returns-in-Short-clause-judges : goal.returns-in-Short-clause-judges
returns-in-Short-clause-judges g c = λ t said.
    let old = g.F.Folder.view c.args.folder.now in
    let mid = g.F.Folder.view c.fill.new.folder in
    let number = c.args.number.0 in
    has_as mid number _ IsShorter (λ bytes both. short_body c.args.count c.in-Some.end
    c.fill.new.buf bytes c.in-Some.ensures.some c.fill.auto.buf both)
    (said_later old mid number c.args.count
    (λ bytes. length bytes < c.in-Some.end - 1 + length c.fill.new.buf)
    c.in-Short.ensures.frame.opens (c.in-Short.ensures.waits t) said (c.in-Short.ensures.fills t))

-- the next one is
pub returns-in-Whole-fill-clause-judges : goal.returns-in-Whole-fill-clause-judges
returns-in-Whole-fill-clause-judges g c = λ t said.
    let old = g.F.Folder.view c.args.folder.now in
    let mid = g.F.Folder.view c.fill.new.folder in
    let new = g.F.Folder.view c.fill-2.new.folder in
    let number = c.args.number.0 in
    let told = c.fill.ensures.frame.told t in
    let here =
    has_later old mid number (SaysCount c.args.count)
    (says_lasting c.args.count) c.in-Whole.ensures.frame.opens (c.in-Whole.ensures.waits t) said in
    has_as new number _ IsNoDump (λ bytes both. long_body c.args.count c.in-Some.end
    c.fill-2.new.buf bytes c.in-Some.ensures.some (c.fill-2.auto.buf ∙ c.fill.auto.buf) both)
    (said_later mid new number c.args.count
    (HasPart c.in-Some.end c.fill-2.new.buf) c.in-Whole-fill.ensures.frame.opens
    (c.in-Whole-fill.ensures.waits told) here (c.in-Whole-fill.ensures.fills told))

-- the last byte is there, and no other
pub returns-in-Short-fill-clause-judges : goal.returns-in-Short-fill-clause-judges
returns-in-Short-fill-clause-judges g c = λ t said.
    let old = g.F.Folder.view c.args.folder.now in
    let mid = g.F.Folder.view c.fill.new.folder in
    let new = g.F.Folder.view c.fill-2.new.folder in
    let number = c.args.number.0 in
    let told = c.fill.ensures.frame.told t in
    let last = c.fill.new.buf in
    let here =
    said_later old mid number c.args.count
    (HasPart (c.in-Some.end - 1) last) c.in-Whole.ensures.frame.opens
    (c.in-Whole.ensures.waits t) said (c.in-Whole.ensures.fills t) in
    let Said : List ℕ → Type 0 =
    λ bytes. SaysCount c.args.count bytes × HasPart (c.in-Some.end - 1) last bytes in
    let lasting : (bytes rest : List ℕ) → Said bytes → Said (bytes ++ rest) =
    λ bytes rest both. (
      says_lasting c.args.count bytes rest both.0,
      part_lasting
          (c.in-Some.end - 1) last bytes rest both.1,
    ) in
    has_as new number _ (IsDump c.args.count)
    (λ bytes both. whole_body c.args.count c.in-Some.end last c.fill-2.new.buf bytes
    c.in-Some.ensures.some c.fill.auto.buf (c.fill-2.auto.buf ∙ c.fill.auto.buf) both)
    (has_both new number Said (λ bytes. length bytes < c.in-Some.end + length c.fill-2.new.buf)
    (has_later mid new number Said lasting c.in-Short-fill.ensures.frame.opens
    (c.in-Short-fill.ensures.waits told) here)
    (c.in-Short-fill.ensures.fills told))
