-- The output is kept, and then the moments; where the output isn't, nothing more is done.
use Rattle.std.proofs.Common.{◌≡◌, ℕ, List, [], ◌∷◌, refl, sym, ◌∙◌, subst}
use Rattle.jl_folder.specs.declared.moves.Move.TheVariants.{Rename}
use Rattle.jl_folder.specs.Views.{FolderView, state, moved}
use Rattle.jl_entry.specs.declared.names.EntryFile.{EntryFile}
use Rattle.jl_entry.specs.declared.names.EntryFile.TheVariants.{Output, Metadata, Access}
use Rattle.jl_rely.proofs.Since.{goes_then}
use Rattle.jl_rely.proofs.Alone.{lone_parts}
use Rattle.jl_rely.proofs.Moving.{called_moves}
use Rattle.jl_protocol.specs.Whole.{IsWhole}
use Rattle.jl_store.specs.Publishing.{IsPublished}
use Rattle.jl_store.specs.Keeping.{EntryPlace, IsMakingEntry, moments_of, entry_in, file_of}
use Rattle.jl_store.specs.Keeping.{last_of, temp_of, text_in, IsReadyFor, AreReady, IsMoments}
use Rattle.jl_store.specs.Keeping.{IsAnyFile, HasPut, HasPutMoments, HasPutAll, HasFiles}
use Rattle.jl_store.specs.Keeping.{KeepsEntry, KeepsFile}
use Rattle.jl_store.specs.declared.answer.Keep.{Keep}
use Rattle.jl_store.specs.declared.answer.Keep.TheVariants as keep
use Rattle.jl_store.proofs.KeepFacts.{file_part, part_alone, keeps_then, keeps_ends}
use Rattle.jl_store.proofs.KeepFacts.{moments_ready, output_apart, output_split, files_then}
use Rattle.jl_store.proofs.KeepFacts.{includes_left, includes_right}
use Rattle.jl_store.proofs.Orders.{order_then, order_output}
use Rattle.jl_store.proofs.InTurn.{turns_then, turns_more}
use Rattle.jl_store.proofs.keeping.keep_files.Goals as goal

-- ---- what the answers share

-- the bytes of a text that is whole for its file are whole
whole_bytes : (e : EntryPlace) (file : EntryFile) (bytes text : List ℕ) → bytes ≡ text
    → IsWhole (file_of e file) text → IsWhole (file_of e file) bytes
whole_bytes e file bytes text same = subst (IsWhole (file_of e file)) (sym same)

-- what the keeping of the output's bytes tells, it tells of the output's text
kept_output : (e : EntryPlace) (bytes text : List ℕ) (k : Keep) (old new : FolderView)
    → bytes ≡ text
    → (IsWhole (file_of e Output) bytes
    → KeepsFile e Output bytes (IsReadyFor e old.token Output) k old new)
    → IsWhole (file_of e Output) text
    → KeepsFile e Output text (IsReadyFor e old.token Output) k old new
kept_output e bytes text k old new same keeps whole =
    subst (λ (b : List ℕ). KeepsFile e Output b (IsReadyFor e old.token Output) k old new) same
    (keeps (whole_bytes e Output bytes text same whole))

-- where the output wasn't kept, that is all that was done of the entry
ends_there : (e : EntryPlace) (text : EntryFile → List ℕ) (k : Keep) (old new : FolderView)
    → (k ≡ keep.Kept → ⊥)
    → KeepsFile e Output (text Output) (IsReadyFor e old.token Output) k old new
    → KeepsEntry e text (AreReady e old.token IsAnyFile) (HasPutAll e old.token) k old new
ends_there e text k old new unkept first =
    keeps_ends e text (AreReady e old.token IsAnyFile) (IsReadyFor e old.token Output)
    (HasPutAll e old.token) (HasPut e old.token Output) old new k
    (λ s ready. ready Output tt) unkept
    (file_part e Output old new text k first)

-- ---- what the two calls require

-- the output's bytes are whole, as its text is
pub keep_file-requires-clause-whole : goal.keep_file-requires-clause-whole
keep_file-requires-clause-whole g c =
    let e = entry_in c.args.memory.now c.args.name.now c.args.key.now.0 in
    whole_bytes e Output _ _ c.as_slice-output.ensures (c.requires.whole Output)

-- keeping the output leaves the folder its token
pub keep_moments-requires-clause-token : goal.keep_moments-requires-clause-token
keep_moments-requires-clause-token g c = c.keep_file.ensures.frame.token ∙ c.requires.token

-- ---- the output was kept, and then the moments were tried

-- the folder goes on from the one call into the other
pub returns-in-Kept-clause-goes : goal.returns-in-Kept-clause-goes
returns-in-Kept-clause-goes g c t =
    let old = g.F.Folder.view c.args.folder.now in
    let mid = g.F.Folder.view c.keep_file.new.folder in
    let new = g.F.Folder.view c.keep_moments.new.folder in
    goes_then old mid new (c.keep_file.ensures.goes t)
    (c.keep_moments.ensures.goes (c.keep_file.ensures.frame.told t))

-- the output and the moments are two parts of one entry, and they compose
pub returns-in-Kept-clause-called : goal.returns-in-Kept-clause-called
returns-in-Kept-clause-called g c t wholes =
    let e = entry_in c.args.memory.now c.args.name.now c.args.key.now.0 in
    let text = text_in c.args.texts.now in
    let old = g.F.Folder.view c.args.folder.now in
    let mid = g.F.Folder.view c.keep_file.new.folder in
    let new = g.F.Folder.view c.keep_moments.new.folder in
    let token = old.token in
    let r = c.keep_moments.result in
    let frame = c.keep_file.ensures.frame in
    let first = kept_output e _ (text Output) keep.Kept old mid
    c.as_slice-output.ensures (c.in-Kept.ensures.called t) (wholes Output) in
    keeps_then e text (AreReady e token IsAnyFile)
    (IsReadyFor e token Output) (AreReady e token IsMoments)
    (HasPutAll e token) (HasPut e token Output) (HasPutMoments e token) old mid new r
    (λ ready. moments_ready e old mid (called_moves _ _ _ _ _ old mid first.call) ready)
    (λ xs ys a b. (
      includes_left (token, Rename (temp_of e token Output) (last_of e Output)) xs ys a,
      includes_right (token, Rename (temp_of e token Metadata) (last_of e Metadata)) xs ys b.0,
      includes_right (token, Rename (temp_of e token Access) (last_of e Access)) xs ys b.1,
    ))
    (file_part e Output old mid text keep.Kept first)
    (subst (λ k. KeepsEntry e text (AreReady e k IsMoments) (HasPutMoments e k) r mid new) frame.token
    (c.keep_moments.ensures.called (frame.told t) wholes))

-- alone, each of the three files has its text, and all else is as before
pub returns-in-Kept-clause-alone : goal.returns-in-Kept-clause-alone
returns-in-Kept-clause-alone g c t wholes is lone =
    let e = entry_in c.args.memory.now c.args.name.now c.args.key.now.0 in
    let text = text_in c.args.texts.now in
    let old = g.F.Folder.view c.args.folder.now in
    let mid = g.F.Folder.view c.keep_file.new.folder in
    let new = g.F.Folder.view c.keep_moments.new.folder in
    let token = old.token in
    let told = c.keep_file.ensures.frame.told t in
    let parts = lone_parts old mid new (c.keep_file.ensures.goes t)
    (c.keep_moments.ensures.goes told) lone in
    let first = subst
    (λ b. IsPublished (last_of e Output) (temp_of e token Output) b (state old) (state mid))
    c.as_slice-output.ensures (c.in-Kept.ensures.alone t refl parts.0) in
    let second = subst (λ k. HasFiles e k text IsMoments (state mid) (state new))
    c.keep_file.ensures.frame.token (c.keep_moments.ensures.alone told wholes is parts.1) in
    files_then e token text (λ o. o ≡ Output) IsMoments IsAnyFile (state old) (state mid) (state new)
    output_apart output_split (λ file a. tt) (λ file b. tt)
    (part_alone e Output old mid text token first) second

-- the output's moves come before those of the moments
pub returns-in-Kept-clause-order : goal.returns-in-Kept-clause-order
returns-in-Kept-clause-order g c t =
    let e = entry_in c.args.memory.now c.args.name.now c.args.key.now.0 in
    let text = text_in c.args.texts.now in
    let old = g.F.Folder.view c.args.folder.now in
    let mid = g.F.Folder.view c.keep_file.new.folder in
    let new = g.F.Folder.view c.keep_moments.new.folder in
    let told = c.keep_file.ensures.frame.told t in
    order_then (IsMakingEntry e) e (text Output) (IsReadyFor e old.token Output) old mid new
    (kept_output e _ (text Output) keep.Kept old mid
    c.as_slice-output.ensures (c.in-Kept.ensures.called t) (c.requires.whole Output))
    (c.keep_moments.ensures.goes told) (c.keep_moments.ensures.order told)

-- each of the three final names is put in place at most once, one after the other
pub returns-in-Kept-clause-once : goal.returns-in-Kept-clause-once
returns-in-Kept-clause-once g c t =
    let e = entry_in c.args.memory.now c.args.name.now c.args.key.now.0 in
    let text = text_in c.args.texts.now in
    let old = g.F.Folder.view c.args.folder.now in
    let mid = g.F.Folder.view c.keep_file.new.folder in
    let new = g.F.Folder.view c.keep_moments.new.folder in
    let told = c.keep_file.ensures.frame.told t in
    let first = kept_output e _ (text Output) keep.Kept old mid
    c.as_slice-output.ensures (c.in-Kept.ensures.called t) (c.requires.whole Output) in
    turns_then (last_of e Output ∷ []) (moments_of e) old mid new
    (c.keep_file.ensures.goes t) (c.keep_moments.ensures.goes told)
    first.once (c.keep_moments.ensures.once told)

-- ---- the output wasn't kept

-- the output was skipped, which ends the entry
pub returns-in-Skipped-clause-called : goal.returns-in-Skipped-clause-called
returns-in-Skipped-clause-called g c t wholes =
    let e = entry_in c.args.memory.now c.args.name.now c.args.key.now.0 in
    let text = text_in c.args.texts.now in
    let old = g.F.Folder.view c.args.folder.now in
    let new = g.F.Folder.view c.keep_file.new.folder in
    let first = kept_output e _ (text Output) keep.Skipped old new
    c.as_slice-output.ensures (c.in-Skipped.ensures.called t) (wholes Output) in
    ends_there e text keep.Skipped old new (λ (is : keep.Skipped ≡ keep.Kept). cc) first

-- the moves are the output's alone
pub returns-in-Skipped-clause-order : goal.returns-in-Skipped-clause-order
returns-in-Skipped-clause-order g c t =
    let e = entry_in c.args.memory.now c.args.name.now c.args.key.now.0 in
    let text = text_in c.args.texts.now in
    let old = g.F.Folder.view c.args.folder.now in
    let new = g.F.Folder.view c.keep_file.new.folder in
    let first = kept_output e _ (text Output) keep.Skipped old new
    c.as_slice-output.ensures (c.in-Skipped.ensures.called t) (c.requires.whole Output) in
    order_output (IsMakingEntry e) e old.token (moved old new) first.call.own

-- at most its final name was put in place
pub returns-in-Skipped-clause-once : goal.returns-in-Skipped-clause-once
returns-in-Skipped-clause-once g c t =
    let e = entry_in c.args.memory.now c.args.name.now c.args.key.now.0 in
    let text = text_in c.args.texts.now in
    let old = g.F.Folder.view c.args.folder.now in
    let new = g.F.Folder.view c.keep_file.new.folder in
    let first = kept_output e _ (text Output) keep.Skipped old new
    c.as_slice-output.ensures (c.in-Skipped.ensures.called t) (c.requires.whole Output) in
    turns_more (last_of e Output ∷ []) (moments_of e) old new first.once

-- a fault kept the output out, which ends the entry
pub returns-in-Fault-clause-called : goal.returns-in-Fault-clause-called
returns-in-Fault-clause-called g c t wholes =
    let e = entry_in c.args.memory.now c.args.name.now c.args.key.now.0 in
    let text = text_in c.args.texts.now in
    let old = g.F.Folder.view c.args.folder.now in
    let new = g.F.Folder.view c.keep_file.new.folder in
    let first = kept_output e _ (text Output) keep.Fault old new
    c.as_slice-output.ensures (c.in-Fault.ensures.called t) (wholes Output) in
    ends_there e text keep.Fault old new (λ (is : keep.Fault ≡ keep.Kept). cc) first

-- the moves are the output's alone
pub returns-in-Fault-clause-order : goal.returns-in-Fault-clause-order
returns-in-Fault-clause-order g c t =
    let e = entry_in c.args.memory.now c.args.name.now c.args.key.now.0 in
    let text = text_in c.args.texts.now in
    let old = g.F.Folder.view c.args.folder.now in
    let new = g.F.Folder.view c.keep_file.new.folder in
    let first = kept_output e _ (text Output) keep.Fault old new
    c.as_slice-output.ensures (c.in-Fault.ensures.called t) (c.requires.whole Output) in
    order_output (IsMakingEntry e) e old.token (moved old new) first.call.own

-- at most its final name was put in place
pub returns-in-Fault-clause-once : goal.returns-in-Fault-clause-once
returns-in-Fault-clause-once g c t =
    let e = entry_in c.args.memory.now c.args.name.now c.args.key.now.0 in
    let text = text_in c.args.texts.now in
    let old = g.F.Folder.view c.args.folder.now in
    let new = g.F.Folder.view c.keep_file.new.folder in
    let first = kept_output e _ (text Output) keep.Fault old new
    c.as_slice-output.ensures (c.in-Fault.ensures.called t) (c.requires.whole Output) in
    turns_more (last_of e Output ∷ []) (moments_of e) old new first.once

-- there was no memory for the output, which ends the entry
pub returns-in-NoMemory-clause-called : goal.returns-in-NoMemory-clause-called
returns-in-NoMemory-clause-called g c t wholes =
    let e = entry_in c.args.memory.now c.args.name.now c.args.key.now.0 in
    let text = text_in c.args.texts.now in
    let old = g.F.Folder.view c.args.folder.now in
    let new = g.F.Folder.view c.keep_file.new.folder in
    let first = kept_output e _ (text Output) keep.NoMemory old new
    c.as_slice-output.ensures (c.in-NoMemory.ensures.called t) (wholes Output) in
    ends_there e text keep.NoMemory old new (λ (is : keep.NoMemory ≡ keep.Kept). cc) first

-- the moves are the output's alone
pub returns-in-NoMemory-clause-order : goal.returns-in-NoMemory-clause-order
returns-in-NoMemory-clause-order g c t =
    let e = entry_in c.args.memory.now c.args.name.now c.args.key.now.0 in
    let text = text_in c.args.texts.now in
    let old = g.F.Folder.view c.args.folder.now in
    let new = g.F.Folder.view c.keep_file.new.folder in
    let first = kept_output e _ (text Output) keep.NoMemory old new
    c.as_slice-output.ensures (c.in-NoMemory.ensures.called t) (c.requires.whole Output) in
    order_output (IsMakingEntry e) e old.token (moved old new) first.call.own

-- at most its final name was put in place
pub returns-in-NoMemory-clause-once : goal.returns-in-NoMemory-clause-once
returns-in-NoMemory-clause-once g c t =
    let e = entry_in c.args.memory.now c.args.name.now c.args.key.now.0 in
    let text = text_in c.args.texts.now in
    let old = g.F.Folder.view c.args.folder.now in
    let new = g.F.Folder.view c.keep_file.new.folder in
    let first = kept_output e _ (text Output) keep.NoMemory old new
    c.as_slice-output.ensures (c.in-NoMemory.ensures.called t) (c.requires.whole Output) in
    turns_more (last_of e Output ∷ []) (moments_of e) old new first.once
