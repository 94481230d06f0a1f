-- The metadata is kept, and then the last access; where the metadata isn't, nothing more is done.
use Rattle.std.proofs.Common.{◌≡◌, inl, inr, ℕ, List, [], ◌∷◌, refl, sym, ◌∙◌, subst}
use Rattle.jl_folder.specs.declared.moves.Move.TheVariants.{Rename}
use Rattle.jl_folder.specs.Views.{FolderView, state, moved}
use Rattle.jl_entry.specs.declared.names.EntryFile.{EntryFile}
use Rattle.jl_entry.specs.declared.names.EntryFile.TheVariants.{Metadata, Access}
use Rattle.jl_rely.proofs.Since.{goes_then}
use Rattle.jl_rely.proofs.Alone.{lone_parts}
use Rattle.jl_rely.proofs.Moving.{called_moves}
use Rattle.jl_protocol.specs.Whole.{IsWhole}
use Rattle.jl_store.specs.Publishing.{IsPublished}
use Rattle.jl_store.specs.Keeping.{EntryPlace, entry_in, file_of, last_of, temp_of, text_in}
use Rattle.jl_store.specs.Keeping.{IsReadyFor, AreReady, IsMoments, HasPut, HasPutMoments}
use Rattle.jl_store.specs.Keeping.{KeepsFile, KeepsEntry}
use Rattle.jl_store.specs.declared.answer.Keep.{Keep}
use Rattle.jl_store.specs.declared.answer.Keep.TheVariants as keep
use Rattle.jl_store.proofs.KeepFacts.{file_part, part_alone, keeps_then, keeps_ends, ready_on}
use Rattle.jl_store.proofs.KeepFacts.{files_then, includes_left, includes_right}
use Rattle.jl_store.proofs.Orders.{moments_front, moments_then}
use Rattle.jl_store.proofs.InTurn.{turns_then, turns_more}
use Rattle.jl_store.proofs.keeping.keep_moments.Goals as goal

-- ---- what the answers share

-- the bytes of a text that is whole for its file are whole
whole_bytes : (e : EntryPlace) (file : EntryFile) (bytes text : List ℕ) → bytes ≡ text
    → IsWhole (file_of e file) text → IsWhole (file_of e file) bytes
whole_bytes e file bytes text same = subst (IsWhole (file_of e file)) (sym same)

-- what the keeping of the bytes tells, it tells of their text
kept_text : (e : EntryPlace) (file : EntryFile) (bytes text : List ℕ) (k : Keep)
    (old new : FolderView)
    → bytes ≡ text
    → (IsWhole (file_of e file) bytes
    → KeepsFile e file bytes (IsReadyFor e old.token file) k old new)
    → IsWhole (file_of e file) text
    → KeepsFile e file text (IsReadyFor e old.token file) k old new
kept_text e file bytes text k old new same keeps whole =
    subst (λ (b : List ℕ). KeepsFile e file b (IsReadyFor e old.token file) k old new) same
    (keeps (whole_bytes e file bytes text same whole))

-- where the metadata weren't kept, that is all that was done of the moments
ends_there : (e : EntryPlace) (text : EntryFile → List ℕ) (k : Keep) (old new : FolderView)
    → (k ≡ keep.Kept → ⊥)
    → KeepsFile e Metadata (text Metadata) (IsReadyFor e old.token Metadata) k old new
    → KeepsEntry e text (AreReady e old.token IsMoments) (HasPutMoments e old.token) k old new
ends_there e text k old new unkept first =
    keeps_ends e text (AreReady e old.token IsMoments) (IsReadyFor e old.token Metadata)
    (HasPutMoments e old.token) (HasPut e old.token Metadata) old new k
    (λ s ready. ready Metadata (inl refl)) unkept
    (file_part e Metadata old new text k first)

-- ---- what the two calls require

-- the metadata's bytes are whole, as its text is
pub keep_file-requires-clause-whole : goal.keep_file-requires-clause-whole
keep_file-requires-clause-whole g c =
    let e = entry_in c.args.memory.now c.args.name.now c.args.key.now.0 in
    whole_bytes e Metadata _ _ c.as_slice-metadata.ensures (c.requires.whole Metadata)

-- and so are the last access's
pub keep_file-requires-in-Kept-clause-whole : goal.keep_file-requires-in-Kept-clause-whole
keep_file-requires-in-Kept-clause-whole g c =
    let e = entry_in c.args.memory.now c.args.name.now c.args.key.now.0 in
    whole_bytes e Access _ _ c.as_slice-access.ensures (c.requires.whole Access)

-- keeping the metadata leaves the folder its token
pub keep_file-requires-in-Kept-clause-token : goal.keep_file-requires-in-Kept-clause-token
keep_file-requires-in-Kept-clause-token g c = c.keep_file.ensures.frame.token ∙ c.requires.token

-- ---- both were kept, or the metadata alone

-- the folder goes on from the one call into the other
pub returns-in-Kept-clause-goes : goal.returns-in-Kept-clause-goes
returns-in-Kept-clause-goes g c t =
    let old = g.F.Folder.view c.args.folder.now in
    let mid = g.F.Folder.view c.keep_file.new.folder in
    let new = g.F.Folder.view c.keep_file-in-Kept.new.folder in
    goes_then old mid new (c.keep_file.ensures.goes t)
    (c.keep_file-in-Kept.ensures.goes (c.keep_file.ensures.frame.told t))

-- the metadata was kept, then the last access tried: as two parts of one entry they compose
pub returns-in-Kept-clause-called : goal.returns-in-Kept-clause-called
returns-in-Kept-clause-called g c t wholes =
    let e = entry_in c.args.memory.now c.args.name.now c.args.key.now.0 in
    let text = text_in c.args.texts.now in
    let old = g.F.Folder.view c.args.folder.now in
    let mid = g.F.Folder.view c.keep_file.new.folder in
    let new = g.F.Folder.view c.keep_file-in-Kept.new.folder in
    let token = old.token in
    let r = c.keep_file-in-Kept.result in
    let frame = c.keep_file.ensures.frame in
    let first = kept_text e Metadata _ (text Metadata) keep.Kept old mid
    c.as_slice-metadata.ensures (c.in-Kept.ensures.called t) (wholes Metadata) in
    let second = kept_text e Access _ (text Access) r mid new
    c.as_slice-access.ensures (c.keep_file-in-Kept.ensures.called (frame.told t)) (wholes Access) in
    keeps_then e text (AreReady e token IsMoments)
    (IsReadyFor e token Metadata) (IsReadyFor e token Access)
    (HasPutMoments e token) (HasPut e token Metadata) (HasPut e token Access) old mid new r
    (λ ready.
    ready_on e Metadata Access (λ (is : Access ≡ Metadata). cc) old mid
    (called_moves _ _ _ _ _ old mid first.call) (ready Access (inr refl)))
    (λ xs ys a b. (
      includes_left (token, Rename (temp_of e token Metadata) (last_of e Metadata)) xs ys a,
      includes_right (token, Rename (temp_of e token Access) (last_of e Access)) xs ys b,
    ))
    (file_part e Metadata old mid text keep.Kept first)
    (subst (λ k. KeepsEntry e text (IsReadyFor e k Access) (HasPut e k Access) r mid new) frame.token
    (file_part e Access mid new text r second))

-- alone, each of the two files has its text, and all else is as before
pub returns-in-Kept-clause-alone : goal.returns-in-Kept-clause-alone
returns-in-Kept-clause-alone g c t wholes is lone =
    let e = entry_in c.args.memory.now c.args.name.now c.args.key.now.0 in
    let text = text_in c.args.texts.now in
    let old = g.F.Folder.view c.args.folder.now in
    let mid = g.F.Folder.view c.keep_file.new.folder in
    let new = g.F.Folder.view c.keep_file-in-Kept.new.folder in
    let token = old.token in
    let told = c.keep_file.ensures.frame.told t in
    let parts = lone_parts old mid new (c.keep_file.ensures.goes t)
    (c.keep_file-in-Kept.ensures.goes told) lone in
    let Published = λ (file : EntryFile) (k b : List ℕ) (a z : FolderView).
    IsPublished (last_of e file) (temp_of e k file) b (state a) (state z) in
    let first = subst (λ b. Published Metadata token b old mid) c.as_slice-metadata.ensures
    (c.in-Kept.ensures.alone t refl parts.0) in
    let second = subst (λ k. Published Access k (text Access) mid new) c.keep_file.ensures.frame.token
    (subst (λ b. Published Access mid.token b mid new) c.as_slice-access.ensures
    (c.keep_file-in-Kept.ensures.alone told is parts.1)) in
    files_then e token text (λ o. o ≡ Metadata) (λ o. o ≡ Access) IsMoments
    (state old) (state mid) (state new)
    (λ j k a b s. let apart : Metadata ≡ Access = sym a ∙ s ∙ b in cc)
    (λ file all. all) (λ file a. inl a) (λ file b. inr b)
    (part_alone e Metadata old mid text token first)
    (part_alone e Access mid new text token second)

-- the metadata's moves come before those of the last access
pub returns-in-Kept-clause-order : goal.returns-in-Kept-clause-order
returns-in-Kept-clause-order g c t =
    let e = entry_in c.args.memory.now c.args.name.now c.args.key.now.0 in
    let text = text_in c.args.texts.now in
    let old = g.F.Folder.view c.args.folder.now in
    let mid = g.F.Folder.view c.keep_file.new.folder in
    let new = g.F.Folder.view c.keep_file-in-Kept.new.folder in
    let r = c.keep_file-in-Kept.result in
    let told = c.keep_file.ensures.frame.told t in
    moments_then e (text Metadata) (text Access)
    (IsReadyFor e old.token Metadata) (IsReadyFor e mid.token Access) r old mid new
    (kept_text e Metadata _ (text Metadata) keep.Kept old mid
    c.as_slice-metadata.ensures (c.in-Kept.ensures.called t) (c.requires.whole Metadata))
    (kept_text e Access _ (text Access) r mid new
    c.as_slice-access.ensures (c.keep_file-in-Kept.ensures.called told) (c.requires.whole Access))

-- each of the two final names is put in place at most once, one after the other
pub returns-in-Kept-clause-once : goal.returns-in-Kept-clause-once
returns-in-Kept-clause-once g c t =
    let e = entry_in c.args.memory.now c.args.name.now c.args.key.now.0 in
    let text = text_in c.args.texts.now in
    let old = g.F.Folder.view c.args.folder.now in
    let mid = g.F.Folder.view c.keep_file.new.folder in
    let new = g.F.Folder.view c.keep_file-in-Kept.new.folder in
    let r = c.keep_file-in-Kept.result in
    let told = c.keep_file.ensures.frame.told t in
    let first = kept_text e Metadata _ (text Metadata) keep.Kept old mid
    c.as_slice-metadata.ensures (c.in-Kept.ensures.called t) (c.requires.whole Metadata) in
    let second = kept_text e Access _ (text Access) r mid new
    c.as_slice-access.ensures (c.keep_file-in-Kept.ensures.called told) (c.requires.whole Access) in
    turns_then (last_of e Metadata ∷ []) (last_of e Access ∷ []) old mid new
    (c.keep_file.ensures.goes t) (c.keep_file-in-Kept.ensures.goes told) first.once second.once

-- ---- the metadata wasn't kept

-- the metadata was skipped, which ends the moments
pub returns-in-Skipped-clause-called : goal.returns-in-Skipped-clause-called
returns-in-Skipped-clause-called g c t wholes =
    let e = entry_in c.args.memory.now c.args.name.now c.args.key.now.0 in
    let text = text_in c.args.texts.now in
    let old = g.F.Folder.view c.args.folder.now in
    let new = g.F.Folder.view c.keep_file.new.folder in
    let first = kept_text e Metadata _ (text Metadata) keep.Skipped old new
    c.as_slice-metadata.ensures (c.in-Skipped.ensures.called t) (wholes Metadata) in
    ends_there e text keep.Skipped old new (λ (is : keep.Skipped ≡ keep.Kept). cc) first

-- the moves are the metadata's alone
pub returns-in-Skipped-clause-order : goal.returns-in-Skipped-clause-order
returns-in-Skipped-clause-order g c t =
    let e = entry_in c.args.memory.now c.args.name.now c.args.key.now.0 in
    let text = text_in c.args.texts.now in
    let old = g.F.Folder.view c.args.folder.now in
    let new = g.F.Folder.view c.keep_file.new.folder in
    let first = kept_text e Metadata _ (text Metadata) keep.Skipped old new
    c.as_slice-metadata.ensures (c.in-Skipped.ensures.called t) (c.requires.whole Metadata) in
    moments_front e old.token (moved old new) first.call.own

-- at most its final name was put in place
pub returns-in-Skipped-clause-once : goal.returns-in-Skipped-clause-once
returns-in-Skipped-clause-once g c t =
    let e = entry_in c.args.memory.now c.args.name.now c.args.key.now.0 in
    let text = text_in c.args.texts.now in
    let old = g.F.Folder.view c.args.folder.now in
    let new = g.F.Folder.view c.keep_file.new.folder in
    let first = kept_text e Metadata _ (text Metadata) keep.Skipped old new
    c.as_slice-metadata.ensures (c.in-Skipped.ensures.called t) (c.requires.whole Metadata) in
    turns_more (last_of e Metadata ∷ []) (last_of e Access ∷ []) old new first.once

-- a fault kept the metadata out, which ends the moments
pub returns-in-Fault-clause-called : goal.returns-in-Fault-clause-called
returns-in-Fault-clause-called g c t wholes =
    let e = entry_in c.args.memory.now c.args.name.now c.args.key.now.0 in
    let text = text_in c.args.texts.now in
    let old = g.F.Folder.view c.args.folder.now in
    let new = g.F.Folder.view c.keep_file.new.folder in
    let first = kept_text e Metadata _ (text Metadata) keep.Fault old new
    c.as_slice-metadata.ensures (c.in-Fault.ensures.called t) (wholes Metadata) in
    ends_there e text keep.Fault old new (λ (is : keep.Fault ≡ keep.Kept). cc) first

-- the moves are the metadata's alone
pub returns-in-Fault-clause-order : goal.returns-in-Fault-clause-order
returns-in-Fault-clause-order g c t =
    let e = entry_in c.args.memory.now c.args.name.now c.args.key.now.0 in
    let text = text_in c.args.texts.now in
    let old = g.F.Folder.view c.args.folder.now in
    let new = g.F.Folder.view c.keep_file.new.folder in
    let first = kept_text e Metadata _ (text Metadata) keep.Fault old new
    c.as_slice-metadata.ensures (c.in-Fault.ensures.called t) (c.requires.whole Metadata) in
    moments_front e old.token (moved old new) first.call.own

-- at most its final name was put in place
pub returns-in-Fault-clause-once : goal.returns-in-Fault-clause-once
returns-in-Fault-clause-once g c t =
    let e = entry_in c.args.memory.now c.args.name.now c.args.key.now.0 in
    let text = text_in c.args.texts.now in
    let old = g.F.Folder.view c.args.folder.now in
    let new = g.F.Folder.view c.keep_file.new.folder in
    let first = kept_text e Metadata _ (text Metadata) keep.Fault old new
    c.as_slice-metadata.ensures (c.in-Fault.ensures.called t) (c.requires.whole Metadata) in
    turns_more (last_of e Metadata ∷ []) (last_of e Access ∷ []) old new first.once

-- there was no memory for the metadata, which ends the moments
pub returns-in-NoMemory-clause-called : goal.returns-in-NoMemory-clause-called
returns-in-NoMemory-clause-called g c t wholes =
    let e = entry_in c.args.memory.now c.args.name.now c.args.key.now.0 in
    let text = text_in c.args.texts.now in
    let old = g.F.Folder.view c.args.folder.now in
    let new = g.F.Folder.view c.keep_file.new.folder in
    let first = kept_text e Metadata _ (text Metadata) keep.NoMemory old new
    c.as_slice-metadata.ensures (c.in-NoMemory.ensures.called t) (wholes Metadata) in
    ends_there e text keep.NoMemory old new (λ (is : keep.NoMemory ≡ keep.Kept). cc) first

-- the moves are the metadata's alone
pub returns-in-NoMemory-clause-order : goal.returns-in-NoMemory-clause-order
returns-in-NoMemory-clause-order g c t =
    let e = entry_in c.args.memory.now c.args.name.now c.args.key.now.0 in
    let text = text_in c.args.texts.now in
    let old = g.F.Folder.view c.args.folder.now in
    let new = g.F.Folder.view c.keep_file.new.folder in
    let first = kept_text e Metadata _ (text Metadata) keep.NoMemory old new
    c.as_slice-metadata.ensures (c.in-NoMemory.ensures.called t) (c.requires.whole Metadata) in
    moments_front e old.token (moved old new) first.call.own

-- at most its final name was put in place
pub returns-in-NoMemory-clause-once : goal.returns-in-NoMemory-clause-once
returns-in-NoMemory-clause-once g c t =
    let e = entry_in c.args.memory.now c.args.name.now c.args.key.now.0 in
    let text = text_in c.args.texts.now in
    let old = g.F.Folder.view c.args.folder.now in
    let new = g.F.Folder.view c.keep_file.new.folder in
    let first = kept_text e Metadata _ (text Metadata) keep.NoMemory old new
    c.as_slice-metadata.ensures (c.in-NoMemory.ensures.called t) (c.requires.whole Metadata) in
    turns_more (last_of e Metadata ∷ []) (last_of e Access ∷ []) old new first.once
