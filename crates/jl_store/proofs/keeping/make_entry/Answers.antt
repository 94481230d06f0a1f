use Rattle.std.proofs.Common.{◌≡◌, ◌∷◌, [], true, sym, ap, subst, ◌∙◌}
use Rattle.hex.specs.Hex.{encode_lower}
use Rattle.jl_text.specs.Texts.{is_token}
use Rattle.jl_folder.specs.State.{is_folder}
use Rattle.jl_folder.specs.Calls.{Call, MakesDir}
use Rattle.jl_folder.proofs.Frames.{answers_as}
use Rattle.jl_entry.specs.Names.{root_of, below}
use Rattle.jl_rely.proofs.Since.{goes_none}
use Rattle.jl_rely.proofs.Composed.{goes_call}
use Rattle.jl_rely.proofs.Moving.{moves_none}
use Rattle.jl_store.specs.Keeping.{IsMakingEntry, entry_in, entry_path, function_path, KeepsEntry, made_of}
use Rattle.jl_store.specs.declared.answer.Keep.{Keep}
use Rattle.jl_store.proofs.EntryMade.{made_only, made_keeps, made_ready, made_alone, made_fault}
use Rattle.jl_store.proofs.KeepFacts.{nothing_keeps}
use Rattle.jl_store.proofs.keeping.make_entry.Goals as goal

pub returns-in-Ok-clause-frame : goal.returns-in-Ok-clause-frame
returns-in-Ok-clause-frame g c =
    answers_as (g.F.Folder.view c.args.folder.now) (g.F.Folder.view c.make_dir.new.self) c.make_dir.ensures.frame
    (λ is. made_fault c.make_dir.result (sym c.made.ensures ∙ is)) (λ is. c.made.ensures ∙ ap made_of is)

pub returns-in-Ok-clause-called : goal.returns-in-Ok-clause-called
returns-in-Ok-clause-called g c t text =
    let e = entry_in c.args.memory.now c.args.name.now c.args.key.now.0 in
    let old = g.F.Folder.view c.args.folder.now in
    let new = g.F.Folder.view c.make_dir.new.self in
    let path : c.in-Ok.path ≡ entry_path e = c.in-Ok.ensures.path ∙ ap (λ m. below (root_of c.args.memory.now.location) (m ∷ c.args.name.now ∷ encode_lower c.args.key.now.0 ∷ [])) c.as_str.ensures in
    let call = subst (λ p. Call old new (MakesDir p c.make_dir.result)) path (c.make_dir.ensures.call t) in
    subst (λ (r : Keep). KeepsEntry e text (λ s. is_folder s (function_path e) ≡ true) (λ steps. Unit {0}) r old new) (sym c.made.ensures)
    (made_keeps e (c.requires.module_name, c.requires.function_name, c.in-Ok.ensures.key) old new c.make_dir.ensures.frame.token (ap is_token c.requires.token ∙ c.as_str-token.ensures.form) text c.make_dir.result call)

pub returns-in-Ok-clause-ready : goal.returns-in-Ok-clause-ready
returns-in-Ok-clause-ready g c t is tidy =
    let e = entry_in c.args.memory.now c.args.name.now c.args.key.now.0 in
    let old = g.F.Folder.view c.args.folder.now in
    let new = g.F.Folder.view c.make_dir.new.self in
    let path : c.in-Ok.path ≡ entry_path e = c.in-Ok.ensures.path ∙ ap (λ m. below (root_of c.args.memory.now.location) (m ∷ c.args.name.now ∷ encode_lower c.args.key.now.0 ∷ [])) c.as_str.ensures in
    let call = subst (λ p. Call old new (MakesDir p c.make_dir.result)) path (c.make_dir.ensures.call t) in
    made_ready e (c.requires.module_name, c.requires.function_name, c.in-Ok.ensures.key) old new c.make_dir.ensures.frame.token (ap is_token c.requires.token ∙ c.as_str-token.ensures.form) c.make_dir.result call (sym c.made.ensures ∙ is) tidy

pub returns-in-Ok-clause-alone : goal.returns-in-Ok-clause-alone
returns-in-Ok-clause-alone g c t is lone =
    let e = entry_in c.args.memory.now c.args.name.now c.args.key.now.0 in
    let old = g.F.Folder.view c.args.folder.now in
    let new = g.F.Folder.view c.make_dir.new.self in
    let path : c.in-Ok.path ≡ entry_path e = c.in-Ok.ensures.path ∙ ap (λ m. below (root_of c.args.memory.now.location) (m ∷ c.args.name.now ∷ encode_lower c.args.key.now.0 ∷ [])) c.as_str.ensures in
    let call = subst (λ p. Call old new (MakesDir p c.make_dir.result)) path (c.make_dir.ensures.call t) in
    made_alone e (c.requires.module_name, c.requires.function_name, c.in-Ok.ensures.key) old new c.make_dir.ensures.frame.token (ap is_token c.requires.token ∙ c.as_str-token.ensures.form) c.make_dir.result call (sym c.made.ensures ∙ is) lone

pub returns-in-Err-clause-called : goal.returns-in-Err-clause-called
returns-in-Err-clause-called g c t text =
    let e = entry_in c.args.memory.now c.args.name.now c.args.key.now.0 in
    nothing_keeps e text (λ s. is_folder s (function_path e) ≡ true) (λ steps. Unit {0}) (g.F.Folder.view c.args.folder.now)

pub returns-in-Err-clause-goes : goal.returns-in-Err-clause-goes
returns-in-Err-clause-goes g c t = goes_none (g.F.Folder.view c.args.folder.now)

pub returns-in-Ok-clause-goes : goal.returns-in-Ok-clause-goes
returns-in-Ok-clause-goes g c t = goes_call _ _ _ c.make_dir.ensures.frame.token (c.make_dir.ensures.call t)

pub returns-in-Ok-clause-makes : goal.returns-in-Ok-clause-makes
returns-in-Ok-clause-makes g c t =
    let e = entry_in c.args.memory.now c.args.name.now c.args.key.now.0 in
    let old = g.F.Folder.view c.args.folder.now in
    let new = g.F.Folder.view c.make_dir.new.self in
    let path : c.in-Ok.path ≡ entry_path e = c.in-Ok.ensures.path ∙ ap (λ m. below (root_of c.args.memory.now.location) (m ∷ c.args.name.now ∷ encode_lower c.args.key.now.0 ∷ [])) c.as_str.ensures in
    made_only e (c.requires.module_name, c.requires.function_name, c.in-Ok.ensures.key) old new c.make_dir.ensures.frame.token (ap is_token c.requires.token ∙ c.as_str-token.ensures.form) c.make_dir.result
    (subst (λ p. Call old new (MakesDir p c.make_dir.result)) path (c.make_dir.ensures.call t))

pub returns-in-Err-clause-makes : goal.returns-in-Err-clause-makes
returns-in-Err-clause-makes g c t = (moves_none (IsMakingEntry (entry_in c.args.memory.now c.args.name.now c.args.key.now.0)) (g.F.Folder.view c.args.folder.now)).own
