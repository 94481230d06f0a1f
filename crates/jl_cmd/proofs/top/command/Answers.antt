-- A run by its words: they give settings or not.
use Rattle.std.proofs.Common.{rules, ◌≡◌, ◌∙◌, ap, sym, refl, map, string_bytes, ℕ, None}
use Rattle.std.specs.Option.{option_and_then}
use Rattle.jl_words.specs.Settings.{settings_of}
use Rattle.jl_cmd.specs.Commands.{command_of, given_of}
use Rattle.jl_cmd.proofs.CacheLemmas.{has_module}
use Rattle.jl_cmd.proofs.RanLemmas.{ran_usage, ran_memory, ran_as, none_alone, alone_as}
use Rattle.jl_cmd.proofs.top.command.Goals as goal

-- settings that were read name a module's file
pub given-requires-clause-file : goal.given-requires-clause-file
given-requires-clause-file g c =
    has_module (map string_bytes c.args.words.now) c.processors.result c.in-Ok.settings
    c.in-Ok.ensures.given

-- the run is that of the settings that the words give
pub returns-in-Ok-clause-ran : goal.returns-in-Ok-clause-ran
returns-in-Ok-clause-ran g c =
    ran_as _ _ _ _ _ _ _ _ _
    (sym (ap (option_and_then command_of) c.in-Ok.ensures.given)
    ∙ ap (λ (n : ℕ). given_of (map string_bytes c.args.words.now) n) c.processors.ensures.count)
    refl refl c.given.ensures.ran

-- words that give none are usage, and nothing was done
pub returns-in-Err-Usage-clause-ran : goal.returns-in-Err-Usage-clause-ran
returns-in-Err-Usage-clause-ran g c =
    let none : settings_of (map string_bytes c.args.words.now) c.processors.result ≡ None =
    search rules in
    ran_as _ _ _ _ _ _ _ _ _
    (sym (ap (option_and_then command_of) none)
    ∙ ap (λ (n : ℕ). given_of (map string_bytes c.args.words.now) n) c.processors.ensures.count)
    (sym c.ended.ensures.ended) (sym c.ended.ensures.lines) (ran_usage _ _ _ _ _ _ _)

-- no memory for the words: nothing was done
pub returns-in-Err-Memory-clause-ran : goal.returns-in-Err-Memory-clause-ran
returns-in-Err-Memory-clause-ran g c =
    ran_as _ _ _ _ _ _ _ _ _ refl (sym c.ended-in-Err-Memory.ensures.ended)
    (sym c.ended-in-Err-Memory.ensures.lines) (ran_memory _ _ _ _ _ _ _ _)

-- what the settings don't use was left alone
pub returns-in-Ok-clause-unused : goal.returns-in-Ok-clause-unused
returns-in-Ok-clause-unused g c =
    alone_as _ _ _ _ _ _ _ _ _ _ _ _
    (sym (ap (option_and_then command_of) c.in-Ok.ensures.given)
    ∙ ap (λ (n : ℕ). given_of (map string_bytes c.args.words.now) n) c.processors.ensures.count)
    (λ u. u) c.given.ensures.unused

-- usage uses nothing
pub returns-in-Err-Usage-clause-unused : goal.returns-in-Err-Usage-clause-unused
returns-in-Err-Usage-clause-unused g c = none_alone _ _ _ _ _ _ _ _ _ _ refl refl refl refl

-- nor does want of memory
pub returns-in-Err-Memory-clause-unused : goal.returns-in-Err-Memory-clause-unused
returns-in-Err-Memory-clause-unused g c = none_alone _ _ _ _ _ _ _ _ _ _ refl refl refl refl
