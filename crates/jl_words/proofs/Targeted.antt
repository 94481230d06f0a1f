-- What words clear is named by names.
use Rattle.std.proofs.Common.{◌≡◌, ℕ, List, [], ◌∷◌, Bool, true, false, Option, Some, None, option_map, cond, IsTrue, codes, refl, sym, ap, ◌∙◌, subst}
use Rattle.std.specs.Option.{option_and_then}
use Rattle.std.proofs.lemmas.Option.{none-some, same_Some}
use Rattle.jl_text.specs.Paths.{PathView}
use Rattle.jl_text.specs.Texts.{is_name}
use Rattle.jl_words.specs.ModuleNames.{name_of}
use Rattle.jl_words.specs.Reading.{Text, Said, said_by_words}
use Rattle.jl_words.specs.Values.{required, optional, path_in, module_in, count_up_to, entry_key_in}
use Rattle.jl_words.specs.Commands.{call_with, hash_of, places_of, jobs_given, forms_of, clear_with, limits_of, set_alone_by, without_plain, set_by, command_by_word, options_of}
use Rattle.jl_words.specs.Settings.{settings_of}
use Rattle.jl_words.specs.declared.types.Settings.{Settings}
use Rattle.jl_words.specs.declared.types.Settings.TheVariants as set
use Rattle.jl_words.specs.declared.commands.TheConstants.{MOST_FROM, MOST_COUNT}
use Rattle.jl_words.specs.declared.command.Command.{Command}
use Rattle.jl_words.specs.declared.command.Command.TheVariants.{Call, Hash, Parallel, Session, Clear, ReduceSize, Worker, Tracker, Gen}
use Rattle.jl_words.specs.Targets.{Targets}

-- whatever may be set
abbrev pub AllTargets : Option Settings → Type 0
AllTargets o = (s : Settings) → o ≡ Some s → Targets s

none_all : AllTargets None
none_all s e = absurd (none-some s e)

some_all : (s : Settings) → Targets s → AllTargets (Some s)
some_all s n t e = subst Targets (same_Some s t e) n

then_all : {A : Type 0} (f : A → Option Settings) (o : Option A) → ((x : A) → o ≡ Some x → AllTargets (f x)) → AllTargets (option_and_then f o)
then_all f None n = none_all
then_all f (Some x) n = n x refl

map_all : {A : Type 0} (f : A → Settings) (o : Option A) → ((x : A) → o ≡ Some x → Targets (f x)) → AllTargets (option_map f o)
map_all f None n = none_all
map_all f (Some x) n = some_all (f x) (n x refl)

-- what is read as a name is one
named : (t n : Text) → name_of t ≡ Some n → IsTrue (is_name n)
named t n e = by (is_name t) refl
  where
    by : (b : Bool) → is_name t ≡ b → IsTrue (is_name n)
    by true f = subst (λ (x : Text). IsTrue (is_name x)) (same_Some t n (sym (ap (λ b. cond b (Some t) None) f) ∙ e)) f
    by false f = absurd (none-some n (sym (ap (λ b. cond b (Some t) None) f) ∙ e))

clear_all : (l : PathView) (plain : List Text) → AllTargets (clear_with l plain)
clear_all l [] = some_all (set.Clear l None None None) tt
clear_all l (m ∷ []) = map_all (λ m'. set.Clear l (Some m') None None) (name_of m) (λ m' e. named m m' e)
clear_all l (m ∷ f ∷ []) = then_all (λ m'. option_map (λ f'. set.Clear l (Some m') (Some f') None) (name_of f)) (name_of m) (λ m' e.
    map_all (λ f'. set.Clear l (Some m') (Some f') None) (name_of f) (λ f' e'. (named m m' e, named f f' e')))
clear_all l (m ∷ f ∷ k ∷ []) = then_all (λ m'. option_and_then (λ f'. option_map (λ k'. set.Clear l (Some m') (Some f') (Some k')) (entry_key_in k)) (name_of f)) (name_of m) (λ m' e.
    then_all (λ f'. option_map (λ k'. set.Clear l (Some m') (Some f') (Some k')) (entry_key_in k)) (name_of f) (λ f' e'.
    map_all (λ k'. set.Clear l (Some m') (Some f') (Some k')) (entry_key_in k) (λ k' _. (named m m' e, named f f' e'))))
clear_all l (m ∷ f ∷ k ∷ x ∷ ws) = none_all

call_all : (m l : PathView) (plain : List Text) → AllTargets (call_with m l plain)
call_all m l [] = none_all
call_all m l (a ∷ []) = none_all
call_all m l (a ∷ b ∷ []) = some_all (set.Call m l a b) tt
call_all m l (a ∷ b ∷ c ∷ ws) = none_all

hash_all : (plain : List Text) → AllTargets (hash_of plain)
hash_all [] = none_all
hash_all (a ∷ []) = some_all (set.Hash a) tt
hash_all (a ∷ b ∷ ws) = none_all

alone_all : (c : Command) (cpus : ℕ) (s : Said) → AllTargets (set_alone_by c cpus s)
alone_all Call cpus s = none_all
alone_all Hash cpus s = none_all
alone_all Clear cpus s = none_all
alone_all Parallel cpus s = then_all (λ p. option_and_then (λ j. option_map (λ f. set.Parallel p.0 p.1 j.0 j.1 j.2 f.0 f.1 f.2 p.2) (forms_of s)) (jobs_given cpus s)) (places_of s) (λ p _.
    then_all (λ j. option_map (λ f. set.Parallel p.0 p.1 j.0 j.1 j.2 f.0 f.1 f.2 p.2) (forms_of s)) (jobs_given cpus s) (λ j _.
    map_all (λ f. set.Parallel p.0 p.1 j.0 j.1 j.2 f.0 f.1 f.2 p.2) (forms_of s) (λ f _. tt)))
alone_all Session cpus s = then_all (λ m. option_map (λ l. set.Session m l) (optional path_in (s.value (codes "location")))) (required module_in (s.value (codes "module"))) (λ m _.
    map_all (λ l. set.Session m l) (optional path_in (s.value (codes "location"))) (λ l _. tt))
alone_all ReduceSize cpus s = then_all (λ l. option_map (λ m. set.ReduceSize l m) (limits_of s)) (required path_in (s.value (codes "location"))) (λ l _.
    map_all (λ m. set.ReduceSize l m) (limits_of s) (λ m _. tt))
alone_all Worker cpus s = some_all set.Worker tt
alone_all Tracker cpus s = some_all set.Tracker tt
alone_all Gen cpus s = then_all (λ l. option_and_then (λ f. option_map (λ n. set.Gen l f n) (required (count_up_to MOST_COUNT) (s.value (codes "count")))) (required (count_up_to MOST_FROM) (s.value (codes "from"))))
    (required path_in (s.value (codes "location"))) (λ l _.
    then_all (λ f. option_map (λ n. set.Gen l f n) (required (count_up_to MOST_COUNT) (s.value (codes "count")))) (required (count_up_to MOST_FROM) (s.value (codes "from"))) (λ f _.
    map_all (λ n. set.Gen l f n) (required (count_up_to MOST_COUNT) (s.value (codes "count"))) (λ n _. tt)))

without_all : (plain : List Text) (o : Option Settings) → AllTargets o → AllTargets (without_plain plain o)
without_all [] o n = n
without_all (w ∷ ws) o n = none_all

command_all : (c : Command) (cpus : ℕ) (s : Said) → AllTargets (set_by c cpus s)
command_all Call cpus s = then_all (λ m. option_and_then (λ l. call_with m l s.plain) (required path_in (s.value (codes "location")))) (required module_in (s.value (codes "module"))) (λ m _.
    then_all (λ l. call_with m l s.plain) (required path_in (s.value (codes "location"))) (λ l _. call_all m l s.plain))
command_all Hash cpus s = hash_all s.plain
command_all Clear cpus s = then_all (λ l. clear_with l s.plain) (required path_in (s.value (codes "location"))) (λ l _. clear_all l s.plain)
command_all Parallel cpus s = without_all s.plain (set_alone_by Parallel cpus s) (alone_all Parallel cpus s)
command_all Session cpus s = without_all s.plain (set_alone_by Session cpus s) (alone_all Session cpus s)
command_all ReduceSize cpus s = without_all s.plain (set_alone_by ReduceSize cpus s) (alone_all ReduceSize cpus s)
command_all Worker cpus s = without_all s.plain (set_alone_by Worker cpus s) (alone_all Worker cpus s)
command_all Tracker cpus s = without_all s.plain (set_alone_by Tracker cpus s) (alone_all Tracker cpus s)
command_all Gen cpus s = without_all s.plain (set_alone_by Gen cpus s) (alone_all Gen cpus s)

pub all_targets : (words : List Text) (cpus : ℕ) → AllTargets (settings_of words cpus)
all_targets [] cpus = none_all
all_targets (word ∷ words) cpus = then_all (λ c. option_and_then (set_by c cpus) (said_by_words (options_of c) words)) (command_by_word word) (λ c _.
    then_all (set_by c cpus) (said_by_words (options_of c) words) (λ s _. command_all c cpus s))
