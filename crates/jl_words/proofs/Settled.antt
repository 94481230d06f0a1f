-- What holds of all that words can set.
use Rattle.std.proofs.Common.{◌≡◌, ℕ, List, [], ◌∷◌, Bool, true, false, Option, Some, None, option_map, cond, refl, sym, ap, ◌∙◌, subst, is_some, codes, unwrap_or}
use Rattle.std.specs.Option.{option_and_then}
use Rattle.std.proofs.lemmas.Option.{none-some, same_Some}
use Rattle.jl_text.specs.Paths.{PathView}
use Rattle.jl_words.specs.ModuleNames.{module_name_of, name_of}
use Rattle.jl_words.specs.Reading.{Text, Said, said_by_words}
use Rattle.jl_words.specs.Values.{required, optional, path_in, with_module_name, module_in, count_up_to, entry_key_in}
use Rattle.jl_words.specs.Commands.{call_with, call_of, hash_of, places_of, jobs_given, forms_of, clear_with, clear_settings, limits_of, set_alone_by, without_plain, set_by, command_by_word, options_of}
use Rattle.jl_words.specs.Settings.{settings_of, module_path}
use Rattle.jl_words.specs.declared.types.Settings.{Settings}
use Rattle.jl_words.specs.declared.types.Settings.TheVariants as set
use Rattle.jl_words.specs.declared.commands.TheConstants.{MOST_FROM, MOST_COUNT}
use Rattle.jl_words.specs.declared.command.Command.{Command}
use Rattle.jl_words.specs.declared.command.Command.TheVariants.{Call, Hash, Parallel, Session, Clear, ReduceSize, Worker, Tracker, Gen}

-- the module that is set has a name
abbrev pub Named : Settings → Type 0
Named s = (path : PathView) → module_path s ≡ Some path → is_some (module_name_of path) ≡ true

-- what may be set has a named module
abbrev pub AllNamed : Option Settings → Type 0
AllNamed o = (s : Settings) → o ≡ Some s → Named s

none_named : AllNamed None
none_named s e = absurd (none-some s e)

some_named : (s : Settings) → Named s → AllNamed (Some s)
some_named s n t e = subst Named (same_Some s t e) n

then_named : {A : Type 0} (f : A → Option Settings) (o : Option A) → ((x : A) → o ≡ Some x → AllNamed (f x)) → AllNamed (option_and_then f o)
then_named f None n = none_named
then_named f (Some x) n = n x refl

map_named : {A : Type 0} (f : A → Settings) (o : Option A) → ((x : A) → o ≡ Some x → Named (f x)) → AllNamed (option_map f o)
map_named f None n = none_named
map_named f (Some x) n = some_named (f x) (n x refl)

no_module : (s : Settings) → module_path s ≡ None → Named s
no_module s e path f = absurd (none-some path (sym e ∙ f))

is_module : (s : Settings) (m : PathView) → module_path s ≡ Some m → is_some (module_name_of m) ≡ true → Named s
is_module s m e named path f = subst (λ (p : PathView). is_some (module_name_of p) ≡ true) (same_Some m path (sym e ∙ f)) named

with_name : (p m : PathView) → with_module_name p ≡ Some m → is_some (module_name_of m) ≡ true
with_name p m e = by (is_some (module_name_of p)) refl
  where
    by : (b : Bool) → is_some (module_name_of p) ≡ b → is_some (module_name_of m) ≡ true
    by true f = let same : p ≡ m = same_Some p m (sym (ap (λ b. cond b (Some p) None) f) ∙ e) in sym (ap (λ q. is_some (module_name_of q)) same) ∙ f
    by false f = absurd (none-some m (sym (ap (λ b. cond b (Some p) None) f) ∙ e))

module_named : (o : Option Text) (m : PathView) → required module_in o ≡ Some m → is_some (module_name_of m) ≡ true
module_named None m e = absurd (none-some m e)
module_named (Some text) m e = by (path_in text) refl
  where
    by : (q : Option PathView) → path_in text ≡ q → is_some (module_name_of m) ≡ true
    by None f = absurd (none-some m (sym (ap (option_and_then with_module_name) f) ∙ e))
    by (Some p) f = with_name p m (sym (ap (option_and_then with_module_name) f) ∙ e)

call_named : (m l : PathView) (plain : List Text) → is_some (module_name_of m) ≡ true → AllNamed (call_with m l plain)
call_named m l [] n = none_named
call_named m l (a ∷ []) n = none_named
call_named m l (a ∷ b ∷ []) n = some_named (set.Call m l a b) (is_module (set.Call m l a b) m refl n)
call_named m l (a ∷ b ∷ c ∷ ws) n = none_named

hash_named : (plain : List Text) → AllNamed (hash_of plain)
hash_named [] = none_named
hash_named (a ∷ []) = some_named (set.Hash a) (no_module (set.Hash a) refl)
hash_named (a ∷ b ∷ ws) = none_named

clear_named : (l : PathView) (plain : List Text) → AllNamed (clear_with l plain)
clear_named l [] = some_named (set.Clear l None None None) (no_module (set.Clear l None None None) refl)
clear_named l (m ∷ []) = map_named (λ m'. set.Clear l (Some m') None None) (name_of m) (λ m' _. no_module (set.Clear l (Some m') None None) refl)
clear_named l (m ∷ f ∷ []) = then_named (λ m'. option_map (λ f'. set.Clear l (Some m') (Some f') None) (name_of f)) (name_of m) (λ m' _.
    map_named (λ f'. set.Clear l (Some m') (Some f') None) (name_of f) (λ f' _. no_module (set.Clear l (Some m') (Some f') None) refl))
clear_named l (m ∷ f ∷ k ∷ []) = then_named (λ m'. option_and_then (λ f'. option_map (λ k'. set.Clear l (Some m') (Some f') (Some k')) (entry_key_in k)) (name_of f)) (name_of m) (λ m' _.
    then_named (λ f'. option_map (λ k'. set.Clear l (Some m') (Some f') (Some k')) (entry_key_in k)) (name_of f) (λ f' _.
    map_named (λ k'. set.Clear l (Some m') (Some f') (Some k')) (entry_key_in k) (λ k' _. no_module (set.Clear l (Some m') (Some f') (Some k')) refl)))
clear_named l (m ∷ f ∷ k ∷ x ∷ ws) = none_named

places_module : (s : Said) (p : PathView × Option PathView × PathView) → places_of s ≡ Some p → is_some (module_name_of p.0) ≡ true
places_module s p e = by (required module_in (s.value (codes "module"))) refl
  where
    rest : PathView → Option (PathView × Option PathView × PathView)
    rest m = option_and_then (λ l. option_map (λ t. (m, l, t)) (path_in (unwrap_or (s.value (codes "temp-folder")) (codes ".")))) (optional path_in (s.value (codes "location")))

    keeps : (m : PathView) (o : Option (Option PathView)) (q : Option PathView) → option_and_then (λ l. option_map (λ t. (m, l, t)) q) o ≡ Some p → m ≡ p.0
    keeps m None q f = absurd (none-some p f)
    keeps m (Some l) None f = absurd (none-some p f)
    keeps m (Some l) (Some t) f = ap (λ (r : PathView × Option PathView × PathView). r.0) (same_Some (m, l, t) p f)

    by : (q : Option PathView) → required module_in (s.value (codes "module")) ≡ q → is_some (module_name_of p.0) ≡ true
    by None f = absurd (none-some p (sym (ap (option_and_then rest) f) ∙ e))
    by (Some m) f =
        let same : m ≡ p.0 = keeps m (optional path_in (s.value (codes "location"))) (path_in (unwrap_or (s.value (codes "temp-folder")) (codes "."))) (sym (ap (option_and_then rest) f) ∙ e) in
        sym (ap (λ q. is_some (module_name_of q)) same) ∙ module_named (s.value (codes "module")) m f

alone_named : (c : Command) (cpus : ℕ) (s : Said) → AllNamed (set_alone_by c cpus s)
alone_named Call cpus s = none_named
alone_named Hash cpus s = none_named
alone_named Clear cpus s = none_named
alone_named Parallel cpus s = then_named (λ p. option_and_then (λ j. option_map (λ f. set.Parallel p.0 p.1 j.0 j.1 j.2 f.0 f.1 f.2 p.2) (forms_of s)) (jobs_given cpus s)) (places_of s) (λ p e.
    then_named (λ j. option_map (λ f. set.Parallel p.0 p.1 j.0 j.1 j.2 f.0 f.1 f.2 p.2) (forms_of s)) (jobs_given cpus s) (λ j _.
    map_named (λ f. set.Parallel p.0 p.1 j.0 j.1 j.2 f.0 f.1 f.2 p.2) (forms_of s) (λ f _. is_module (set.Parallel p.0 p.1 j.0 j.1 j.2 f.0 f.1 f.2 p.2) p.0 refl (places_module s p e))))
alone_named Session cpus s = then_named (λ m. option_map (λ l. set.Session m l) (optional path_in (s.value (codes "location")))) (required module_in (s.value (codes "module"))) (λ m e.
    map_named (λ l. set.Session m l) (optional path_in (s.value (codes "location"))) (λ l _. is_module (set.Session m l) m refl (module_named (s.value (codes "module")) m e)))
alone_named ReduceSize cpus s = then_named (λ l. option_map (λ m. set.ReduceSize l m) (limits_of s)) (required path_in (s.value (codes "location"))) (λ l _.
    map_named (λ m. set.ReduceSize l m) (limits_of s) (λ m _. no_module (set.ReduceSize l m) refl))
alone_named Worker cpus s = some_named set.Worker (no_module set.Worker refl)
alone_named Tracker cpus s = some_named set.Tracker (no_module set.Tracker refl)
alone_named Gen cpus s = then_named (λ l. option_and_then (λ f. option_map (λ n. set.Gen l f n) (required (count_up_to MOST_COUNT) (s.value (codes "count")))) (required (count_up_to MOST_FROM) (s.value (codes "from"))))
    (required path_in (s.value (codes "location"))) (λ l _.
    then_named (λ f. option_map (λ n. set.Gen l f n) (required (count_up_to MOST_COUNT) (s.value (codes "count")))) (required (count_up_to MOST_FROM) (s.value (codes "from"))) (λ f _.
    map_named (λ n. set.Gen l f n) (required (count_up_to MOST_COUNT) (s.value (codes "count"))) (λ n _. no_module (set.Gen l f n) refl)))

without_named : (plain : List Text) (o : Option Settings) → AllNamed o → AllNamed (without_plain plain o)
without_named [] o n = n
without_named (w ∷ ws) o n = none_named

command_named : (c : Command) (cpus : ℕ) (s : Said) → AllNamed (set_by c cpus s)
command_named Call cpus s = then_named (λ m. option_and_then (λ l. call_with m l s.plain) (required path_in (s.value (codes "location")))) (required module_in (s.value (codes "module"))) (λ m e.
    then_named (λ l. call_with m l s.plain) (required path_in (s.value (codes "location"))) (λ l _. call_named m l s.plain (module_named (s.value (codes "module")) m e)))
command_named Hash cpus s = hash_named s.plain
command_named Clear cpus s = then_named (λ l. clear_with l s.plain) (required path_in (s.value (codes "location"))) (λ l _. clear_named l s.plain)
command_named Parallel cpus s = without_named s.plain (set_alone_by Parallel cpus s) (alone_named Parallel cpus s)
command_named Session cpus s = without_named s.plain (set_alone_by Session cpus s) (alone_named Session cpus s)
command_named ReduceSize cpus s = without_named s.plain (set_alone_by ReduceSize cpus s) (alone_named ReduceSize cpus s)
command_named Worker cpus s = without_named s.plain (set_alone_by Worker cpus s) (alone_named Worker cpus s)
command_named Tracker cpus s = without_named s.plain (set_alone_by Tracker cpus s) (alone_named Tracker cpus s)
command_named Gen cpus s = without_named s.plain (set_alone_by Gen cpus s) (alone_named Gen cpus s)

pub all_named : (words : List Text) (cpus : ℕ) → AllNamed (settings_of words cpus)
all_named [] cpus = none_named
all_named (word ∷ words) cpus = then_named (λ c. option_and_then (set_by c cpus) (said_by_words (options_of c) words)) (command_by_word word) (λ c _.
    then_named (set_by c cpus) (said_by_words (options_of c) words) (λ s _. command_named c cpus s))

-- where the paths of a call are read, its plain words decide
pub call_is : (s : Said) (m l : PathView) → required module_in (s.value (codes "module")) ≡ Some m → required path_in (s.value (codes "location")) ≡ Some l → call_of s ≡ call_with m l s.plain
call_is s m l e f = ap (option_and_then (λ m'. option_and_then (λ l'. call_with m' l' s.plain) (required path_in (s.value (codes "location"))))) e ∙ ap (option_and_then (λ l'. call_with m l' s.plain)) f

pub clear_is : (s : Said) (l : PathView) → required path_in (s.value (codes "location")) ≡ Some l → clear_settings s ≡ clear_with l s.plain
clear_is s l f = ap (option_and_then (λ l'. clear_with l' s.plain)) f
