-- The commands: their words, their options, and what these set.
use Rattle.std.specs.Prelude.{ℕ, List, [], ◌∷◌, Option, Some, None, option_map, option_and_then, cond, codes, unwrap_or}
use Rattle.std.specs.Str.{bytes_eq}
use Rattle.jl_text.specs.Paths.{PathView}
use Rattle.jl_batch.specs.declared.window.Window.{Window}
use Rattle.jl_batch.specs.declared.auto.BatchSize.{BatchSize}
use Rattle.jl_batch.specs.Reads.{window_of}
use Rattle.jl_quota.specs.Limits.{count_of, size_of, age_of}
use Rattle.jl_quota.specs.declared.limits.Limits.{Limits}
use Rattle.jl_words.specs.ModuleNames.{name_of}
use Rattle.jl_words.specs.Reading.{Text, Said}
use Rattle.jl_words.specs.Values.{required, optional, path_in, module_in, jobs_in, backend_in, batch_in, mode_in, most_bytes_in, count_up_to, entry_key_in}
use Rattle.jl_words.specs.declared.types.Backend.{Backend}
use Rattle.jl_words.specs.declared.types.Mode.{Mode}
use Rattle.jl_words.specs.declared.types.Settings.{Settings}
use Rattle.jl_words.specs.declared.types.Settings.TheVariants as set
use Rattle.jl_words.specs.declared.commands.TheConstants.{MOST_FROM, MOST_COUNT}
use Rattle.jl_words.specs.declared.command.Command.{Command}
use Rattle.jl_words.specs.declared.command.Command.TheVariants.{Call, Hash, Parallel, Session, Clear, ReduceSize, Worker, Tracker, Gen}

-- the word of a command
abbrev pub command_word : Command → Text
command_word Call = codes "call"
command_word Hash = codes "hash"
command_word Parallel = codes "parallel"
command_word Session = codes "session"
command_word Clear = codes "clear"
command_word ReduceSize = codes "reduce-size"
command_word Worker = codes "worker"
command_word Tracker = codes "tracker"
command_word Gen = codes "gen"

abbrev pub commands : List Command
commands = Call ∷ Hash ∷ Parallel ∷ Session ∷ Clear ∷ ReduceSize ∷ Worker ∷ Tracker ∷ Gen ∷ []

abbrev pub command_among : List Command → Text → Option Command
command_among [] word = None
command_among (c ∷ cs) word = cond (bytes_eq word (command_word c)) (Some c) (command_among cs word)

-- the command of a word
abbrev pub command_by_word : Text → Option Command
command_by_word word = command_among commands word

-- the options of a command
abbrev pub options_of : Command → List Text
options_of Call = codes "module" ∷ codes "location" ∷ []
options_of Hash = []
options_of Parallel = codes "module" ∷ codes "location" ∷ codes "n-jobs" ∷ codes "backend" ∷ codes "pre-dispatch" ∷ codes "batch-size" ∷ codes "return-as" ∷ codes "max-nbytes" ∷ codes "temp-folder" ∷ []
options_of Session = codes "module" ∷ codes "location" ∷ []
options_of Clear = codes "location" ∷ []
options_of ReduceSize = codes "location" ∷ codes "bytes-limit" ∷ codes "items-limit" ∷ codes "age-limit" ∷ []
options_of Worker = []
options_of Tracker = []
options_of Gen = codes "location" ∷ codes "from" ∷ codes "count" ∷ []

-- ---- call, hash

abbrev pub call_with : PathView → PathView → List Text → Option Settings
call_with m l (func ∷ args ∷ []) = Some (set.Call m l func args)
call_with m l _ = None

-- `call --module PATH --location DIR FUNC ARGS`
abbrev pub call_of : Said → Option Settings
call_of s = option_and_then (λ m. option_and_then (λ l. call_with m l s.plain) (required path_in (s.value (codes "location")))) (required module_in (s.value (codes "module")))

-- `hash ARGS`
abbrev pub hash_of : List Text → Option Settings
hash_of (args ∷ []) = Some (set.Hash args)
hash_of _ = None

-- ---- parallel, session

-- where the module, the cache and the temporary folder are
abbrev pub places_of : Said → Option (PathView × Option PathView × PathView)
places_of s = option_and_then (λ m. option_and_then (λ l. option_map (λ t. (m, l, t)) (path_in (unwrap_or (s.value (codes "temp-folder")) (codes "."))))
    (optional path_in (s.value (codes "location")))) (required module_in (s.value (codes "module")))

-- how many jobs run how, and how many tasks may be in flight
abbrev pub jobs_given : ℕ → Said → Option (ℕ × Backend × Window)
jobs_given cpus s = option_and_then (λ n. option_and_then (λ b. option_map (λ w. (n, b, w)) (window_of (unwrap_or (s.value (codes "pre-dispatch")) (codes "2*n_jobs")) n))
    (backend_in (unwrap_or (s.value (codes "backend")) (codes "loky")))) (jobs_in cpus (unwrap_or (s.value (codes "n-jobs")) (codes "1")))

-- how many tasks make a batch, how results come, and from which size on arrays go by file
abbrev pub forms_of : Said → Option (BatchSize × Mode × Option ℕ)
forms_of s = option_and_then (λ b. option_and_then (λ m. option_map (λ n. (b, m, n)) (most_bytes_in (unwrap_or (s.value (codes "max-nbytes")) (codes "1M"))))
    (mode_in (unwrap_or (s.value (codes "return-as")) (codes "list")))) (batch_in (unwrap_or (s.value (codes "batch-size")) (codes "auto")))

-- `parallel --module PATH`, and optionally `--location DIR`, `--n-jobs N`, `--backend B`,
-- `--pre-dispatch T`, `--batch-size B`, `--return-as R`, `--max-nbytes SIZE`, `--temp-folder DIR`
abbrev pub parallel_of : ℕ → Said → Option Settings
parallel_of cpus s = option_and_then (λ p. option_and_then (λ j. option_map (λ f. set.Parallel p.0 p.1 j.0 j.1 j.2 f.0 f.1 f.2 p.2) (forms_of s)) (jobs_given cpus s)) (places_of s)

-- `session --module PATH`, and optionally `--location DIR`
abbrev pub session_of : Said → Option Settings
session_of s = option_and_then (λ m. option_map (λ l. set.Session m l) (optional path_in (s.value (codes "location")))) (required module_in (s.value (codes "module")))

-- ---- clear, reduce-size

-- nothing, a module, a function or an entry of a module
abbrev pub clear_with : PathView → List Text → Option Settings
clear_with l [] = Some (set.Clear l None None None)
clear_with l (m ∷ []) = option_map (λ m'. set.Clear l (Some m') None None) (name_of m)
clear_with l (m ∷ f ∷ []) = option_and_then (λ m'. option_map (λ f'. set.Clear l (Some m') (Some f') None) (name_of f)) (name_of m)
clear_with l (m ∷ f ∷ k ∷ []) = option_and_then (λ m'. option_and_then (λ f'. option_map (λ k'. set.Clear l (Some m') (Some f') (Some k')) (entry_key_in k)) (name_of f)) (name_of m)
clear_with l _ = None

-- `clear --location DIR`, and then nothing, `MODULE`, `MODULE FUNC` or `MODULE FUNC KEY`
abbrev pub clear_settings : Said → Option Settings
clear_settings s = option_and_then (λ l. clear_with l s.plain) (required path_in (s.value (codes "location")))

abbrev pub limits_of : Said → Option Limits
limits_of s = option_and_then (λ b. option_and_then (λ i. option_map (λ a. record { bytes = b; items = i; age = a }) (optional age_of (s.value (codes "age-limit"))))
    (optional count_of (s.value (codes "items-limit")))) (optional size_of (s.value (codes "bytes-limit")))

-- `reduce-size --location DIR`, and optionally `--bytes-limit SIZE`, `--items-limit N`,
-- `--age-limit SECONDS`
abbrev pub reduce_of : Said → Option Settings
reduce_of s = option_and_then (λ l. option_map (λ m. set.ReduceSize l m) (limits_of s)) (required path_in (s.value (codes "location")))

-- ---- gen

-- `gen --location DIR --from N --count N`
abbrev pub gen_of : Said → Option Settings
gen_of s = option_and_then (λ l. option_and_then (λ f. option_map (λ n. set.Gen l f n) (required (count_up_to MOST_COUNT) (s.value (codes "count"))))
    (required (count_up_to MOST_FROM) (s.value (codes "from")))) (required path_in (s.value (codes "location")))

-- what the options of a command without plain words set
abbrev pub set_alone_by : Command → ℕ → Said → Option Settings
set_alone_by Parallel cpus s = parallel_of cpus s
set_alone_by Session cpus s = session_of s
set_alone_by ReduceSize cpus s = reduce_of s
set_alone_by Worker cpus s = Some set.Worker
set_alone_by Tracker cpus s = Some set.Tracker
set_alone_by Gen cpus s = gen_of s
set_alone_by _ cpus s = None

abbrev pub without_plain : List Text → Option Settings → Option Settings
without_plain [] o = o
without_plain (w ∷ ws) o = None

-- what a command's options and plain words set, on a machine with so many processors
abbrev pub set_by : Command → ℕ → Said → Option Settings
set_by Call cpus s = call_of s
set_by Hash cpus s = hash_of s.plain
set_by Clear cpus s = clear_settings s
set_by c cpus s = without_plain s.plain (set_alone_by c cpus s)
