-- The values of options and plain words.
use Rattle.std.specs.Prelude.{ℕ, ℤ, pos, negsuc, ◌-ℤ◌, [], ◌∷◌, Bool, false, ◌&&◌, ◌||◌, ◌==◌, nat_eq, nat_le, Option, Some, None, is_some, option_map, option_and_then, length, cond, codes, drop, unsigned_abs}
use Rattle.std.specs.List.{list_all, starts_with}
use Rattle.std.specs.Str.{bytes_eq}
use Rattle.std.specs.Result.{result_ok}
use Rattle.hex.specs.Hex.{decode_sized}
use Rattle.jl_text.specs.Paths.{PathView, path_of, is_bad}
use Rattle.jl_batch.specs.declared.auto.BatchSize.{BatchSize}
use Rattle.jl_batch.specs.declared.auto.BatchSize.TheVariants.{Auto, Fixed}
use Rattle.jl_batch.specs.Jobs.{jobs_of}
use Rattle.jl_quota.specs.Limits.{count_of, size_of}
use Rattle.jl_value.specs.declared.key.Key.{Key}
use Rattle.jl_words.specs.ModuleNames.{module_name_of}
use Rattle.jl_words.specs.Reading.{Text}
use Rattle.jl_words.specs.declared.types.Backend.{Backend}
use Rattle.jl_words.specs.declared.types.Backend.TheVariants.{Loky, Threading, Sequential}
use Rattle.jl_words.specs.declared.types.Mode.{Mode}
use Rattle.jl_words.specs.declared.types.Mode.TheVariants as mode

-- an option that must be given
abbrev pub required : {X : Type 0} → (Text → Option X) → Option Text → Option X
required f o = option_and_then f o

-- an option that may be given
abbrev pub optional : {X : Type 0} → (Text → Option X) → Option Text → Option (Option X)
optional f None = Some None
optional f (Some text) = option_map (λ x. Some x) (f text)

-- a path
abbrev pub path_in : Text → Option PathView
path_in text = cond (is_bad text) None (Some (path_of text))

abbrev pub with_module_name : PathView → Option PathView
with_module_name p = cond (is_some (module_name_of p)) (Some p) None

-- the path of the file of a module
abbrev pub module_in : Text → Option PathView
module_in text = option_and_then with_module_name (path_in text)

-- 1 to 9 digits
abbrev pub few_in : Text → Option ℕ
few_in text = cond (nat_le (length text) 9) (count_of text) None

-- what stands behind a first `-`
abbrev pub minus_body : Text → Option Text
minus_body text = cond (starts_with nat_eq text (45 ∷ [])) (Some (drop 1 text)) None

abbrev pub number_by : Text → Option Text → Option ℤ
number_by text None = option_map pos (few_in text)
number_by text (Some body) = option_map (λ n. pos 0 -ℤ pos n) (few_in body)

-- 1 to 9 digits behind an optional `-`
abbrev pub number_in : Text → Option ℤ
number_in text = number_by text (minus_body text)

abbrev pub is_zero : ℤ → Bool
is_zero (pos n) = n == 0
is_zero (negsuc n) = false

-- how many jobs a number asks for on so many processors; 0 asks for none
abbrev pub jobs_for : ℕ → ℤ → Option ℕ
jobs_for cpus z = cond (is_zero z) None (Some (unsigned_abs (jobs_of z cpus)))

abbrev pub jobs_in : ℕ → Text → Option ℕ
jobs_in cpus text = option_and_then (jobs_for cpus) (number_in text)

abbrev pub backend_in : Text → Option Backend
backend_in text = cond (bytes_eq text (codes "loky")) (Some Loky) (cond (bytes_eq text (codes "threading")) (Some Threading) (cond (bytes_eq text (codes "sequential")) (Some Sequential) None))

abbrev pub fixed : ℕ → Option BatchSize
fixed n = cond (n == 0) None (Some (Fixed n))

-- `auto`, or 1 to 9 digits that are not 0
abbrev pub batch_in : Text → Option BatchSize
batch_in text = cond (bytes_eq text (codes "auto")) (Some Auto) (option_and_then fixed (few_in text))

abbrev pub mode_in : Text → Option Mode
mode_in text = cond (bytes_eq text (codes "list")) (Some mode.List) (cond (bytes_eq text (codes "generator")) (Some mode.Generator) None)

-- `none`, or a size
abbrev pub most_bytes_in : Text → Option (Option ℕ)
most_bytes_in text = cond (bytes_eq text (codes "none")) (Some None) (option_map (λ n. Some n) (size_of text))

abbrev pub at_most : ℕ → ℕ → Option ℕ
at_most most n = cond (nat_le n most) (Some n) None

-- a count up to a number
abbrev pub count_up_to : ℕ → Text → Option ℕ
count_up_to most text = option_and_then (at_most most) (count_of text)

-- `0` to `9` and `a` to `f`
abbrev pub is_key_digit : ℕ → Bool
is_key_digit b = (nat_le 48 b && nat_le b 57) || (nat_le 97 b && nat_le b 102)

-- 32 lower-case hexadecimal digits, two for each byte of a key
abbrev pub entry_key_in : Text → Option Key
entry_key_in text = cond (list_all is_key_digit text) (option_map (λ bytes. record { 0 = bytes }) (result_ok (decode_sized text 16))) None
