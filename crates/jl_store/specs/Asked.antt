-- What is asked of the cache.
use Rattle.std.specs.Prelude.{ℕ, List}
use Rattle.hex.specs.Hex.{encode_lower}
use Rattle.jl_text.specs.Paths.{PathView}
use Rattle.jl_value.specs.Key.{key_of}
use Rattle.jl_entry.specs.Names.{Final, entry_of, root_of, below, final_parts}
use Rattle.jl_entry.specs.Entry.{Members}
use Rattle.jl_entry.specs.declared.names.EntryFile.TheVariants.{Output}
use Rattle.jl_store.specs.declared.memory.Memory.{Memory}

-- the function, with its code and line, and its arguments, by the run of this token
pub record Asked : Type 0 where
  pub root : PathView
  pub module_name : List ℕ
  pub function_name : List ℕ
  pub token : List ℕ
  pub code : List ℕ
  pub line : ℕ
  pub args : Members

-- by a run's memory
abbrev pub asked : Memory → (name code : List ℕ) → (line : ℕ) → Members → Asked
asked memory f code line ps = record { root = root_of memory.location; module_name = memory.«module»; function_name = f; token = memory.token; code = code; line = line; args = ps }

-- the output of a module's function for these arguments
abbrev pub output_of : (module' name : List ℕ) → Members → Final
output_of m f ps = entry_of Output m f (encode_lower (key_of ps))

-- its path below a root
abbrev pub output_path : PathView → (module' name : List ℕ) → Members → PathView
output_path root m f ps = below root (final_parts (output_of m f ps))

abbrev pub output_asked : Asked → PathView
output_asked a = output_path a.root a.module_name a.function_name a.args
