-- How a call of a function came to its answer, what it put out then, and what it did or else warned of, whatever others do.
use Rattle.std.specs.Prelude.{◌≡◌, ℕ, List, [], ◌++◌, Some}
use Rattle.jl_text.specs.Paths.{PathView}
use Rattle.jl_folder.specs.Views.{state, moved}
use Rattle.jl_streams.specs.Views.{SinkView}
use Rattle.jl_value.specs.Form.{tree_of}
use Rattle.jl_store.specs.declared.memory.Memory.{Memory}
use Rattle.jl_store.specs.declared.memory.Warning.{Warning}
use Rattle.jl_store.specs.declared.cached.Cached.{Cached}
use Rattle.jl_store.specs.declared.cached.Cached.TheVariants as cached
use Rattle.jl_store.specs.Cached.{IsAnswer, CountsCall, ComesBy, ComesTidy}
use Rattle.jl_store.specs.Asked.{Asked}
use Rattle.jl_store.specs.Calling.{IsCalling, ClearsOnlyAnothers, PutsFiles, IsOrdered, IsBeforeOutput}
use Rattle.jl_store.specs.Next.{entry_asked, LeftAfter}
use Rattle.jl_rely.specs.Steps.{OwnMoves}
use Rattle.jl_store.specs.Warned.{IsOrderly, AreCaused}
use Rattle.jl_store.specs.Done.{HasDoneBut}
use Rattle.jl_words.specs.ModuleNames.{module_name_of}
use Rattle.jl_cmd.specs.declared.computed.Computed.{Computed}
use Rattle.jl_cmd.specs.declared.computed.Computed.TheVariants as computed
use Rattle.jl_cmd.specs.declared.ended.Ended.{Ended}
use Rattle.jl_cmd.specs.Output.{Output, prints, fails}
use Rattle.jl_cmd.specs.Course.{Stretch, IsClear}
use Rattle.jl_cmd.specs.Endings.{ReadFrom, last_text}
use Rattle.jl_cmd.specs.Calling.{Asks, asked_by, memory_at}
use Rattle.jl_cmd.specs.Statuses as status
use Rattle.jl_cmd.specs.Texts.{warning_lines}

-- ---- a call

-- the output of what the cache answered
abbrev pub IsOutputOf : Cached → Output → Type 0
IsOutputOf (cached.Hit v) o = o ≡ prints (tree_of v)
IsOutputOf (cached.Computed v) o = o ≡ prints (tree_of v)
IsOutputOf (cached.Error e) o = o ≡ fails 0 e
IsOutputOf cached.NoMemory o = ⊥

-- The cache answered so, and the output of that was put out, with this status, and these warnings. A value that was computed and an error are the
-- library's answer. A value was found where an output that was opened holds it, and else the function was called, for a cause; the library's count
-- tells which. Each warning has its cause. Where all steps were proper the value stood at one step, or no entry of this code and these arguments did, or a fault rose. And the
-- call did all but what the warnings tell, by moves of its own kinds; it cleared entries only where the code's file held another code. The
-- files that it put in place have the texts of this code, these arguments and one value, in order; and it read the clock as often as its answer takes.
pub record ComesAsked (a : Asked) (v : Stretch) (Puts : Output → List Warning → Type 0) (n : ℕ) : Type 0 where
  pub result : Cached
  pub output : Output
  pub gives : IsOutputOf result output
  pub status : output.status ≡ n
  pub warnings : List Warning
  pub caused : AreCaused warnings a v.folder v.folder'
  pub puts : Puts output warnings
  pub answers : IsAnswer result (v.means.answer a.code a.args) ⊥
  pub counts : CountsCall result v.calls v.calls'
  pub comes : ComesBy result a v.folder v.folder'
  pub tidy : v.folder.told → IsOrderly a.root v.folder v.folder' → ComesTidy result a v.folder v.folder'
  pub done : v.folder.told → HasDoneBut result a (state v.folder) (moved v.folder v.folder') warnings
  pub moves : v.folder.told → OwnMoves v.folder.token (IsCalling result (entry_asked a) v.folder.token) (moved v.folder v.folder')
  pub clears : v.folder.told → ClearsOnlyAnothers result (entry_asked a) a.code v.folder v.folder'
  pub files : v.folder.told → PutsFiles result a v.host v.folder v.folder'
  pub order : v.folder.told → IsOrdered result (IsBeforeOutput (entry_asked a) v.folder.token) (entry_asked a) v.folder.token (moved v.folder v.folder')
  pub clock : v.host.told → LeftAfter result v.host v.host'

-- the same of a module's bytes and a text of arguments
abbrev pub ComesCalled : Memory → (bytes name args : List ℕ) → Stretch → (Puts : Output → List Warning → Type 0) → (n : ℕ) → Type 0
ComesCalled memory bytes name args v Puts n = (q : Asks v.means bytes name args) × ComesAsked (asked_by v.means memory bytes name args q) v Puts n

-- the same of the module's bytes as this run read them
abbrev pub ComesRead : (file : PathView) → Memory → (bytes name args : List ℕ) → Stretch → (Puts : Output → List Warning → Type 0) → (n : ℕ) → Type 0
ComesRead file memory bytes name args v Puts n = (v.folder.told → ReadFrom file bytes v.folder v.folder') × ComesCalled memory bytes name args v Puts n

-- ---- what is put out

-- this output was computed
abbrev pub IsComputed : Output → Computed → Type 0
IsComputed o (computed.Printed t) = o ≡ record { bytes = t; status = status.done; text = [] }
IsComputed o (computed.Failed t) = o ≡ record { bytes = []; status = status.task_error; text = t }
IsComputed o (computed.Refused t) = ⊥
IsComputed o computed.NoMemory = ⊥

-- and these warnings were added
abbrev pub ComputedWith : Computed → (warnings warnings' : List Warning) → Output → List Warning → Type 0
ComputedWith c ws ws' o added = IsComputed o c × (ws' ≡ ws ++ added)

-- a command over the module of this name ended with this output, of which its last text is still to be written, and with the lines of these warnings
pub record EndsWith (e : Ended) (said : List ℕ) (out out' : SinkView) (m : List ℕ) (o : Output) (added : List Warning) : Type 0 where
  pub lines : said ≡ warning_lines m added
  pub text : o.text ≡ last_text e
  pub bytes : out.told → out'.written ≡ out.written ++ o.bytes

-- this output was put out, and before its text the lines of these warnings
pub record PutsOut (out out' err err' : SinkView) (m : List ℕ) (o : Output) (added : List Warning) : Type 0 where
  pub bytes : out.told → out'.written ≡ out.written ++ o.bytes
  pub texts : IsClear err err' → err'.written ≡ err.written ++ (warning_lines m added ++ o.text)

-- ---- a command

-- a call of a module's function that told a value or an error came to it so
abbrev pub CallComes : (file location : PathView) → (bytes name args : List ℕ) → Stretch → (Puts : List ℕ → Output → List Warning → Type 0) → ((ℕ → Type 0) → Type 0) → Type 0
CallComes file location bytes name args v Puts At =
    (m : List ℕ) → module_name_of file ≡ Some m → At (ComesRead file (memory_at location m v.folder.token) bytes name args v (Puts m))
