-- Which line of the tracker bytes are.
use Rattle.std.specs.Prelude.{◌≡◌, ◌≢◌, ℕ, List, [], Bool, not, nat_eq, codes, length}
use Rattle.std.specs.Str.{IsUtf8}
use Rattle.jl_tracker.specs.declared.line.Kind.{Kind}
use Rattle.jl_tracker.specs.declared.line.Kind.TheVariants as kind
use Rattle.jl_tracker.specs.declared.line.Line.{Line}
use Rattle.jl_tracker.specs.declared.line.Line.TheVariants as line
use Rattle.jl_tracker.specs.declared.line.Command.{Command}
use Rattle.jl_tracker.specs.declared.line.Command.TheVariants as command
use Rattle.jl_tracker.specs.Parts.{body_of, Splits}
use Rattle.jl_tracker.specs.PathTexts.{IsPathText, is_spelled}

-- what a line says of a resource, whose name is a list of bytes
pub data LineView : Type 0 where
  registers : (k : Kind) (name : List ℕ) → LineView
  unregisters : (k : Kind) (name : List ℕ) → LineView
  may_unlink : (k : Kind) (name : List ℕ) → LineView
  probes : LineView

abbrev pub view_of : Line → LineView
view_of (line.Register k name) = registers k name.now
view_of (line.Unregister k name) = unregisters k name.now
view_of (line.MaybeUnlink k name) = may_unlink k name.now
view_of line.Probe = probes

-- the word of a kind
abbrev pub word_of : Kind → List ℕ
word_of kind.File = codes "file"
word_of kind.Folder = codes "folder"
word_of kind.Semlock = codes "semlock"

-- a name is text and not empty; that of a file or a folder is the text of a path
abbrev pub IsNameOfKind : Kind → List ℕ → Type 0
IsNameOfKind kind.File name = IsUtf8 name × IsPathText name
IsNameOfKind kind.Folder name = IsUtf8 name × IsPathText name
IsNameOfKind kind.Semlock name = IsUtf8 name × (name ≢ [])

-- what is tested of a name that is text
abbrev pub is_named : Kind → List ℕ → Bool
is_named kind.File name = is_spelled name
is_named kind.Folder name = is_spelled name
is_named kind.Semlock name = not (nat_eq (length name) 0)

-- what a command that isn't a probe says
abbrev pub said_of : Command → Kind → List ℕ → LineView
said_of command.Register k name = registers k name
said_of command.Unregister k name = unregisters k name
said_of command.MaybeUnlink k name = may_unlink k name

-- the word of such a command
abbrev pub command_word : Command → List ℕ
command_word command.Register = codes "REGISTER"
command_word command.Unregister = codes "UNREGISTER"
command_word command.MaybeUnlink = codes "MAYBE_UNLINK"

-- what the parts of a line say; those of a probe may be anything
abbrev pub Says : List ℕ → List ℕ → List ℕ → LineView → Type 0
Says command name word (registers k n) = (command ≡ codes "REGISTER") × (word ≡ word_of k) × (n ≡ name) × IsNameOfKind k name
Says command name word (unregisters k n) = (command ≡ codes "UNREGISTER") × (word ≡ word_of k) × (n ≡ name) × IsNameOfKind k name
Says command name word (may_unlink k n) = (command ≡ codes "MAYBE_UNLINK") × (word ≡ word_of k) × (n ≡ name) × IsNameOfKind k name
Says command name word probes = command ≡ codes "PROBE"

-- the bytes, without the blanks at both ends, are a command, a name and a kind between colons
pub record IsTrackerLine (bytes : List ℕ) (said : LineView) : Type 0 where
  pub command : List ℕ
  pub name : List ℕ
  pub word : List ℕ
  pub splits : Splits (body_of bytes) command name word
  pub says : Says command name word said
