-- What each reader of lines is.
use Rattle.std.specs.Prelude.{◌≡◌, ◌+◌, ◌≤◌, [], true, false, cond, length}
use Rattle.jl_text.specs.declared.limits.TheConstants.{MOST_INPUT_BYTES}
use Rattle.jl_lines.specs.Lines.{has_newline}
use Rattle.jl_lines.specs.Steps.{ReaderView}

-- the front bytes are no whole line and not too many, and none of a line that is too long;
-- each line that was passed, the one that is too long and the bytes that wait were taken, and not too many;
-- once the end of the source was met, no byte waits and no line is open
pub record IsReader (v : ReaderView) : Type 0 where
  pub none : has_newline v.front ≡ false
  pub short : length v.front ≤ v.limit
  pub nothing : v.long ≡ true → v.front ≡ []
  pub counts : v.lines + cond v.long 1 0 + (length v.front + length v.rest) ≤ v.taken
  pub most : v.taken ≤ MOST_INPUT_BYTES
  pub over : v.ended ≡ true → (v.long ≡ false) × (v.front ≡ []) × (v.rest ≡ [])
