-- What a reader of lines answers, and what it is afterwards.
use Rattle.std.specs.Prelude.{◌≡◌, ℕ, ◌+◌, ◌-◌, ◌<◌, ◌≤◌, List, [], ◌∷◌, ◌++◌, Bool, true, false, ◌||◌, not, cond, nat_lt, length, take, drop}
use Rattle.jl_text.specs.declared.limits.TheConstants.{MOST_INPUT_BYTES}
use Rattle.jl_streams.specs.Views.{SourceView}
use Rattle.jl_lines.specs.declared.reader.NextLine.{NextLine}
use Rattle.jl_lines.specs.declared.reader.NextLine.TheVariants as next_line
use Rattle.jl_lines.specs.Lines.{has_newline, first_line, behind_line, body_of, lines_of}

-- a reader: the longest line that it answers, how many bytes it took and how many lines it passed;
-- whether it stands in a line that is longer than that, and whether it met the end of the source;
-- and the bytes that it took of lines that it hasn't passed, the front ones in no whole line.
-- Of a line that is too long it keeps none.
pub record ReaderView : Type 0 where
  pub limit : ℕ
  pub taken : ℕ
  pub lines : ℕ
  pub long : Bool
  pub ended : Bool
  pub front : List ℕ
  pub rest : List ℕ

-- the bytes that were taken and stand in no line that was passed
abbrev pub waiting : ReaderView → List ℕ
waiting v = v.front ++ v.rest

-- whether the line at the front of these bytes is too long; of the line in which it stands that may be known already
abbrev pub is_long : ReaderView → List ℕ → Bool
is_long v bytes = v.long || nat_lt v.limit (length (first_line bytes))

-- where the reader met the end, this source has nothing left
abbrev pub KnowsEnd : ReaderView → SourceView → Type 0
KnowsEnd v source = v.ended ≡ true → source.left ≡ []

-- the first line of the bytes is passed; where it has no newline, the end of the source was met behind it
pub record Passes (old new : ReaderView) (bytes : List ℕ) (number : ℕ) : Type 0 where
  pub number_is : number ≡ old.lines + 1
  pub lines_is : new.lines ≡ number
  pub long_is : new.long ≡ false
  pub waiting_is : waiting new ≡ behind_line bytes
  pub ended_is : new.ended ≡ not (has_newline bytes)

-- no line is passed; of a line that is too long nothing is kept
pub record KeepsBytes (old new : ReaderView) (bytes : List ℕ) : Type 0 where
  pub lines_is : new.lines ≡ old.lines
  pub long_is : new.long ≡ is_long old bytes
  pub waiting_is : waiting new ≡ cond (is_long old bytes) [] bytes

-- what is answered over the bytes that wait and those that were taken in this call
abbrev pub AnswersOver : ReaderView → ReaderView → List ℕ → NextLine → Type 0
AnswersOver old new bytes (next_line.Line number body) = Passes old new bytes number × (is_long old bytes ≡ false) × (0 < length bytes) × (body ≡ body_of bytes)
AnswersOver old new bytes (next_line.TooLong number) = Passes old new bytes number × (is_long old bytes ≡ true)
AnswersOver old new bytes next_line.End = KeepsBytes old new bytes × (old.long ≡ false) × (bytes ≡ []) × (new.ended ≡ true)
AnswersOver old new bytes next_line.TooMuch = KeepsBytes old new bytes × (has_newline bytes ≡ false) × (new.ended ≡ false) × (new.taken ≡ MOST_INPUT_BYTES)
AnswersOver old new bytes next_line.ReadFault = KeepsBytes old new bytes × (has_newline bytes ≡ false) × (new.ended ≡ false)
AnswersOver old new bytes next_line.NoMemory = KeepsBytes old new bytes × (new.ended ≡ false)

-- where the source went: the bytes taken were left, and at `TooMuch` one more
abbrev pub LeftIs : NextLine → List ℕ → SourceView → SourceView → Type 0
LeftIs (next_line.Line number body) got before after = before.left ≡ got ++ after.left
LeftIs (next_line.TooLong number) got before after = before.left ≡ got ++ after.left
LeftIs next_line.End got before after = before.left ≡ got ++ after.left
LeftIs next_line.TooMuch got before after = (b : ℕ) × (before.left ≡ got ++ b ∷ after.left)
LeftIs next_line.ReadFault got before after = before.left ≡ got ++ after.left
LeftIs next_line.NoMemory got before after = before.left ≡ got ++ after.left

-- one call: the bytes that it took, and what it answers over them; what it knows of the end is so of the source
pub record NextStep (old new : ReaderView) (before after : SourceView) (answer : NextLine) : Type 0 where
  pub got : List ℕ
  pub limit_is : new.limit ≡ old.limit
  pub taken_is : new.taken ≡ old.taken + length got
  pub most : new.taken ≤ MOST_INPUT_BYTES
  pub left_is : before.told → LeftIs answer got before after
  pub end_is : before.told → KnowsEnd old before → KnowsEnd new after
  pub answer_is : AnswersOver old new (waiting old ++ got) answer

-- where the bytes that are ahead went: the first of their lines was answered, or none; `ahead` are the bytes that wait and those that the source has left
abbrev pub TakesLine : ReaderView → NextLine → List ℕ → List ℕ → Type 0
TakesLine old (next_line.Line number body) ahead ahead' = (lines_of ahead ≡ first_line ahead ∷ lines_of ahead') × (body ≡ body_of ahead) × (length (first_line ahead) ≤ old.limit)
TakesLine old (next_line.TooLong number) ahead ahead' = old.long ≡ false → (lines_of ahead ≡ first_line ahead ∷ lines_of ahead') × (old.limit < length (first_line ahead))
TakesLine old next_line.End ahead ahead' = (lines_of ahead ≡ []) × (lines_of ahead' ≡ [])
TakesLine old next_line.TooMuch ahead ahead' = Unit {0}
TakesLine old next_line.ReadFault ahead ahead' = Unit {0}
TakesLine old next_line.NoMemory ahead ahead' = Unit {0}

-- an answer that needs no further read
abbrev pub NeedsNoRead : NextLine → Type 0
NeedsNoRead (next_line.Line number body) = Unit {0}
NeedsNoRead (next_line.TooLong number) = Unit {0}
NeedsNoRead next_line.End = Unit {0}
NeedsNoRead next_line.TooMuch = ⊥
NeedsNoRead next_line.ReadFault = ⊥
NeedsNoRead next_line.NoMemory = Unit {0}

-- an answer over the bytes that wait, and whether the end is met with it; nothing was taken
pub record Settles (ended : Bool) (old new : ReaderView) (answer : NextLine) : Type 0 where
  pub kind : NeedsNoRead answer
  pub limit_is : new.limit ≡ old.limit
  pub taken_is : new.taken ≡ old.taken
  pub most : new.taken ≤ MOST_INPUT_BYTES
  pub ended_is : new.ended ≡ ended
  pub answer_is : AnswersOver old new (waiting old) answer

-- whatever bytes come behind, `new` over the bytes `there` answers what `old` answers over the bytes `here`
pub record AnswersAlike (old new : ReaderView) (here there : List ℕ) : Type 0 where
  pub long_is : (more : List ℕ) → is_long new (there ++ more) ≡ is_long old (here ++ more)
  pub behind_is : (more : List ℕ) → behind_line (there ++ more) ≡ behind_line (here ++ more)
  pub newline_is : (more : List ℕ) → has_newline (there ++ more) ≡ has_newline (here ++ more)
  pub same : (more : List ℕ) → is_long old (here ++ more) ≡ false → there ≡ here

-- bytes were taken, no line is passed yet, and the end isn't met
pub record Goes (old new : ReaderView) (before after : SourceView) : Type 0 where
  pub got : List ℕ
  pub limit_is : new.limit ≡ old.limit
  pub taken_is : new.taken ≡ old.taken + length got
  pub lines_is : new.lines ≡ old.lines
  pub going : new.ended ≡ false
  pub left_is : before.told → before.left ≡ got ++ after.left
  pub stands : AnswersAlike old new (waiting old ++ got) (waiting new)

-- no whole line waited, and at least one byte was taken
pub record Advances (old new : ReaderView) (before after : SourceView) : Type 0 where
  pub none : has_newline (waiting old) ≡ false
  pub some : old.taken < new.taken
  pub most : new.taken ≤ MOST_INPUT_BYTES
  pub goes : Goes old new before after

-- the bytes that wait are no whole line, and all of them were looked at; the end isn't met
pub record LooksOver (old new : ReaderView) : Type 0 where
  pub limit_is : new.limit ≡ old.limit
  pub taken_is : new.taken ≡ old.taken
  pub going : new.ended ≡ false
  pub none : has_newline (waiting old) ≡ false
  pub keeps : KeepsBytes old new (waiting old)
  pub rest_is : new.rest ≡ []

-- at least one byte was taken, behind the others, where none was left to look at
pub record Gets (old new : ReaderView) (before after : SourceView) : Type 0 where
  pub some : 0 < length new.rest
  pub most : new.taken ≤ MOST_INPUT_BYTES
  pub new_is : new ≡ record old { taken = old.taken + length new.rest; rest = new.rest }
  pub left_is : before.told → before.left ≡ new.rest ++ after.left

-- the first line of the bytes ends with a newline, and with it has this size
pub record EndsAt (bytes : List ℕ) (size : ℕ) : Type 0 where
  pub some : 0 < size
  pub within : size ≤ length bytes
  pub there : has_newline bytes ≡ true
  pub first : first_line bytes ≡ take size bytes
  pub body : body_of bytes ≡ take (size - 1) bytes
  pub behind : behind_line bytes ≡ drop size bytes

-- whether the line at the front is too long with so many bytes more
abbrev pub is_over : ReaderView → ℕ → Bool
is_over v count = v.long || nat_lt v.limit (length v.front + count)
