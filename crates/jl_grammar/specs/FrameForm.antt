-- The frame that one of the program stands for.
use Rattle.jl_lexer.specs.Trees.{Expression}
use Rattle.jl_grammar.specs.Frames.{Frame, Bracket, Behind, Operand, Condition, Otherwise, Element, Member, Bound, Listed, Keyed, Source, Filter}
use Rattle.jl_grammar.specs.declared.frames.Bare.{Bare}
use Rattle.jl_grammar.specs.declared.frames.Bare.TheVariants.{Bracket as BareBracket, Behind as BareBehind, Member as BareMember}
use Rattle.jl_grammar.specs.declared.frames.Single.{Single}
use Rattle.jl_grammar.specs.declared.frames.Single.TheVariants.{Operand as SingleOperand, Condition as SingleCondition, Element as SingleElement, Bound as SingleBound, Source as SingleSource}
use Rattle.jl_grammar.specs.declared.frames.Double.{Double}
use Rattle.jl_grammar.specs.declared.frames.Double.TheVariants.{Otherwise as DoubleOtherwise, Filter as DoubleFilter}
use Rattle.jl_grammar.specs.declared.frames.Waiting.{Waiting}
use Rattle.jl_grammar.specs.declared.frames.Waiting.TheVariants.{NoOperand, OneOperand, TwoOperands, Members, Entries}

-- with no operand
abbrev pub bare_frame : Bare → Frame
bare_frame BareBracket = Bracket
bare_frame (BareBehind p) = Behind p
bare_frame (BareMember f) = Member f

-- with one
abbrev pub single_frame : Single → Expression → Frame
single_frame (SingleOperand o) a = Operand o a
single_frame SingleCondition a = Condition a
single_frame SingleElement a = Element a
single_frame SingleBound a = Bound a
single_frame (SingleSource x) a = Source a x.now

-- with two
abbrev pub double_frame : Double → Expression → Expression → Frame
double_frame DoubleOtherwise a b = Otherwise a b
double_frame (DoubleFilter x) a b = Filter a x.now b

abbrev pub frame_of : Waiting → Frame
frame_of (NoOperand b) = bare_frame b
frame_of (OneOperand s a) = single_frame s a
frame_of (TwoOperands d a b) = double_frame d a b
frame_of (Members es) = Listed es
frame_of (Entries es k) = Keyed es k
