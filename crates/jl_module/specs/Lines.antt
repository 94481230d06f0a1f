-- What the readers of a line answer.
use Rattle.std.specs.Prelude.{◌≡◌, ℕ, List, [], ◌∷◌, ◌++◌, length, ◌<◌, ◌≤◌, Option, Some, None, ⊤}
use Rattle.jl_text.specs.declared.limits.TheConstants.{MOST_BRACKETS}
use Rattle.jl_value.specs.declared.library.ModuleFaultKind.TheVariants.{BadLine}
use Rattle.jl_module.specs.declared.fault.LineFault.{LineFault}
use Rattle.jl_module.specs.declared.fault.LineFault.TheVariants.{Faulty, Memory}
use Rattle.jl_module.specs.declared.reader.Next.{Next}
use Rattle.jl_module.specs.declared.reader.Next.TheVariants.{Closed, Parameter, Bad}
use Rattle.jl_module.specs.declared.reader.Head.{Head}
use Rattle.jl_lexer.specs.Signs.{signs}
use Rattle.jl_module.specs.declared.reader.Definition.{Definition as Read}
use Rattle.jl_lexer.specs.Trees.{Expression, height}
use Rattle.jl_grammar.specs.Parser.{read, read_signs}
use Rattle.jl_module.specs.Headings.{with_body, Heading, Definition, LineReading, bad, good, more_parameters, heading_in, with_parameters, parameters_in}

-- a bad line, where nothing was read
abbrev pub IsReadingFault : {A : Type 0} → LineFault → Option A → Type 0
IsReadingFault (Faulty k) o = (k ≡ BadLine) × (o ≡ None)
IsReadingFault Memory o = ⊤

-- the fault of a line
abbrev pub IsFault : LineFault → LineReading → Type 0
IsFault (Faulty k) r = r ≡ bad k
IsFault Memory r = ⊤

-- how parameters go on
abbrev pub IsNext : Next → List ℕ → Type 0
IsNext (Closed rest) left = (ps : List (List ℕ)) → more_parameters ps (signs left) ≡ Some (ps, signs rest.now)
IsNext (Parameter n rest) left = (length rest.now < length left) × ((ps : List (List ℕ)) → more_parameters ps (signs left) ≡ more_parameters (ps ++ n.now ∷ []) (signs rest.now))
IsNext Bad left = (ps : List (List ℕ)) → more_parameters ps (signs left) ≡ None

-- no `def NAME (`
abbrev pub IsNameless : List (List ℕ) → Type 0
IsNameless ws = heading_in ws ≡ None

-- `def`, a name and an opening bracket before the rest
abbrev pub HasHeadingName : List ℕ → List (List ℕ) → List (List ℕ) → Type 0
HasHeadingName n ws rest = heading_in ws ≡ with_parameters n (parameters_in rest)

-- what was read of a heading
abbrev pub heading_read : Head → Heading
heading_read h = record { name = h.name.now; parameters = h.parameters; body = signs h.body.now }

-- what was read of a line that is a definition
abbrev pub definition_read : Read → Definition
definition_read d = record { name = d.name.now; parameters = d.parameters; body = d.body }

-- the definition that a line is
abbrev pub IsDefinition : Read → LineReading → Type 0
IsDefinition d r = r ≡ good (definition_read d)

-- the tree of an expression, which is no higher than 128
abbrev pub IsBody : Expression → List (List ℕ) → Type 0
IsBody t ws = (read_signs ws ≡ read t) × (height t ≤ MOST_BRACKETS)

-- why there is none
abbrev pub IsNoBody : LineFault → List (List ℕ) → Type 0
IsNoBody (Faulty k) ws = (h : Heading) → with_body h (read_signs ws) ≡ bad k
IsNoBody Memory ws = ⊤
