-- What stands behind an opening bracket, by how many members there are.
use Rattle.std.proofs.Common.{◌≡◌, ℕ, suc, true, false, List, [], ◌∷◌, length, refl, arith}
use Rattle.std.specs.Prelude.{nat_eq}
use Rattle.jl_grammar.specs.Frames.{Frame, Listed}
use Rattle.jl_grammar.specs.declared.mode.Mode.TheVariants.{HasOperand, WantsVariable}
use Rattle.jl_lexer.specs.Marks.{is_mark}
use Rattle.jl_lexer.specs.Trees.{Expression, list, table, members_of, entries_of, kept}
use Rattle.jl_grammar.specs.Parser.{going, bad, at_empty_close, at_for, at_empty_table}

pub emptied_none : (es : List Expression) (fs : List Frame) → nat_eq (length es) 0 ≡ true → at_empty_close (Listed es ∷ fs) ≡ going fs (HasOperand (kept (list (members_of es))))
emptied_none [] fs h = refl
emptied_none (e ∷ es) fs h = let none : suc (length es) ≡ 0 = grind arith in absurd (omega arith)

pub emptied_some : (es : List Expression) (fs : List Frame) → nat_eq (length es) 0 ≡ false → at_empty_close (Listed es ∷ fs) ≡ bad
emptied_some [] fs h = absurd (cc)
emptied_some (e ∷ es) fs h = refl

pub looped_none : (es : List Expression) (fs : List Frame) (e : Expression) → nat_eq (length es) 0 ≡ true → at_for (Listed es ∷ fs) e ≡ going fs (WantsVariable e)
looped_none [] fs e h = refl
looped_none (a ∷ es) fs e h = let none : suc (length es) ≡ 0 = grind arith in absurd (omega arith)

pub looped_some : (es : List Expression) (fs : List Frame) (e : Expression) → nat_eq (length es) 0 ≡ false → at_for (Listed es ∷ fs) e ≡ bad
looped_some [] fs e h = absurd (cc)
looped_some (a ∷ es) fs e h = refl

pub no_key_none : (fs : List Frame) (ps : List (List ℕ × Expression)) (w : List ℕ) → nat_eq (length ps) 0 ≡ true → is_mark 125 w ≡ true → at_empty_table fs ps w ≡ going fs (HasOperand (kept (table (entries_of ps))))
no_key_none fs [] w h k = rw k
no_key_none fs (p ∷ ps) w h k = let none : suc (length ps) ≡ 0 = grind arith in absurd (omega arith)

pub no_key_some : (fs : List Frame) (ps : List (List ℕ × Expression)) (w : List ℕ) → nat_eq (length ps) 0 ≡ false → at_empty_table fs ps w ≡ bad
no_key_some fs [] w h = absurd (cc)
no_key_some fs (p ∷ ps) w h = refl

pub no_key_other : (fs : List Frame) (ps : List (List ℕ × Expression)) (w : List ℕ) → is_mark 125 w ≡ false → at_empty_table fs ps w ≡ bad
no_key_other fs [] w h = rw h
no_key_other fs (p ∷ ps) w h = refl

-- for `grind`
pub ruleset empty_laws = (emptied_none, emptied_some, looped_none, looped_some, no_key_none, no_key_some, no_key_other)
