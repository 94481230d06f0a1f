-- How the logic stores what waits for an operand.
use Rattle.std.specs.Prelude.{◌≡◌, ℕ, zero, suc, List, [], ◌∷◌, refl}
use Rattle.std.specs.Coded.{Coded, code_by, coded×, coded_ℕ, coded_list}
use Rattle.jl_grammar.specs.Frames.{Frame, Bracket, Behind, Operand, Condition, Otherwise, Element, Member, Bound, Listed, Keyed, Source, Filter}
use Rattle.jl_lexer.specs.Trees.{Expression}
use Rattle.jl_lexer.specs.Codes.{coded_expressions, coded_entries, operator_number, operator_at, operator_back, prefix_number, prefix_at, prefix_back, function_number, function_at, function_back}
use Rattle.std.proofs.Common.{ap}

-- a tag, the number of an operator, the expressions, a word, and the entries of a table
abbrev Parts : Type 0
Parts = ℕ × (ℕ × (List Expression × (List ℕ × List (List ℕ × Expression))))

abbrev pub parts_of : Frame → Parts
parts_of Bracket = (0, (0, ([], ([], []))))
parts_of (Behind p) = (1, (prefix_number p, ([], ([], []))))
parts_of (Operand o a) = (2, (operator_number o, (a ∷ [], ([], []))))
parts_of (Condition a) = (3, (0, (a ∷ [], ([], []))))
parts_of (Otherwise a c) = (4, (0, (a ∷ c ∷ [], ([], []))))
parts_of (Element a) = (5, (0, (a ∷ [], ([], []))))
parts_of (Member f) = (6, (function_number f, ([], ([], []))))
parts_of (Bound a) = (7, (0, (a ∷ [], ([], []))))
parts_of (Listed es) = (8, (0, (es, ([], []))))
parts_of (Keyed es k) = (9, (0, ([], (k, es))))
parts_of (Source e x) = (10, (0, (e ∷ [], (x, []))))
parts_of (Filter e x a) = (11, (0, (e ∷ a ∷ [], (x, []))))

abbrev pub made_of : ℕ → ℕ → List Expression → List ℕ → List (List ℕ × Expression) → Frame
made_of zero n es w ps = Bracket
made_of (suc zero) n es w ps = Behind (prefix_at n)
made_of (suc (suc zero)) n (a ∷ es) w ps = Operand (operator_at n) a
made_of (suc (suc (suc zero))) n (a ∷ es) w ps = Condition a
made_of (suc (suc (suc (suc zero)))) n (a ∷ c ∷ es) w ps = Otherwise a c
made_of (suc (suc (suc (suc (suc zero))))) n (a ∷ es) w ps = Element a
made_of (suc (suc (suc (suc (suc (suc zero)))))) n es w ps = Member (function_at n)
made_of (suc (suc (suc (suc (suc (suc (suc zero))))))) n (a ∷ es) w ps = Bound a
made_of (suc (suc (suc (suc (suc (suc (suc (suc zero)))))))) n es w ps = Listed es
made_of (suc (suc (suc (suc (suc (suc (suc (suc (suc zero))))))))) n es w ps = Keyed ps w
made_of (suc (suc (suc (suc (suc (suc (suc (suc (suc (suc zero)))))))))) n (a ∷ es) w ps = Source a w
made_of (suc (suc (suc (suc (suc (suc (suc (suc (suc (suc (suc m))))))))))) n (a ∷ c ∷ es) w ps = Filter a w c
made_of _ _ _ _ _ = Bracket

abbrev back_from : Parts → Frame
back_from p = made_of p.0 p.1.0 p.1.1.0 p.1.1.1.0 p.1.1.1.1

pub made_back : (f : Frame) → back_from (parts_of f) ≡ f
made_back Bracket = refl
made_back (Behind p) = ap Behind (prefix_back p)
made_back (Operand o a) = ap (λ o. Operand o a) (operator_back o)
made_back (Condition a) = refl
made_back (Otherwise a c) = refl
made_back (Element a) = refl
made_back (Member f) = ap Member (function_back f)
made_back (Bound a) = refl
made_back (Listed es) = refl
made_back (Keyed es k) = refl
made_back (Source e x) = refl
made_back (Filter e x a) = refl

abbrev pub coded_frame : Coded Frame
coded_frame = code_by Parts (coded× coded_ℕ (coded× coded_ℕ (coded× coded_expressions (coded× (coded_list coded_ℕ) coded_entries)))) parts_of back_from made_back

abbrev pub coded_frames : Coded (List Frame)
coded_frames = coded_list coded_frame
