-- Signs that lead to a value spell an expression of that value.
use Rattle.std.proofs.Common.{◌≡◌, ℕ, suc, ◌+◌, ◌-◌, ◌<◌, ◌≤◌, Bool, true, false, cond, List, [], ◌∷◌, ◌++◌, length, refl, sym, ap, ◌∙◌, subst, append_assoc, add-one, arith}
use Rattle.std.specs.Prelude.{ℤ, nat_lt, Option, Some, None, option_map, option_and_then}
use Rattle.std.proofs.lemmas.List.{append-nil}
use Rattle.std.proofs.lemmas.Option.{none-some, same_Some, option_and_then_some}
use Rattle.std.proofs.lemmas.Bool.Decides.{nat_tests}
use lib.IntN.{neg_ℤ}
use Rattle.jl_batch.specs.declared.arithmetic.Operator.{Operator}
use Rattle.jl_batch.specs.declared.arithmetic.Operator.TheVariants.{Plus, Minus, Times, Over, Modulo}
use Rattle.jl_batch.specs.declared.lexer.Lexeme.{Lexeme}
use Rattle.jl_batch.specs.declared.lexer.Lexeme.TheVariants.{Whole, Jobs, Infix, Opening, Closing}
use Rattle.jl_batch.specs.declared.parser.Pending.{Pending}
use Rattle.jl_batch.specs.declared.parser.Level.{Level}
use Rattle.jl_batch.specs.declared.parser.Reader.{Reader}
use Rattle.jl_numbers.specs.Division.{within_64}
use Rattle.jl_batch.specs.Arithmetic.{is_tight}
use Rattle.jl_batch.specs.Expressions.{Formula, whole, jobs, negation, operation, applied_to, worth_of, Kind, a_factor, a_term, a_sum, Spells, number, name, bracket, minus, factor, product, term, sum, negated}
use Rattle.jl_batch.specs.Parser.{fresh, joined, total, with_operand, with_tight, with_loose, bracket_closed, step_at, step, finished_at, read_lexemes, started}
use Rattle.jl_batch.proofs.Completeness.{waiting}

-- lexemes that spell an expression of a kind and a value
abbrev pub IsRead : Kind → ℤ → ℕ → List Lexeme → ℤ → Type 0
IsRead k n d ss v = (e : Formula) × Spells k d ss e × (worth_of n e ≡ Some v)

-- lexemes behind which any term makes a sum
abbrev SumFrom : ℤ → ℕ → List Lexeme → Option Pending → Type 0
SumFrom n r p s = (g : List Lexeme) (x v : ℤ) → IsRead a_term n r g x → joined s x ≡ Some v → IsRead a_sum n r (p ++ g) v

-- lexemes behind which any factor makes a term; the last m of them are minus signs
abbrev TermFrom : ℤ → ℕ → ℕ → List Lexeme → Option Pending → Type 0
TermFrom n r m p t = (d : ℕ) (f : List Lexeme) (x u v : ℤ) → m + d ≡ r → IsRead a_factor n d f x → negated m x ≡ Some u → joined t u ≡ Some v → IsRead a_term n r (p ++ f) v

-- the lexemes of the levels around a bracket with room r
abbrev Around : ℤ → ℕ → List Lexeme → List Level → Type 0
Around n r p [] = (p ≡ []) × (r ≡ 32)
Around n r p (l ∷ ls) = (a : List Lexeme) × (b : List Lexeme) × (c : List Lexeme) × (p ≡ a ++ (b ++ (c ++ Opening ∷ []))) × Around n l.room a ls × SumFrom n l.room b l.sum × TermFrom n l.room l.minuses c l.term × (l.minuses + suc r ≡ l.room)

-- what was read where a factor is expected
record Expects (n : ℤ) (p : List Lexeme) (s t : Option Pending) (m r : ℕ) (outer : List Level) : Type 0 where
  before : List Lexeme
  terms : List Lexeme
  factors : List Lexeme
  made : p ≡ before ++ (terms ++ factors)
  around : Around n r before outer
  sum_from : SumFrom n r terms s
  term_from : TermFrom n r m factors t
  fits : m ≤ r

-- what was read behind a factor's value
record Behind (n : ℤ) (p : List Lexeme) (s t : Option Pending) (r : ℕ) (outer : List Level) (x : ℤ) : Type 0 where
  before : List Lexeme
  terms : List Lexeme
  factors : List Lexeme
  made : p ≡ before ++ (terms ++ factors)
  around : Around n r before outer
  sum_from : SumFrom n r terms s
  a_term_here : (v : ℤ) → joined t x ≡ Some v → IsRead a_term n r factors v

abbrev ReadAt : ℤ → List Lexeme → Level → List Level → Option ℤ → Type 0
ReadAt n p l outer None = Expects n p l.sum l.term l.minuses l.room outer
ReadAt n p l outer (Some x) = Behind n p l.sum l.term l.room outer x

-- the lexemes that a reader has read
abbrev HasRead : ℤ → List Lexeme → Reader → Type 0
HasRead n p r = ReadAt n p r.level r.outer r.value

regroup : (p a b c f : List Lexeme) → p ≡ a ++ (b ++ c) → p ++ f ≡ a ++ (b ++ (c ++ f))
regroup p a b c f e = ap (λ q. q ++ f) e ∙ append_assoc a (b ++ c) f ∙ ap (λ q. a ++ q) (append_assoc b c f)

option_map_some : {A B P : Type 0} (f : A → B) (o : Option A) (y : B) → option_map f o ≡ Some y → ((x : A) → o ≡ Some x → f x ≡ y → P) → P
option_map_some f None y e k = absurd (none-some y e)
option_map_some f (Some x) y e k = k x refl (same_Some (f x) y e)

cond_then : {A P : Type 0} (b : Bool) (o : Option A) (y : A) → cond b o None ≡ Some y → (b ≡ true → o ≡ Some y → P) → P
cond_then true o y e k = k refl e
cond_then false o y e k = absurd (none-some y e)

cond_either : {A P : Type 0} (b : Bool) (o q : Option A) (y : A) → cond b o q ≡ Some y → (b ≡ true → o ≡ Some y → P) → (b ≡ false → q ≡ Some y → P) → P
cond_either true o q y e k l = k refl e
cond_either false o q y e k l = l refl e

test_lt : (a b : ℕ) → nat_lt a b ≡ true → a < b
test_lt a b h = grind (arith, nat_tests)

same_lexemes : {k : Kind} {n : ℤ} {d : ℕ} {v : ℤ} (p q : List Lexeme) → p ≡ q → IsRead k n d p v → IsRead k n d q v
same_lexemes {k} {n} {d} {v} p q e h = let P : List Lexeme → Type 0 = λ s. IsRead k n d s v in subst P e h

-- at a level in which nothing was read
sum_from_none : (n : ℤ) (r : ℕ) → SumFrom n r [] None
sum_from_none n r = λ g x v h e. (h.0, term h.1, h.2 ∙ e)

term_from_none : (n : ℤ) (r : ℕ) → TermFrom n r 0 [] None
term_from_none n r = λ d f x u v fits h neg e.
    let same : d ≡ r = omega arith in
    let P : ℕ → Type 0 = λ d'. Spells a_factor d' f h.0 in
    (h.0, factor (subst P same h.1), h.2 ∙ neg ∙ e)

-- behind a term and an operator
term_from_product : (n : ℤ) (r : ℕ) (g : List Lexeme) (v : ℤ) (op : Operator) → is_tight op ≡ true → IsRead a_term n r g v → TermFrom n r 0 (g ++ Infix op ∷ []) (waiting v op)
term_from_product n r g v op tight h = λ d f x u w fits k neg e.
    let same : d ≡ r = omega arith in
    let P : ℕ → Type 0 = λ d'. Spells a_factor d' f k.0 in
    let worth : applied_to op (worth_of n h.0) (worth_of n k.0) ≡ Some w = rw (h.2, k.2, same_Some x u neg) e in
    same_lexemes (g ++ Infix op ∷ f) ((g ++ Infix op ∷ []) ++ f) (sym (append_assoc g (Infix op ∷ []) f)) (operation op h.0 k.0, product h.1 tight (subst P same k.1), worth)

-- behind a sum and an operator
sum_from_sum : (n : ℤ) (r : ℕ) (g : List Lexeme) (v : ℤ) (op : Operator) → is_tight op ≡ false → IsRead a_sum n r g v → SumFrom n r (g ++ Infix op ∷ []) (waiting v op)
sum_from_sum n r g v op loose h = λ f x w k e.
    let worth : applied_to op (worth_of n h.0) (worth_of n k.0) ≡ Some w = rw (h.2, k.2) e in
    same_lexemes (g ++ Infix op ∷ f) ((g ++ Infix op ∷ []) ++ f) (sym (append_assoc g (Infix op ∷ []) f)) (operation op h.0 k.0, sum h.1 loose k.1, worth)

-- behind one more minus lexeme
term_from_minus : (n : ℤ) (r m : ℕ) (c : List Lexeme) (t : Option Pending) → TermFrom n r m c t → TermFrom n r (m + 1) (c ++ Infix Minus ∷ []) t
term_from_minus n r m c t from = λ d f x u v fits h neg e.
    let fits' : m + suc d ≡ r = omega arith in
    option_and_then_some (negated m) (within_64 (neg_ℤ x)) u (rw add-one at neg) (λ w gives rest.
    let worth : option_and_then (λ y. within_64 (neg_ℤ y)) (worth_of n h.0) ≡ Some w = rw h.2 gives in
    same_lexemes (c ++ Infix Minus ∷ f) ((c ++ Infix Minus ∷ []) ++ f) (sym (append_assoc c (Infix Minus ∷ []) f))
    (from (suc d) (Infix Minus ∷ f) w u v fits' (negation h.0, minus h.1, worth) rest e))

-- a factor is read
operand : (n : ℤ) (p : List Lexeme) (l : Level) (outer : List Level) (d : ℕ) (f : List Lexeme) (x : ℤ) (r' : Reader) → Expects n p l.sum l.term l.minuses l.room outer → l.minuses + d ≡ l.room → IsRead a_factor n d f x → with_operand l outer x ≡ Some r' → HasRead n (p ++ f) r'
operand n p l outer d f x r' h fits k e =
    option_map_some (λ v. record { level = record l { minuses = 0 }; outer = outer; value = Some v }) (negated l.minuses x) r' e (λ u neg same.
    let P : Reader → Type 0 = λ r. HasRead n (p ++ f) r in
    let behind : Behind n (p ++ f) l.sum l.term l.room outer u = record {
      before = h.before;
      terms = h.terms;
      factors = h.factors ++ f;
      made = regroup p h.before h.terms h.factors f h.made;
      around = h.around;
      sum_from = h.sum_from;
      a_term_here = λ v j. h.term_from d f x u v fits k neg j;
    } in
    subst P same behind)

one_more : (n : ℤ) (p : List Lexeme) (l : Level) (outer : List Level) (r' : Reader) → Expects n p l.sum l.term l.minuses l.room outer → step_at n l outer None (Infix Minus) ≡ Some r' → HasRead n (p ++ Infix Minus ∷ []) r'
one_more n p l outer r' h e =
    cond_then (nat_lt l.minuses l.room) (Some (record { level = record l { minuses = l.minuses + 1 }; outer = outer; value = None })) r' e (λ less same.
    let below : l.minuses < l.room = test_lt l.minuses l.room less in
    let P : Reader → Type 0 = λ r. HasRead n (p ++ Infix Minus ∷ []) r in
    let expects : Expects n (p ++ Infix Minus ∷ []) l.sum l.term (l.minuses + 1) l.room outer = record {
      before = h.before;
      terms = h.terms;
      factors = h.factors ++ Infix Minus ∷ [];
      made = regroup p h.before h.terms h.factors (Infix Minus ∷ []) h.made;
      around = h.around;
      sum_from = h.sum_from;
      term_from = term_from_minus n l.room l.minuses h.factors l.term h.term_from;
      fits = omega arith;
    } in
    subst P (same_Some _ r' same) expects)

opens : (n : ℤ) (p : List Lexeme) (l : Level) (outer : List Level) (r' : Reader) → Expects n p l.sum l.term l.minuses l.room outer → step_at n l outer None Opening ≡ Some r' → HasRead n (p ++ Opening ∷ []) r'
opens n p l outer r' h e =
    cond_then (nat_lt l.minuses l.room) (cond (nat_lt (length outer) 32) (Some (record { level = fresh (l.room - l.minuses - 1); outer = l ∷ outer; value = None })) None) r' e (λ less more.
    cond_then (nat_lt (length outer) 32) (Some (record { level = fresh (l.room - l.minuses - 1); outer = l ∷ outer; value = None })) r' more (λ few same.
    let below : l.minuses < l.room = test_lt l.minuses l.room less in
    let nests : l.minuses + suc (l.room - l.minuses - 1) ≡ l.room = omega arith in
    let P : Reader → Type 0 = λ r. HasRead n (p ++ Opening ∷ []) r in
    let expects : Expects n (p ++ Opening ∷ []) None None 0 (l.room - l.minuses - 1) (l ∷ outer) = record {
      before = p ++ Opening ∷ [];
      terms = [];
      factors = [];
      made = sym (append-nil (p ++ Opening ∷ []));
      around = (h.before, h.terms, h.factors, regroup p h.before h.terms h.factors (Opening ∷ []) h.made, h.around, h.sum_from, h.term_from, nests);
      sum_from = sum_from_none n (l.room - l.minuses - 1);
      term_from = term_from_none n (l.room - l.minuses - 1);
      fits = omega arith;
    } in
    subst P (same_Some _ r' same) expects))

-- the sum so far
sum_here : (n : ℤ) (p : List Lexeme) (l : Level) (outer : List Level) (x v : ℤ) (h : Behind n p l.sum l.term l.room outer x) → total l x ≡ Some v → IsRead a_sum n l.room (h.terms ++ h.factors) v
sum_here n p l outer x v h e =
    option_and_then_some (joined l.sum) (joined l.term x) v e (λ y has gives. h.sum_from h.factors y v (h.a_term_here y has) gives)

goes_on : (n : ℤ) (p : List Lexeme) (l : Level) (outer : List Level) (x : ℤ) (op : Operator) (r' : Reader) → Behind n p l.sum l.term l.room outer x → step_at n l outer (Some x) (Infix op) ≡ Some r' → HasRead n (p ++ Infix op ∷ []) r'
goes_on n p l outer x op r' h e =
    let P : Reader → Type 0 = λ r. HasRead n (p ++ Infix op ∷ []) r in
    cond_either (is_tight op) (option_map (with_tight l outer op) (joined l.term x)) (option_map (with_loose l outer op) (total l x)) r' e
    (λ tight more. option_map_some (with_tight l outer op) (joined l.term x) r' more (λ v has same.
    let expects : Expects n (p ++ Infix op ∷ []) l.sum (waiting v op) 0 l.room outer = record {
      before = h.before;
      terms = h.terms;
      factors = h.factors ++ Infix op ∷ [];
      made = regroup p h.before h.terms h.factors (Infix op ∷ []) h.made;
      around = h.around;
      sum_from = h.sum_from;
      term_from = term_from_product n l.room h.factors v op tight (h.a_term_here v has);
      fits = omega arith;
    } in
    subst P same expects))
    (λ loose more. option_map_some (with_loose l outer op) (total l x) r' more (λ v has same.
    let expects : Expects n (p ++ Infix op ∷ []) (waiting v op) None 0 l.room outer = record {
      before = h.before;
      terms = (h.terms ++ h.factors) ++ Infix op ∷ [];
      factors = [];
      made = ap (λ q. q ++ Infix op ∷ []) h.made ∙ append_assoc h.before (h.terms ++ h.factors) (Infix op ∷ []) ∙ ap (λ q. h.before ++ q) (sym (append-nil ((h.terms ++ h.factors) ++ Infix op ∷ [])));
      around = h.around;
      sum_from = sum_from_sum n l.room (h.terms ++ h.factors) v op loose (sum_here n p l outer x v h has);
      term_from = term_from_none n l.room;
      fits = omega arith;
    } in
    subst P same expects))

rejoined : (p a b c d q : List Lexeme) → p ≡ d ++ q → d ≡ a ++ (b ++ (c ++ Opening ∷ [])) → (a ++ (b ++ c)) ++ (Opening ∷ (q ++ Closing ∷ [])) ≡ p ++ Closing ∷ []
rejoined p a b c d q e f = rw (e, f) (simp append_assoc)

closes : (n : ℤ) (p : List Lexeme) (l : Level) (outer : List Level) (x v : ℤ) (r' : Reader) (h : Behind n p l.sum l.term l.room outer x) → IsRead a_sum n l.room (h.terms ++ h.factors) v → bracket_closed outer v ≡ Some r' → HasRead n (p ++ Closing ∷ []) r'
closes n p l [] x v r' h k e = absurd (none-some r' e)
closes n p l (o ∷ os) x v r' h k e =
    let (a, b, c, made, around, sum_from, term_from, nests) = h.around in
    let P : List Lexeme → Type 0 = λ s. HasRead n s r' in
    let fits' : o.minuses ≤ o.room = omega arith in
    let expects : Expects n (a ++ (b ++ c)) o.sum o.term o.minuses o.room os = record {
      before = a;
      terms = b;
      factors = c;
      made = refl;
      around = around;
      sum_from = sum_from;
      term_from = term_from;
      fits = fits';
    } in
    subst P (rejoined p a b c h.before (h.terms ++ h.factors) h.made made)
    (operand n (a ++ (b ++ c)) o os (suc l.room) (Opening ∷ ((h.terms ++ h.factors) ++ Closing ∷ [])) v r' expects nests (k.0, bracket k.1, k.2) e)

-- after one more lexeme
steps : (n : ℤ) (p : List Lexeme) (l : Level) (outer : List Level) (value : Option ℤ) (s : Lexeme) (r' : Reader) → ReadAt n p l outer value → step_at n l outer value s ≡ Some r' → HasRead n (p ++ s ∷ []) r'
steps n p l outer None (Whole z) r' h e = operand n p l outer (l.room - l.minuses) (Whole z ∷ []) z r' h (let f : l.minuses ≤ l.room = h.fits in omega arith) (whole z, number, refl) e
steps n p l outer None Jobs r' h e = operand n p l outer (l.room - l.minuses) (Jobs ∷ []) n r' h (let f : l.minuses ≤ l.room = h.fits in omega arith) (jobs, name, refl) e
steps n p l outer None (Infix Minus) r' h e = one_more n p l outer r' h e
steps n p l outer None (Infix Plus) r' h e = absurd (none-some r' e)
steps n p l outer None (Infix Times) r' h e = absurd (none-some r' e)
steps n p l outer None (Infix Over) r' h e = absurd (none-some r' e)
steps n p l outer None (Infix Modulo) r' h e = absurd (none-some r' e)
steps n p l outer None Opening r' h e = opens n p l outer r' h e
steps n p l outer None Closing r' h e = absurd (none-some r' e)
steps n p l outer (Some x) (Whole z) r' h e = absurd (none-some r' e)
steps n p l outer (Some x) Jobs r' h e = absurd (none-some r' e)
steps n p l outer (Some x) (Infix op) r' h e = goes_on n p l outer x op r' h e
steps n p l outer (Some x) Opening r' h e = absurd (none-some r' e)
steps n p l outer (Some x) Closing r' h e =
    option_and_then_some (bracket_closed outer) (total l x) r' e (λ v has gives. closes n p l outer x v r' h (sum_here n p l outer x v h has) gives)

ends : (n : ℤ) (p : List Lexeme) (l : Level) (outer : List Level) (value : Option ℤ) (v : ℤ) → ReadAt n p l outer value → finished_at l outer value ≡ Some v → IsRead a_sum n 32 p v
ends n p l outer None v h e = absurd (none-some v e)
ends n p l [] (Some x) v h e =
    let P : ℕ → Type 0 = λ r. IsRead a_sum n r p v in
    let whole_text : h.terms ++ h.factors ≡ p = sym (h.made ∙ ap (λ q. q ++ (h.terms ++ h.factors)) h.around.0) in
    subst P h.around.1 (same_lexemes (h.terms ++ h.factors) p whole_text (sum_here n p l [] x v h e))
ends n p l (o ∷ os) (Some x) v h e = absurd (none-some v e)

reads : (n : ℤ) (ss p : List Lexeme) (r : Reader) (v : ℤ) → HasRead n p r → read_lexemes n r ss ≡ Some v → IsRead a_sum n 32 (p ++ ss) v
reads n [] p r v h e = same_lexemes p (p ++ []) (sym (append-nil p)) (ends n p r.level r.outer r.value v h e)
reads n (s ∷ ss) p r v h e =
    option_and_then_some (λ r'. read_lexemes n r' ss) (step n r s) v e (λ r' stepped more.
    same_lexemes ((p ++ s ∷ []) ++ ss) (p ++ s ∷ ss) (append_assoc p (s ∷ []) ss)
    (reads n ss (p ++ s ∷ []) r' v (steps n p r.level r.outer r.value s r' h stepped) more))

-- lexemes that lead to a value spell an expression of that value
pub sound : (n : ℤ) (ss : List Lexeme) (v : ℤ) → read_lexemes n started ss ≡ Some v → IsRead a_sum n 32 ss v
sound n ss v e =
    let expects : Expects n [] None None 0 32 [] = record {
      before = [];
      terms = [];
      factors = [];
      made = refl;
      around = (refl, refl);
      sum_from = sum_from_none n 32;
      term_from = term_from_none n 32;
      fits = omega arith;
    } in
    reads n ss [] started v expects e
