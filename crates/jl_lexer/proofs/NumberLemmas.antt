-- How numbers grow by their digits.
use Rattle.std.proofs.Common.{◌≡◌, ℕ, suc, ◌+◌, ◌-◌, ◌*◌, ◌^◌, ◌<◌, ◌≤◌, false, List, [], ◌∷◌, length, get_or, drop, drop-cons, ap, arith}
use Rattle.std.specs.Prelude.{nat_lt}
use Rattle.jl_lexer.specs.Words.{number_behind}

pub number_grows : (n : ℕ) (ds : List ℕ) → n ≤ number_behind n ds
number_grows n [] = omega arith
number_grows n (d ∷ ds) = let later = number_grows (n * 10 + (d - 48)) ds in omega arith

pub number_step : (w : List ℕ) (v i : ℕ) → i < length w → number_behind v (drop i w) ≡ number_behind (v * 10 + (get_or w i 0 - 48)) (drop (suc i) w)
number_step w v i h = ap (number_behind v) (drop-cons w i 0 h)

pub not_lt : (a b : ℕ) → b ≤ a → nat_lt a b ≡ false
not_lt a b h = grind arith

-- one more digit behind a number over 2 ^ 63 / 10
pub over_before : (w : List ℕ) (v i : ℕ) → i < length w → number_behind v (drop i w) ≡ number_behind 0 w → 922337203685477580 < v → nat_lt (number_behind 0 w) (2 ^ 63) ≡ false
over_before w v i h same large =
    let grown = number_grows (v * 10 + (get_or w i 0 - 48)) (drop (suc i) w) in
    let step = number_step w v i h in
    not_lt _ _ (omega arith)

pub over_behind : (w : List ℕ) (v i : ℕ) → i < length w → number_behind v (drop i w) ≡ number_behind 0 w → 2 ^ 63 ≤ v * 10 + (get_or w i 0 - 48) → nat_lt (number_behind 0 w) (2 ^ 63) ≡ false
over_behind w v i h same large =
    let grown = number_grows (v * 10 + (get_or w i 0 - 48)) (drop (suc i) w) in
    let step = number_step w v i h in
    not_lt _ _ (omega arith)
