-- Paths as lists of parts. A path from the topmost folder begins with an empty part:
-- `.` is [], `/` is [[]], `a/b` is [a, b] and `/a` is [[], a].
use Rattle.std.specs.Prelude.{ℕ, ◌-◌, ◌+◌, List, [], ◌∷◌, ◌++◌, Bool, true, false, ◌&&◌, ◌||◌, ◌==◌, not, nat_lt, nat_eq, length, take, filter, cond, Option, None, IsTrue}
use Rattle.std.specs.List.{list_all, list_any, slice_split, slice_get}
use Rattle.std.specs.Str.{bytes_eq}
use Rattle.std.specs.Cmp.Lexicographic.{pointwise}
use Rattle.jl_text.specs.declared.limits.TheConstants.{MOST_PATH_BYTES}

-- the parts, each a list of bytes
abbrev pub PathView : Type 0
PathView = List (List ℕ)

-- whether two paths are one
abbrev pub path_eq : PathView → PathView → Bool
path_eq = pointwise bytes_eq

-- the current folder and the topmost, which have no parent
abbrev pub is_fixed : PathView → Bool
is_fixed [] = true
is_fixed (p ∷ ps) = nat_eq (length p + length ps) 0

-- the path without its last part: the parent of a path that is not fixed
abbrev pub parent : PathView → PathView
parent p = take (length p - 1) p

-- a part that a path keeps
abbrev pub is_kept : List ℕ → Bool
is_kept part = not (bytes_eq part []) && not (bytes_eq part (46 ∷ []))

-- a part that can stand in a path: not empty, not `.` or `..`, with no slash and no zero byte
abbrev pub is_part : List ℕ → Bool
is_part part = is_kept part && (not (bytes_eq part (46 ∷ 46 ∷ [])) && (not (list_any (λ b. b == 47) part) && not (list_any (λ b. nat_eq b 0) part)))

-- parts of which only the first may be empty
abbrev pub is_path : PathView → Bool
is_path [] = true
is_path (p ∷ ps) = (nat_eq (length p) 0 || is_part p) && list_all is_part ps

-- what each path is
abbrev pub IsPath : PathView → Type 0
IsPath p = IsTrue (is_path p)

-- the last part; the current folder and the topmost have none
abbrev pub last_part : PathView → Option (List ℕ)
last_part p = cond (is_fixed p) None (slice_get p (length p - 1))

-- a text whose first byte is a slash
abbrev pub begins_at_top : List ℕ → Bool
begins_at_top [] = false
begins_at_top (b ∷ bs) = nat_eq b 47

-- what stands between the slashes of a text
abbrev pub pieces : List ℕ → PathView
pieces text = slice_split (λ b. b == 47) text

-- the path that a text spells
abbrev pub path_of : List ℕ → PathView
path_of text = cond (begins_at_top text) ([] ∷ []) [] ++ filter is_kept (pieces text)

-- a text that is no path: empty, longer than 4,096 bytes, with a zero byte or a part `..`
abbrev pub is_bad : List ℕ → Bool
is_bad text = nat_eq (length text) 0 || (nat_lt MOST_PATH_BYTES (length text) || (list_any (λ b. nat_eq b 0) text || list_any (λ p. bytes_eq p (46 ∷ 46 ∷ [])) (pieces text)))

-- each part behind a slash
abbrev pub behind_slashes : PathView → List ℕ
behind_slashes [] = []
behind_slashes (q ∷ qs) = 47 ∷ (q ++ behind_slashes qs)

-- the text of a path
abbrev pub text_of : PathView → List ℕ
text_of [] = 46 ∷ []
text_of (p ∷ ps) = cond (nat_eq (length p + length ps) 0) (47 ∷ []) (p ++ behind_slashes ps)
