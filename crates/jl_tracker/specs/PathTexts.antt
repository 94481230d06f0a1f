-- The texts of paths.
use Rattle.std.specs.Prelude.{◌≡◌, ℕ, ◌≤◌, List, [], ◌∷◌, Bool, ◌&&◌, ◌||◌, nat_eq, nat_lt, not, cond, length}
use Rattle.std.specs.List.{list_all}
use Rattle.std.specs.Str.{bytes_eq}
use Rattle.jl_text.specs.declared.limits.TheConstants.{MOST_PATH_BYTES}
use Rattle.jl_text.specs.Paths.{PathView, IsPath, is_part, pieces, text_of}

-- the text of a path, as long as a path's text may be
pub record IsPathText (text : List ℕ) : Type 0 where
  pub path : PathView
  pub is_path : IsPath path
  pub text_is : text ≡ text_of path
  pub short : length text ≤ MOST_PATH_BYTES

-- a text without the slash that it may begin with
abbrev pub behind_slash : List ℕ → List ℕ
behind_slash [] = []
behind_slash (b ∷ bs) = cond (nat_eq b 47) bs (b ∷ bs)

-- what is tested of such a text: it is `.` or `/`, or what stands between its slashes are parts
abbrev pub is_spelled : List ℕ → Bool
is_spelled text = not (nat_lt MOST_PATH_BYTES (length text)) && (bytes_eq text (46 ∷ []) || (bytes_eq text (47 ∷ []) || list_all is_part (pieces (behind_slash text))))
