-- When two paths are one.
use Rattle.std.proofs.Common.{◌≡◌, true, refl}
use Rattle.std.specs.Bool.{Decides}
use Rattle.std.proofs.lemmas.Slice.Eq.{slice_eq-Decides, bytes_eq-Decides}
use Rattle.jl_text.specs.Paths.{PathView, path_eq}

pub path_eq-Decides : (p q : PathView) → Decides (path_eq p q) (p ≡ q)
path_eq-Decides p q = slice_eq-Decides bytes_eq-Decides p q _ refl

pub path_eq-same : (p : PathView) → path_eq p p ≡ true
path_eq-same p = (path_eq-Decides p p).1 refl
