use Rattle.std.proofs.Common.{◌≡◌, ◌∷◌, ◌++◌, [], None, Some, false, sym, ◌∙◌, ap, subst}
use Rattle.std.specs.List.{list_any}
use Rattle.std.specs.Str.{bytes_eq}
use Rattle.std.specs.Prelude.{IsTrue}
use Rattle.jl_text.specs.Paths.{is_part}
use Rattle.jl_folder.specs.declared.listing.Name.{Name}
use Rattle.jl_memory.specs.Tables.{found}
use Rattle.jl_memory.specs.Children.{IsChild}
use Rattle.jl_memory.proofs.ChildLemmas.{ChildrenSoFar-none, ChildrenSoFar-kept, ChildrenSoFar-more, held_already, part_same, untold}
use Rattle.jl_memory.proofs.children.children.Goals as goal
use Rattle.jl_memory.proofs.children.children.Goals.{in-Some+then-not-has_name+in-Some-place_of+in_ok-part+in_ok-push, in-Some+then-not-has_name+in_default-place_of, in-Some+else-not-has_name, in_default}

pub loop-entry-init : goal.loop-entry-init
loop-entry-init c = ChildrenSoFar-none c.args.places.now c.args.path.now c.new-names.result.items c.new-names.ensures.items

pub loop-entry-preserved : goal.loop-entry-preserved
loop-entry-preserved c =
    let places = c.args.places.now in
    let path = c.args.path.now in
    let before = c.loop-entry.names.items in
    let x = c.entry-item.result in
    elim c.match-child_part.branch [
      | in-Some+then-not-has_name+in-Some-place_of+in_ok-part+in_ok-push w ↦
          let n : Name = record { part = w.in_ok-part.part; folder = w.is_folder-folder.result } in
          let part_is : n.part ≡ w.in-Some.part.now = w.in_ok-part.ensures in
          let below : IsChild x.0 path n.part = subst (IsChild x.0 path) (sym part_is) w.in-Some.ensures.below in
          let told : found places (path ++ n.part ∷ []) ≡ Some w.in-Some-place_of.place =
          ap (found places) (sym below.path) ∙ ap (found places) (sym w.parts.ensures.same) ∙ sym w.place_of.ensures ∙ w.in-Some-place_of.is in
          let fresh : list_any (λ m. bytes_eq n.part m.part) before ≡ false =
          ap (λ t. list_any (λ m. bytes_eq t m.part) before) part_is ∙ ap (list_any (λ m. bytes_eq w.in-Some.part.now m.part)) (sym w.as_slice.ensures.value) ∙ sym w.has_name.ensures ∙ w.if-not-has_name.true in
          ChildrenSoFar-more places path before c.match-child_part.names.items n c.loop-entry.entry-index x c.loop-entry-test.true c.entry-item.is (ap (λ v. v.items) w.names-is ∙ w.in_ok-push.ensures.items) (subst (λ t. IsTrue (is_part t)) (sym part_is) w.in-Some.ensures.part)
          (record { place = w.in-Some-place_of.place; found_is = told; kind = sym w.is_folder-folder.ensures; named = below.named }) below fresh c.loop-entry.invariant
      | in-Some+then-not-has_name+in_default-place_of w ↦
          let nothing : found places x.0 ≡ None = ap (found places) (sym w.parts.ensures.same) ∙ sym w.place_of.ensures ∙ w.in_default-place_of.is in
          ChildrenSoFar-kept places path before c.match-child_part.names.items c.loop-entry.entry-index x c.loop-entry-test.true c.entry-item.is (ap (λ v. v.items) w.names-is)
          (λ name stands below. absurd (untold places path x.0 name nothing stands below)) c.loop-entry.invariant
      | in-Some+else-not-has_name w ↦
          ChildrenSoFar-kept places path before c.match-child_part.names.items c.loop-entry.entry-index x c.loop-entry-test.true c.entry-item.is (ap (λ v. v.items) w.names-is)
          (λ name stands below. held_already places path before w.in-Some.part.now c.loop-entry.invariant.each
          (ap (list_any (λ m. bytes_eq w.in-Some.part.now m.part)) (sym w.as_slice.ensures.value) ∙ sym w.has_name.ensures ∙ w.if-not-has_name.false) name stands (part_same x.0 path name.part w.in-Some.part.now below w.in-Some.ensures.below)) c.loop-entry.invariant
      | in_default w ↦
          ChildrenSoFar-kept places path before c.match-child_part.names.items c.loop-entry.entry-index x c.loop-entry-test.true c.entry-item.is (ap (λ v. v.items) w.names-is)
          (λ name stands below. absurd (w.in_default.ensures.apart name.part below)) c.loop-entry.invariant
    ]
