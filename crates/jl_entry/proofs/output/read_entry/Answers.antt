-- What a reader finds in the bytes of an output, for the code and the arguments of a head.
use Rattle.std.proofs.Common.{◌≡◌, ℕ, List, string_bytes, sym, ap, ◌∙◌, subst, arith}
use Rattle.jl_value.specs.Tree.{Tree}
use Rattle.jl_value.specs.Form.{tree_of}
use Rattle.jl_value.specs.Proper.{IsProper}
use Rattle.jl_value.proofs.Nests.{read_bytes_nests}
use Rattle.jl_entry.specs.Entry.{entry_text, entry_tree, IsEntryOf}
use Rattle.jl_entry.proofs.Entries.{no_entry, same_tree, unequal, equal, unlike, entry_nesting}
use Rattle.jl_entry.proofs.Heads.{headed, both_entries}
use Rattle.jl_entry.proofs.output.read_entry.Goals as goal

pub returns-in_default : goal.returns-in_default
returns-in_default c = λ code ps h. no_entry c.args.bytes.now c.in-Err.fault (c.in-Err.ensures.fault c.in_default.not-Memory)

pub returns-in_default-find_parts : goal.returns-in_default-find_parts
returns-in_default-find_parts c = λ code ps h k.
    c.in_default-find_parts.ensures.found k.0 k.1 k.2 (same_tree c.args.bytes.now k.0 k.1 k.2 (tree_of c.in-Ok.whole) c.in-Ok.ensures.ok k.3)

pub returns-then-ne : goal.returns-then-ne
returns-then-ne c = λ code ps h k.
    let f = c.in-Some.ensures.found k.0 k.1 k.2 (same_tree c.args.bytes.now k.0 k.1 k.2 (tree_of c.in-Ok.whole) c.in-Ok.ensures.ok k.3) in
    let text : string_bytes c.in-Ok-entry.text ≡ entry_text k.0 k.1 k.2 = c.in-Ok-entry.ensures.text ∙ (λ i. entry_text ((c.as_str.ensures ∙ f.1) i) (f.0 i) (f.2 i)) in
    unequal c.as_bytes.result.now c.args.bytes.now c.ne.result c.ne.ensures c.if-ne.true (c.as_bytes.ensures.value ∙ text ∙ sym k.3.text)

pub returns-in-Ok-false : goal.returns-in-Ok-false
returns-in-Ok-false c = λ code ps h.
    let bytes = c.args.bytes.now in
    let u = tree_of c.in-Ok.whole in
    let p = c.in-Some.found in
    let v = tree_of p.value.now in
    let text : bytes ≡ entry_text p.code.now p.args.now v =
    sym (equal c.as_bytes.result.now bytes c.ne.result c.ne.ensures c.if-ne.false) ∙ c.as_bytes.ensures.value ∙ c.in-Ok-entry.ensures.text ∙ ap (λ s. entry_text s p.args.now v) c.as_str.ensures in
    let proper : IsProper (entry_tree p.code.now p.args.now v) = subst (λ (s : List ℕ). IsProper (entry_tree s p.args.now v)) c.as_str.ensures c.in-Ok-entry.ensures.proper in
    let deep = read_bytes_nests 70 bytes u c.in-Ok.ensures.ok in
    let shallow = entry_nesting p.code.now p.args.now v 70 (omega (arith, c.in-Some.ensures.shallow.0)) (omega (arith, c.in-Some.ensures.shallow.1)) in (
      (p.code.now, p.args.now, v, record { text = text; proper = proper; shallow = shallow }),
      λ t k.
          (let f = c.in-Some.ensures.found code ps t (same_tree bytes code ps t u c.in-Ok.ensures.ok k) in
          unlike _ bytes (sym c.in-Ok-false.ensures.same ∙ c.in-Ok-false.field-0-test) (headed c.args.head.now code ps v t h f.2 ∙ sym k.text)),
    )

pub returns-in-Some-last_value : goal.returns-in-Some-last_value
returns-in-Some-last_value c = λ code ps h.
    let bytes = c.args.bytes.now in
    let u = tree_of c.in-Ok.whole in
    let p = c.in-Some.found in
    let v = tree_of p.value.now in
    let text : bytes ≡ entry_text p.code.now p.args.now v =
    sym (equal c.as_bytes.result.now bytes c.ne.result c.ne.ensures c.if-ne.false) ∙ c.as_bytes.ensures.value ∙ c.in-Ok-entry.ensures.text ∙ ap (λ s. entry_text s p.args.now v) c.as_str.ensures in
    let proper : IsProper (entry_tree p.code.now p.args.now v) = subst (λ (s : List ℕ). IsProper (entry_tree s p.args.now v)) c.as_str.ensures c.in-Ok-entry.ensures.proper in
    let deep = read_bytes_nests 70 bytes u c.in-Ok.ensures.ok in
    let shallow = entry_nesting p.code.now p.args.now v 70 (omega (arith, c.in-Some.ensures.shallow.0)) (omega (arith, c.in-Some.ensures.shallow.1)) in
    let entry : IsEntryOf bytes p.code.now p.args.now v = record { text = text; proper = proper; shallow = shallow } in
    let fact = both_entries bytes c.args.head.now code p.code.now ps p.args.now v h c.in-Ok-true.ensures.proper entry (sym c.in-Ok-true.ensures.same ∙ c.in-Ok-true.field-0-test) in
    let found = c.in-Some-last_value.ensures code ps v (same_tree bytes code ps v u c.in-Ok.ensures.ok fact) in
    subst (λ (t : Tree). IsEntryOf bytes code ps t) (sym found) fact

pub returns : goal.returns
returns c = λ code ps h any.
    let bytes = c.args.bytes.now in
    let u = tree_of c.in-Ok.whole in
    let p = c.in-Some.found in
    let v = tree_of p.value.now in
    let text : bytes ≡ entry_text p.code.now p.args.now v =
    sym (equal c.as_bytes.result.now bytes c.ne.result c.ne.ensures c.if-ne.false) ∙ c.as_bytes.ensures.value ∙ c.in-Ok-entry.ensures.text ∙ ap (λ s. entry_text s p.args.now v) c.as_str.ensures in
    let proper : IsProper (entry_tree p.code.now p.args.now v) = subst (λ (s : List ℕ). IsProper (entry_tree s p.args.now v)) c.as_str.ensures c.in-Ok-entry.ensures.proper in
    let deep = read_bytes_nests 70 bytes u c.in-Ok.ensures.ok in
    let shallow = entry_nesting p.code.now p.args.now v 70 (omega (arith, c.in-Some.ensures.shallow.0)) (omega (arith, c.in-Some.ensures.shallow.1)) in
    let entry : IsEntryOf bytes p.code.now p.args.now v = record { text = text; proper = proper; shallow = shallow } in
    let fact = both_entries bytes c.args.head.now code p.code.now ps p.args.now v h c.in-Ok-true.ensures.proper entry (sym c.in-Ok-true.ensures.same ∙ c.in-Ok-true.field-0-test) in
    c.in-None.ensures code ps v (same_tree bytes code ps v u c.in-Ok.ensures.ok fact)
