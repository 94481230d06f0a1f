use Rattle.std.proofs.Common.{◌≡◌, ℕ, suc, ◌-◌, ◌<◌, ◌≤◌, get_or, string_bytes, append_assoc, append-nil, List, [], ◌∷◌, ◌++◌, length, sym, ap, ap₂, ◌∙◌, subst, arith}
use Rattle.std.proofs.lemmas.Result.{IfOk-weaker, MatchResult-weaker}
use Rattle.serde_json.specs.Find.{get}
use Rattle.serde_json.specs.View.{view}
use Rattle.serde_json.proofs.Views.{Entry, view-Object}
use Rattle.std.specs.Str.{IsUtf8}
use Rattle.serde_json.specs.declared.value.Value as J
use Rattle.jl_value.specs.Canonical.{array_key}
use Rattle.jl_value.specs.Tree.{Tree, members_of}
use Rattle.jl_value.specs.Reading.{walk, array_within}
use Rattle.jl_value.specs.Walked.{array_among}
use Rattle.jl_value.specs.Proper.{HasProper, AreKeys, keys}
use Rattle.jl_value.proofs.Keys.{keys_entries}
use Rattle.jl_value.proofs.Walks.{item_step, item_end, proper_push, member_step, member_end, has_proper_push, keys_push, names, names_push, keys_are, no_key, object_walk}
use Rattle.jl_value.proofs.reading.+walk.Goals as goal

pub walk-returns-in_ok-found-in-None-get-clause-proper : goal.walk-returns-in_ok-found-in-None-get-clause-proper
walk-returns-in_ok-found-in-None-get-clause-proper t c =
    let es = c.in-Object.members.entries in
    let found = c.in_ok-found-in-None-get.found.items in
    let is_object = ap view c.in-Object.is ∙ view-Object c.in-Object.members in
    let free = no_key es (c.in-None-get.ensures ∙ ap (get array_key) is_object) in
    let all = subst AreKeys (sym (keys_entries found)) (c.in_ok-found-in-None-get.ensures.keys free) in
    subst (λ (ps : List (List ℕ × Tree)). AreKeys (keys (members_of ps)) × HasProper (members_of ps)) (sym c.from_sorted.ensures) (all, c.in_ok-found-in-None-get.ensures.proper)

pub walk-returns-in-Some-get-clause-ok : goal.walk-returns-in-Some-get-clause-ok
walk-returns-in-Some-get-clause-ok t c =
    let es = c.in-Object.members.entries in
    let d = view c.in-Some-get.array.now in
    let is_object = ap view c.in-Object.is ∙ view-Object c.in-Object.members in
    let at : c.args.depth ≡ suc (c.args.depth - 1) = omega arith in
    let whole = ap₂ walk at is_object ∙ object_walk (c.args.depth - 1) es d (c.in-Some-get.ensures ∙ ap (get array_key) is_object) ∙ ap (λ n. array_within (c.args.depth - 1) (array_among n d)) (sym c.len.ensures.len) in
    IfOk-weaker c.walk_array.result _ _ (λ v e. whole ∙ e) c.walk_array.ensures.ok

pub walk-returns-in-Some-get-clause-fault : goal.walk-returns-in-Some-get-clause-fault
walk-returns-in-Some-get-clause-fault t c =
    let es = c.in-Object.members.entries in
    let d = view c.in-Some-get.array.now in
    let is_object = ap view c.in-Object.is ∙ view-Object c.in-Object.members in
    let at : c.args.depth ≡ suc (c.args.depth - 1) = omega arith in
    let whole = ap₂ walk at is_object ∙ object_walk (c.args.depth - 1) es d (c.in-Some-get.ensures ∙ ap (get array_key) is_object) ∙ ap (λ n. array_within (c.args.depth - 1) (array_among n d)) (sym c.len.ensures.len) in
    MatchResult-weaker c.walk_array.result c.walk_array.ensures.fault (λ v p. p) (λ e p other. whole ∙ p other)

pub walk_items-loop-item-preserved : goal.walk_items-loop-item-preserved
walk_items-loop-item-preserved t c =
    let xs = c.args.items.now.items in
    let i = c.loop-item.item-index in
    let x = c.item-item.result in
    let within : i < length xs = subst (λ (l : List J.Value). i < length l) c.deref-item-items.ensures.value c.loop-item-test.true in
    let is : x ≡ get_or xs i x = c.item-item.is ∙ ap (λ l. get_or l i x) c.deref-item-items.ensures.value in
    rw c.in_ok-push.ensures.items (
      item_step c.args.depth c.loop-item.found.items c.in_ok-walk.field-0 xs i x _ within is c.in_ok-walk.ensures.ok c.loop-item.invariant.0,
      proper_push c.loop-item.found.items c.in_ok-walk.field-0 c.loop-item.invariant.1 c.in_ok-walk.ensures.proper,
    )

pub walk_items-returns-clause-ok : goal.walk_items-returns-clause-ok
walk_items-returns-clause-ok t c =
    let over : length c.args.items.now.items ≤ c.loop-item.item-index = subst (λ (l : List J.Value). length l ≤ c.loop-item.item-index) c.deref-item-items.ensures.value c.loop-item-test.false in
    item_end c.args.depth c.loop-item.found.items _ c.loop-item.item-index _ over c.loop-item.invariant.0

pub walk_members-loop-key-preserved : goal.walk_members-loop-key-preserved
walk_members-loop-key-preserved t c =
    let inv = c.loop-key.invariant in
    let found = c.loop-key.found.items in
    let e : Entry = (c.in-Some.key.now, c.in-Some.member.now) in
    let left = c.next.new.self in
    let n : List ℕ = c.new-name.result in
    let v = c.in_ok-value.value in
    let named : n ≡ string_bytes e.0 = c.new-name.ensures ∙ c.in_ok-from_str.ensures.ok ∙ c.as_str.ensures.value in
    let utf8 : IsUtf8 n = subst IsUtf8 (sym (c.new-name.ensures ∙ c.in_ok-from_str.ensures.ok)) c.as_str.utf8 in
    rw c.in_ok-push.ensures.items (
      inv.0 ++ e ∷ [],
      inv.1 ∙ ap (λ es. inv.0 ++ es) c.in-Some.ensures.steps ∙ sym (append_assoc inv.0 (e ∷ []) left),
      member_step c.args.depth found n v c.loop-key.key-iterator left e _ c.in-Some.ensures.steps named c.in_ok-value.ensures.ok inv.2,
      has_proper_push found (n, v) inv.3 (utf8, c.in_ok-value.ensures.proper, tt),
      keys_push found (n, v) ∙ ap₂ (λ ks k. ks ++ k ∷ []) inv.4 named ∙ sym (names_push inv.0 e),
    )

pub walk_members-returns-clause-ok : goal.walk_members-returns-clause-ok
walk_members-returns-clause-ok t c = member_end c.args.depth c.loop-key.found.items _ _ c.in-None.ensures.steps.0 c.loop-key.invariant.2

pub walk_members-returns-clause-keys : goal.walk_members-returns-clause-keys
walk_members-returns-clause-keys t c free =
    let inv = c.loop-key.invariant in
    let none : c.loop-key.key-iterator ≡ [] = c.in-None.ensures.steps.0 in
    let all : c.args.members.now.entries ≡ inv.0 = inv.1 ∙ ap (λ es. inv.0 ++ es) none ∙ append-nil inv.0 in
    subst AreKeys (ap names all ∙ sym inv.4) (keys_are c.args.members.now.entries c.iter-key-items.ensures.ordered free)
