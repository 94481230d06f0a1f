use Rattle.std.proofs.Common.{◌≡◌, ◌+◌, ◌-◌, nat_cmp, sym, ap, ap₂, ◌∙◌, subst, arith, drop, true≢false}
use Rattle.std.specs.Cmp.Lexicographic.{slice_cmp}
use Rattle.std.proofs.lemmas.Slice.Eq.{bytes_eq-Decides}
use Rattle.jl_value.specs.Canonical.{array_key}
use Rattle.jl_value.specs.Form.{keys_in}
use Rattle.jl_value.specs.Proper.{AreKeys}
use Rattle.jl_value.proofs.Keys.{keys_end, keys_last, keys_more, key_free, key_less, less_from_ge, not_less_from_ge}
use Rattle.jl_value.proofs.value.are_keys.Goals as goal

pub loop-i-init : goal.loop-i-init
loop-i-init c = (omega arith, keys_end c.args.members.now)

pub returns-then-eq : goal.returns-then-eq
returns-then-eq c =
    let key_is = c.as_str-key.ensures ∙ ap (λ m. m.0) (sym c.index-members-i.is) in
    let same = (bytes_eq-Decides c.as_str-key.result.now array_key).0 (sym c.eq.ensures ∙ c.if-eq.true) in
    (λ t. absurd (true≢false (sym t)), λ h. absurd (key_free c.args.members.now c.loop-i.i (c.loop-i.i - 1) (omega arith) c.index-members-i.result (omega arith) c.index-members-i.is h (sym key_is ∙ same)))

pub returns-then-ge : goal.returns-then-ge
returns-then-ge c =
    let key_is = c.as_str-key.ensures ∙ ap (λ m. m.0) (sym c.index-members-i.is) in
    let next_is = c.as_str-next.ensures ∙ ap (λ m. m.0) (sym c.index-members-i-then-i-members.is) in
    let at : c.loop-i.i - 1 + 1 ≡ c.loop-i.i = omega arith in
    let ge = sym c.ge.ensures ∙ c.if-ge.true in (
      λ t. absurd (true≢false (sym t)),
      λ h. absurd (not_less_from_ge _ ge (ap₂ (slice_cmp nat_cmp) key_is next_is
          ∙ key_less c.args.members.now (c.loop-i.i - 1 + 1) (c.loop-i.i - 1) (omega arith) c.index-members-i.result (omega arith) c.index-members-i.is c.index-members-i-then-i-members.result c.if-i-members.true c.index-members-i-then-i-members.is h)),
    )

pub loop-i-preserved-else-ge : goal.loop-i-preserved-else-ge
loop-i-preserved-else-ge c =
    let key_is = c.as_str-key.ensures ∙ ap (λ m. m.0) (sym c.index-members-i.is) in
    let next_is = c.as_str-next.ensures ∙ ap (λ m. m.0) (sym c.index-members-i-then-i-members.is) in
    let other = λ (e : c.index-members-i.result.0 ≡ array_key). true≢false (sym ((bytes_eq-Decides c.as_str-key.result.now array_key).1 (key_is ∙ e)) ∙ sym c.eq.ensures ∙ c.if-eq.false) in
    let less = ap₂ (slice_cmp nat_cmp) (sym key_is) (sym next_is) ∙ less_from_ge _ (sym c.ge.ensures ∙ c.if-ge.false) in
    let at : c.loop-i.i ≡ c.loop-i.i - 1 + 1 = omega arith in (
      omega arith,
      keys_more c.args.members.now (c.loop-i.i - 1 + 1) (c.loop-i.i - 1) (omega arith) c.index-members-i.result (omega arith) c.index-members-i.is c.index-members-i-then-i-members.result c.if-i-members.true c.index-members-i-then-i-members.is other less
          (subst (λ n. AreKeys (keys_in (drop n c.args.members.now))) at c.loop-i.invariant.1),
    )

pub loop-i-preserved : goal.loop-i-preserved
loop-i-preserved c =
    let key_is = c.as_str-key.ensures ∙ ap (λ m. m.0) (sym c.index-members-i.is) in
    let other = λ (e : c.index-members-i.result.0 ≡ array_key). true≢false (sym ((bytes_eq-Decides c.as_str-key.result.now array_key).1 (key_is ∙ e)) ∙ sym c.eq.ensures ∙ c.if-eq.false) in
    (omega arith, keys_last c.args.members.now c.loop-i.i (c.loop-i.i - 1) (omega arith) c.index-members-i.result (omega arith) c.index-members-i.is (omega arith) other)
