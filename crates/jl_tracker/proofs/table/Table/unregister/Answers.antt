use Rattle.std.proofs.Common.{◌≡◌, ◌∙◌, ap, sym, refl, ℕ, Option, None, Some, is_some, false, true≢false}
use Rattle.jl_tracker.proofs.TableLemmas.{without-absent}
use Rattle.jl_tracker.proofs.table.Table.unregister.Goals as goal

-- an option that holds nothing
none_of : {r : Option ℕ} (o : Option ℕ) → o ≡ r → is_some r ≡ false → o ≡ None
none_of None e f = refl
none_of (Some n) e f = absurd (true≢false (ap is_some e ∙ f))

pub returns-then-is_none-clause-after : goal.returns-then-is_none-clause-after
returns-then-is_none-clause-after c = sym (without-absent c.args.name.now c.args.self.now (none_of _ (sym c.count.ensures) c.if-is_none.ensures))
