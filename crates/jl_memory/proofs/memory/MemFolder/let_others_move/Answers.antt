use Rattle.std.proofs.Common.{◌≡◌, ◌∷◌, get_or, not, nat_eq, All, Some, None, sym, ◌∙◌, ap, subst, refl}
use Rattle.std.specs.List.{filter, position, flat_map}
use Rattle.std.proofs.lemmas.List.Quantifiers.{position-Some}
use Rattle.jl_folder.specs.State.{IsForeign}
use Rattle.jl_memory.proofs.ToldLemmas.{told_on, All-remove}
use Rattle.jl_memory.proofs.OthersLemmas.{filter-remove, filter_none, filter_first, so_none, so_more, so_all}
use Rattle.jl_memory.proofs.ForeignLemmas.{foreign_before}
use Rattle.jl_memory.proofs.memory.MemFolder.let_others_move.Goals as goal

pub loop-i-init : goal.loop-i-init
loop-i-init c = record {
  told = λ t. t;
  moved = λ t. so_none _;
  token = refl;
  opens = refl;
  faults = refl;
  calls = refl;
  failing = refl;
  stop = refl;
  named = refl;
  begun = refl;
  others = refl;
}

pub loop-i-preserved : goal.loop-i-preserved
loop-i-preserved c =
    let m₀ = c.args.self.now in
    let m = c.loop-i.self in
    let before = c.loop-i.invariant in
    let group = c.remove-group.result in
    let items = c.remove-group.ensures.items in
    let first : position (λ o. nat_eq o.0 m.calls) m.others.items ≡ Some c.in-Some.i = ap (position (λ o. nat_eq o.0 m.calls)) (sym c.as_slice.ensures.value) ∙ sym c.in-Some.ensures.first in
    let here = position-Some (λ o. nat_eq o.0 m.calls) m.others.items c.in-Some.i group first in
    let group_is : group ≡ get_or m.others.items c.in-Some.i group = c.remove-group.ensures.value in
    let first₀ : position (λ o. nat_eq o.0 m₀.calls) m.others.items ≡ Some c.in-Some.i = ap (λ k. position (λ o. nat_eq o.0 k) m.others.items) (sym before.calls) ∙ first in
    record {
      told = λ t.
          let told = before.told t in
          let moved = c.let_moves.ensures.moved told.disk in
          let foreign = subst (All (λ o. IsForeign m.token o.1.items)) (sym items) (All-remove (λ o. IsForeign m.token o.1.items) c.in-Some.i m.others.items told.foreign) in
          told_on m _ moved.made told (c.let_moves.ensures.sound told.disk) c.let_moves.ensures.start moved.trace refl refl foreign;
      moved = λ t.
          let told = before.told t in
          so_more m₀ m _ group.1.items (before.moved t)
          (ap (flat_map (λ o. o.1.items)) (filter_first (λ o. nat_eq o.0 m₀.calls) m.others.items c.in-Some.i group here.0 first₀
          ∙ (λ j. sym group_is j ∷ filter (λ o. nat_eq o.0 m₀.calls) (sym items j))))
          c.let_moves.ensures.start (c.let_moves.ensures.moved told.disk);
      token = before.token;
      opens = before.opens;
      faults = before.faults;
      calls = before.calls;
      failing = before.failing;
      stop = before.stop;
      named = before.named;
      begun = before.begun;
      others = ap (filter (λ o. not (nat_eq o.0 m₀.calls))) items
          ∙ filter-remove (λ o. not (nat_eq o.0 m₀.calls)) c.in-Some.i m.others.items group here.0 (ap (λ k. not (nat_eq (get_or m.others.items c.in-Some.i group).0 k)) (sym before.calls) ∙ ap not here.1)
          ∙ before.others;
    }

pub returns : goal.returns
returns c =
    let m₀ = c.args.self.now in
    let m = c.loop-i.self in
    let inv = c.loop-i.invariant in
    let none : position (λ o. nat_eq o.0 m.calls) m.others.items ≡ None = ap (position (λ o. nat_eq o.0 m.calls)) (sym c.as_slice.ensures.value) ∙ sym c.next_others.ensures.first ∙ c.in_default.is in
    let none₀ : position (λ o. nat_eq o.0 m₀.calls) m.others.items ≡ None = ap (λ k. position (λ o. nat_eq o.0 k) m.others.items) (sym inv.calls) ∙ none in
    let all = filter_none (λ o. nat_eq o.0 m₀.calls) m.others.items none₀ in
    record {
      told = inv.told;
      moved = λ t. so_all m₀ m (inv.moved t) all.1 (foreign_before m₀ t);
      token = inv.token;
      opens = inv.opens;
      faults = inv.faults;
      calls = inv.calls;
      failing = inv.failing;
      stop = inv.stop;
      named = inv.named;
      begun = inv.begun;
      others = sym all.0 ∙ inv.others;
    }
