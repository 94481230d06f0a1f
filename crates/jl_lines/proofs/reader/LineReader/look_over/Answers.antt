use Rattle.std.proofs.Common.{◌≡◌, ◌∙◌, ◌++◌, false, length, drop, sym, ap, subst}
use Rattle.std.proofs.Math.Seq.{drop-length}
use Rattle.jl_lines.specs.Lines.{has_newline}
use Rattle.jl_lines.specs.Steps.{is_over}
use Rattle.jl_lines.proofs.ReaderLemmas.{looks_long, looks_short}
use Rattle.jl_lines.proofs.reader.LineReader.look_over.Goals as goal
use Rattle.jl_lines.proofs.reader.LineReader.look_over.Goals.{then-is_over, else-is_over+in_ok-extend_from_slice}

pub returns : goal.returns
returns c =
    let is = c.self.view_is in
    let none = subst (λ v. has_newline v.front ≡ false) is c.self.invariant.none in
    let count = c.rest-count.ensures ∙ ap (λ v. v.rest) is in
    let over = c.is_over.ensures ∙ ap (λ bytes. is_over c.args.self.now (length bytes)) count in
    elim c.if-is_over.branch [
      | then-is_over w ↦
          let j = w.self-inside-is in
          looks_long c.args.self.now _ c.requires.going none c.requires.none (sym over ∙ w.if-is_over.true)
          (λ i. record {
            limit = (ap (λ s. s.limit) j ∙ ap (λ v. v.limit) is) i;
            taken = (ap (λ s. s.taken) j ∙ ap (λ v. v.taken) is) i;
            lines = (ap (λ s. s.lines) j ∙ ap (λ v. v.lines) is) i;
            long = (j i).long;
            ended = (ap (λ s. s.ended) j ∙ ap (λ v. v.ended) is) i;
            front = (ap (λ s. s.front.items) j ∙ w.clear.ensures.items) i;
            rest = (c.pass.ensures ∙ ap (λ s. drop (length c.rest-count.result.now) s.block) j ∙ ap (λ bytes. drop (length bytes) c.self.inside.block) c.rest-count.ensures ∙ drop-length c.self.inside.block) i;
          })
      | else-is_over+in_ok-extend_from_slice w ↦
          let j = w.self-inside-is in
          looks_short c.args.self.now _ c.requires.going none c.requires.none (sym over ∙ w.if-is_over.false)
          (λ i. record {
            limit = (ap (λ s. s.limit) j ∙ ap (λ v. v.limit) is) i;
            taken = (ap (λ s. s.taken) j ∙ ap (λ v. v.taken) is) i;
            lines = (ap (λ s. s.lines) j ∙ ap (λ v. v.lines) is) i;
            long = (ap (λ s. s.long) j ∙ ap (λ v. v.long) is) i;
            ended = (ap (λ s. s.ended) j ∙ ap (λ v. v.ended) is) i;
            front = (ap (λ s. s.front.items) j ∙ w.in_ok-extend_from_slice.ensures.items ∙ ap (λ bytes. c.self.inside.front.items ++ bytes) w.rest.ensures ∙ ap (λ v. v.front ++ v.rest) is) i;
            rest = (c.pass.ensures ∙ ap (λ s. drop (length c.rest-count.result.now) s.block) j ∙ ap (λ bytes. drop (length bytes) c.self.inside.block) c.rest-count.ensures ∙ drop-length c.self.inside.block) i;
          })
    ]
