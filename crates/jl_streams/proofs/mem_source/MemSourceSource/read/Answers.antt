use Rattle.std.proofs.Common.{◌≡◌, true, false, sym, ap, subst, refl}
use Rattle.jl_streams.specs.Streams.{Reads}
use Rattle.jl_streams.specs.Memory.{is_to_fail}
use Rattle.jl_streams.proofs.ReadLemmas.{GivesFront-reads}
use Rattle.jl_streams.proofs.mem_source.MemSourceSource.read.Goals as goal

pub returns-clause-bytes : goal.returns-clause-bytes
returns-clause-bytes c =
    let left = c.args.self.now.left in
    let left' = c.give.new.self.left in
    elim (is_to_fail c.args.self.now.calls) as (λ b. is_to_fail c.args.self.now.calls ≡ b → Reads c.give.result c.args.buf.now c.give.new.buf left left') [
      | true ↦ λ fail. let how = c.give.ensures.failing fail in subst (λ a. Reads a c.args.buf.now c.give.new.buf left left') (sym how.0) (ap (λ v. v.left) how.2)
      | false ↦ λ fine. GivesFront-reads c.args.self.now c.give.new.self c.args.buf.now c.give.new.buf c.give.result c.give.ensures.piece c.requires (c.give.ensures.gives fine)
    ] refl
