use Rattle.jl_store.proofs.looking.look.Goals as goal

pub returns-in-Ok-clause-frame : goal.returns-in-Ok-clause-frame
returns-in-Ok-clause-frame g c = c.look_for.ensures.frame c.args.args.now c.in-Ok.ensures.key

pub returns-in-Ok-clause-looks : goal.returns-in-Ok-clause-looks
returns-in-Ok-clause-looks g c = λ n. c.look_for.ensures.looks c.args.code.now n c.args.args.now c.in-Ok.ensures.head c.in-Ok.ensures.key

pub returns-in-Ok-clause-tidy : goal.returns-in-Ok-clause-tidy
returns-in-Ok-clause-tidy g c = λ t n orderly. c.look_for.ensures.tidy t c.args.code.now n c.args.args.now c.in-Ok.ensures.head c.in-Ok.ensures.key orderly

pub returns-in-Ok-clause-sound : goal.returns-in-Ok-clause-sound
returns-in-Ok-clause-sound g c = λ answer trust. c.look_for.ensures.sound c.args.code.now c.args.args.now c.in-Ok.ensures.head c.in-Ok.ensures.key answer trust
