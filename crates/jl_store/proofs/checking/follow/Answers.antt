use Rattle.std.proofs.Common.{sym, subst}
use Rattle.jl_store.specs.Checking.{Stores, MovesFor}
use Rattle.jl_store.specs.declared.checks.Held.{Held}
use Rattle.jl_store.proofs.CheckLemmas.{stores_none}
use Rattle.jl_store.proofs.checking.follow.Goals as goal

pub returns-in-Same-clause-stores : goal.returns-in-Same-clause-stores
returns-in-Same-clause-stores g c = stores_none c.args.files.now c.args.bytes.now (MovesFor c.args.files.now c.args.held) _ (g.F.Folder.view c.args.folder.now) (λ done. done) (λ e. cc)

pub returns-in-Fault-clause-stores : goal.returns-in-Fault-clause-stores
returns-in-Fault-clause-stores g c = stores_none c.args.files.now c.args.bytes.now (MovesFor c.args.files.now c.args.held) _ (g.F.Folder.view c.args.folder.now) (λ done. done) (λ e. cc)

pub returns-in-NoMemory-clause-stores : goal.returns-in-NoMemory-clause-stores
returns-in-NoMemory-clause-stores g c = stores_none c.args.files.now c.args.bytes.now (MovesFor c.args.files.now c.args.held) _ (g.F.Folder.view c.args.folder.now) (λ done. done) (λ e. cc)

pub returns-in-Absent-clause-stores : goal.returns-in-Absent-clause-stores
returns-in-Absent-clause-stores g c =
    subst (λ (h : Held). Stores c.args.files.now c.args.bytes.now (MovesFor c.args.files.now h) c.write_new.result (g.F.Folder.view c.args.folder.now) (g.F.Folder.view c.write_new.new.folder)) (sym c.in-Absent.is) c.write_new.ensures.stores

pub returns-in-Other-clause-stores : goal.returns-in-Other-clause-stores
returns-in-Other-clause-stores g c =
    subst (λ (h : Held). Stores c.args.files.now c.args.bytes.now (MovesFor c.args.files.now h) c.write_over.result (g.F.Folder.view c.args.folder.now) (g.F.Folder.view c.write_over.new.folder)) (sym c.in-Other.is) c.write_over.ensures.stores

pub returns-in-Absent-clause-skips : goal.returns-in-Absent-clause-skips
returns-in-Absent-clause-skips g c = λ t is root m f hm hf are whole tidy all pre. c.write_new.ensures.skips t is root m f hm hf are whole tidy all tt

pub returns-in-Other-clause-skips : goal.returns-in-Other-clause-skips
returns-in-Other-clause-skips g c = λ t is root m f hm hf are whole tidy all pre. c.write_over.ensures.skips t is root m f hm hf are whole tidy all (pre c.in-Other.is)

pub returns-in-Same-clause-skips : goal.returns-in-Same-clause-skips
returns-in-Same-clause-skips g c = λ t is root m f hm hf are whole tidy all pre. cc

pub returns-in-Fault-clause-skips : goal.returns-in-Fault-clause-skips
returns-in-Fault-clause-skips g c = λ t is root m f hm hf are whole tidy all pre. cc

pub returns-in-NoMemory-clause-skips : goal.returns-in-NoMemory-clause-skips
returns-in-NoMemory-clause-skips g c = λ t is root m f hm hf are whole tidy all pre. cc
