-- What the arguments of a text are, by the steps of their reading.
use Rattle.std.proofs.Common.{◌≡◌, ◌≢◌, ◌∙◌, ℕ, ◌<◌, ◌≤◌, List, [], ◌∷◌, length, Option, None, Some, Result, Ok, Err, IfOk, IfErr, refl, ap, if◌then◌else◌}
use Rattle.std.proofs.lemmas.Bool.{lt-ltb, le-ltb}
use Rattle.jl_value.specs.declared.fault.ValueFault.{ValueFault}
use Rattle.jl_value.specs.declared.fault.ValueFault.TheVariants as value
use Rattle.jl_value.specs.declared.value.Value.{Value}
use Rattle.jl_value.specs.declared.value.Value.TheVariants.{Null, Truth, Whole, Text, List as Listed, Table, Numbers}
use Rattle.jl_value.specs.Tree.{Tree, members_of, pairs_of, nesting}
use Rattle.jl_value.specs.Key.{args_tree}
use Rattle.jl_value.specs.Form.{tree_of}
use Rattle.jl_value.specs.Walked.{read_bytes}
use Rattle.jl_cmd.specs.declared.arguments.ArgumentsFault.TheVariants.{TooLong, NotTable, Memory}
use Rattle.jl_value.specs.declared.library.ModuleFault.{ModuleFault}
use Rattle.jl_cmd.specs.Output.{module_fault_of, too_large}
use Rattle.jl_cmd.specs.Arguments.{arguments_of, sized_of, table_in, members_in, fault_of}

pub arguments_of-long : (s : List ℕ) → 1048576 < length s → arguments_of s ≡ Err TooLong
unfolding arguments_of
arguments_of-long s h = ap (λ b. if b then Err TooLong else table_in (read_bytes 64 s)) (lt-ltb _ _ h)

pub arguments_of-short : (s : List ℕ) → length s ≤ 1048576 → arguments_of s ≡ table_in (read_bytes 64 s)
unfolding arguments_of
arguments_of-short s h = ap (λ b. if b then Err TooLong else table_in (read_bytes 64 s)) (le-ltb _ _ h)

pub pairs_of-members_of : (ps : List (List ℕ × Tree)) → pairs_of (members_of ps) ≡ ps
pairs_of-members_of [] = refl
pairs_of-members_of (p ∷ ps) = ap (λ qs. (p.0, p.1) ∷ qs) (pairs_of-members_of ps)

-- a table gives its members
pub table_in-table : (v : Value) (ps : List (List ℕ × Tree)) → v ≡ Table ps → members_in (tree_of v) ≡ sized_of ps
table_in-table v ps e = ap (λ u. members_in (tree_of u)) e ∙ ap sized_of (pairs_of-members_of ps)

-- and nests as deep as they do
pub nesting-table : (v : Value) (ps : List (List ℕ × Tree)) → v ≡ Table ps → nesting (tree_of v) ≡ nesting (args_tree ps)
nesting-table v ps e = ap (λ u. nesting (tree_of u)) e

-- what holds of a value holds in other words
pub if_ok : {A B : Type 0} (r : Result A B) (P Q : A → Type 0) → ((a : A) → P a → Q a) → IfOk r P → IfOk r Q
if_ok (Ok a) P Q f h = f a h
if_ok (Err e) P Q f h = h

pub if_err : {A B : Type 0} (r : Result A B) (P Q : B → Type 0) → ((e : B) → P e → Q e) → IfErr r P → IfErr r Q
if_err (Ok a) P Q f h = h
if_err (Err e) P Q f h = f e h

-- another value gives none
pub members_in-other : (v : Value) → ((ps : List (List ℕ × Tree)) → v ≡ Table ps → ⊥) → members_in (tree_of v) ≡ Err NotTable
members_in-other Null h = refl
members_in-other (Truth b) h = refl
members_in-other (Whole z) h = refl
members_in-other (Text s) h = refl
members_in-other (Listed ts) h = refl
members_in-other (Table ps) h = absurd (h ps refl)
members_in-other (Numbers zs) h = refl

-- only want of memory is told as such
pub fault_of-memory : (e : ValueFault) → fault_of e ≢ Memory → e ≢ value.Memory
fault_of-memory e h same = h (ap fault_of same)

-- bytes that are a module to the library, and not too many, are without a fault
pub no_fault : (fault : List ℕ → Option ModuleFault) (m loaded : List ℕ) → length m ≤ 1048576 → fault m ≡ None → loaded ≡ m → module_fault_of fault loaded ≡ None
no_fault fault m loaded few none same = ap (module_fault_of fault) same ∙ ap (λ b. if b then Some too_large else fault m) (le-ltb _ _ few) ∙ none
