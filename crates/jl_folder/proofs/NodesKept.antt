-- Nodes stay and only grow, and so does the node of each name.
use Rattle.std.proofs.Common.{◌≡◌, ℕ, List, [], ◌∷◌, ◌++◌, Bool, true, false, cond, Option, None, Some, IsSome, is_some, nat_eq, option_map, ◌⊎◌, inl, inr, sym, ◌∙◌, ap, subst, refl, append_assoc, true≢false}
use Rattle.std.proofs.lemmas.Bool.Decides.{Decides-eqb}
use Rattle.std.proofs.lemmas.List.{append-nil}
use Rattle.jl_folder.specs.declared.moves.Place.TheVariants.{Folder, File}
use Rattle.jl_folder.specs.declared.moves.Move.TheVariants.{MakeDir, Create, Append, Rename, Remove, RemoveDir}
use Rattle.jl_folder.specs.declared.moves.Node.{Node}
use Rattle.jl_text.specs.Paths.{PathView, path_eq}
use Rattle.jl_folder.specs.State.{State, Event, Trace, Allowed, IsTrace, place_at, node_at, run, after, appended, frozen_node, new_node}
use Rattle.jl_folder.specs.Looks.{place_after, place_renamed, node_after, node_renamed}
use Rattle.jl_folder.proofs.Looks.{place_at-after, node_at-after}

still_some : (b : Bool) (v : Node) (o : Option Node) → IsSome o → IsSome (cond b (Some v) o)
still_some true v o h = refl
still_some false v o h = h

still_changed : (b : Bool) (f : Node → Node) (o : Option Node) → IsSome o → IsSome (cond b (option_map f o) o)
still_changed b f None h = cc
still_changed true f (Some v) h = refl
still_changed false f (Some v) h = refl

-- numbers never leave the nodes
pub node-kept : (s : State) (e : Event) (k : ℕ) → IsSome (node_at s k) → IsSome (node_at (after s e) k)
node-kept s e k h = subst IsSome (sym (node_at-after s e k)) (kept e)
  where
    kept : (e : Event) → IsSome (node_after s e k)
    kept (t, MakeDir p) = h
    kept (t, Create p n) = still_some (nat_eq k n) _ _ h
    kept (t, Append n bytes) = still_changed (nat_eq k n) _ _ h
    kept (t, Rename p p') = elim (place_at s p) as (λ x. IsSome (node_renamed x k (node_at s k))) [
      | None ↦ h
      | Some x ↦ elim x as (λ y. IsSome (node_renamed (Some y) k (node_at s k))) [ Folder ↦ h | File n ↦ still_changed (nat_eq k n) frozen_node _ h ]
    ]
    kept (t, Remove p) = h
    kept (t, RemoveDir p) = h

pub node-kept_run : (s : State) (es : Trace) (k : ℕ) → IsSome (node_at s k) → IsSome (node_at (run s es) k)
node-kept_run s [] k h = h
node-kept_run s (e ∷ es) k h = node-kept_run (after s e) es k (node-kept s e k h)

-- each name's node is there
abbrev pub NamesHaveNodes : State → Type 0
NamesHaveNodes s = (p : PathView) (n : ℕ) → place_at s p ≡ Some (File n) → IsSome (node_at s n)

-- a number is its own
pub same_node : (n m : ℕ) (v : Node) (o : Option Node) → n ≡ m → IsSome (cond (nat_eq n m) (Some v) o)
same_node n m v o e = ap (λ b. is_some (cond b (Some v) o)) ((Decides-eqb n m).1 e)

-- a name after a move was a name before it, or its node was made
named_before : (s : State) (e : Event) (p : PathView) (n : ℕ) → place_after s e p ≡ Some (File n) → ((q : PathView) × (place_at s q ≡ Some (File n))) ⊎ IsSome (node_after s e n)
named_before s (t, MakeDir q) p n is = elim (path_eq p q) as (λ b. cond b (Some Folder) (place_at s p) ≡ Some (File n) → ((q : PathView) × (place_at s q ≡ Some (File n))) ⊎ IsSome (node_at s n)) [ true ↦ λ h. cc | false ↦ λ h. inl (p, h) ] is
named_before s (t, Create q m) p n is = elim (path_eq p q) as (λ b. cond b (Some (File m)) (place_at s p) ≡ Some (File n) → ((q : PathView) × (place_at s q ≡ Some (File n))) ⊎ IsSome (cond (nat_eq n m) (Some (new_node t)) (node_at s n))) [
  | true ↦ λ h. let e : n ≡ m = cc in inr (same_node n m (new_node t) (node_at s n) e)
  | false ↦ λ h. inl (p, h)
] is
named_before s (t, Append m bytes) p n is = inl (p, is)
named_before s (t, Rename q q') p n is =
    elim (place_at s q) as (λ x. place_at s q ≡ x → place_renamed x q q' p (place_at s p) ≡ Some (File n) → ((q : PathView) × (place_at s q ≡ Some (File n))) ⊎ IsSome (node_renamed x n (node_at s n))) [
      | None ↦ λ e h. inl (p, h)
      | Some x ↦ elim x as (λ y. place_at s q ≡ Some y → place_renamed (Some y) q q' p (place_at s p) ≡ Some (File n) → ((q : PathView) × (place_at s q ≡ Some (File n))) ⊎ IsSome (node_renamed (Some y) n (node_at s n))) [
        | Folder ↦ λ e h. inl (p, h)
        | File m ↦ λ e. elim (path_eq p q') as (λ b. cond b (Some (File m)) (cond (path_eq p q) None (place_at s p)) ≡ Some (File n) → ((q : PathView) × (place_at s q ≡ Some (File n))) ⊎ IsSome (cond (nat_eq n m) (option_map frozen_node (node_at s n)) (node_at s n))) [
          | true ↦ λ h. inl (q, e ∙ h)
          | false ↦ elim (path_eq p q) as (λ b. cond b None (place_at s p) ≡ Some (File n) → ((q : PathView) × (place_at s q ≡ Some (File n))) ⊎ IsSome (cond (nat_eq n m) (option_map frozen_node (node_at s n)) (node_at s n))) [ true ↦ λ h. cc | false ↦ λ h. inl (p, h) ]
        ]
      ]
    ] refl is
named_before s (t, Remove q) p n is = elim (path_eq p q) as (λ b. cond b None (place_at s p) ≡ Some (File n) → ((q : PathView) × (place_at s q ≡ Some (File n))) ⊎ IsSome (node_at s n)) [ true ↦ λ h. cc | false ↦ λ h. inl (p, h) ] is
named_before s (t, RemoveDir q) p n is = elim (path_eq p q) as (λ b. cond b None (place_at s p) ≡ Some (File n) → ((q : PathView) × (place_at s q ≡ Some (File n))) ⊎ IsSome (node_at s n)) [ true ↦ λ h. cc | false ↦ λ h. inl (p, h) ] is

pub names-kept : (s : State) (e : Event) → NamesHaveNodes s → NamesHaveNodes (after s e)
names-kept s e names p n is =
    elim (named_before s e p n (sym (place_at-after s e p) ∙ is)) [
      | inl before ↦ node-kept s e n (names before.0 n before.1)
      | inr here ↦ subst IsSome (sym (node_at-after s e n)) here
    ]

pub names-kept_run : (s : State) (es : Trace) → NamesHaveNodes s → NamesHaveNodes (run s es)
names-kept_run s [] names = names
names-kept_run s (e ∷ es) names = names-kept_run (after s e) es (names-kept s e names)

-- the node is there, and its bytes begin with these
pub record Begins (o : Option Node) (bytes : List ℕ) : Type 0 where
  pub view : Node
  pub rest : List ℕ
  pub is : o ≡ Some view
  pub begins : view.bytes ≡ bytes ++ rest

-- a node that is there begins with nothing
pub is_there : (o : Option Node) → IsSome o → Begins o []
is_there None h = absurd (true≢false (sym h))
is_there (Some view) h = record { view = view; rest = view.bytes; is = refl; begins = refl }

same_bytes : (o : Option Node) (view : Node) → o ≡ Some view → Begins o view.bytes
same_bytes o view is = record { view = view; rest = []; is = is; begins = sym (append-nil view.bytes) }

-- a move leaves a node's bytes, or adds to them
grows : (s : State) (e : Event) (n : ℕ) (view : Node) → Allowed s e.1 → node_at s n ≡ Some view → Begins (node_after s e n) view.bytes
grows s (t, MakeDir p) n view a is = same_bytes _ view is
grows s (t, Create p m) n view a is = elim (nat_eq n m) as (λ b. nat_eq n m ≡ b → Begins (cond b (Some (new_node t)) (node_at s n)) view.bytes) [
  | true ↦ λ e. absurd (true≢false (sym (ap is_some is) ∙ ap (λ k. is_some (node_at s k)) ((Decides-eqb n m).0 e) ∙ ap is_some a.2))
  | false ↦ λ e. same_bytes _ view is
] refl
grows s (t, Append m bytes) n view a is = elim (nat_eq n m) as (λ b. Begins (cond b (option_map (appended bytes) (node_at s n)) (node_at s n)) view.bytes) [
  | true ↦ record { view = appended bytes view; rest = bytes; is = ap (option_map (appended bytes)) is; begins = refl }
  | false ↦ same_bytes _ view is
]
grows s (t, Rename p q) n view a is = elim (place_at s p) as (λ x. Begins (node_renamed x n (node_at s n)) view.bytes) [
  | None ↦ same_bytes _ view is
  | Some x ↦ elim x as (λ y. Begins (node_renamed (Some y) n (node_at s n)) view.bytes) [
    | Folder ↦ same_bytes _ view is
    | File m ↦ elim (nat_eq n m) as (λ b. Begins (cond b (option_map frozen_node (node_at s n)) (node_at s n)) view.bytes) [
      | true ↦ same_bytes _ (frozen_node view) (ap (option_map frozen_node) is)
      | false ↦ same_bytes _ view is
    ]
  ]
]
grows s (t, Remove p) n view a is = same_bytes _ view is
grows s (t, RemoveDir p) n view a is = same_bytes _ view is

-- what a node begins with, it begins with after moves that are allowed
pub begins_run : (s : State) (es : Trace) (n : ℕ) (bytes : List ℕ) → IsTrace s es → Begins (node_at s n) bytes → Begins (node_at (run s es) n) bytes
begins_run s [] n bytes tr b = b
begins_run s (e ∷ es) n bytes tr b =
    let one = grows s e n b.view tr.0 b.is in
    begins_run (after s e) es n bytes tr.1 (record {
      view = one.view;
      rest = b.rest ++ one.rest;
      is = node_at-after s e n ∙ one.is;
      begins = one.begins ∙ ap (λ bs. bs ++ one.rest) b.begins ∙ append_assoc bytes b.rest one.rest;
    })
