-- What the parts of a line say, and that they say one thing alone.
use Rattle.std.proofs.Common.{◌≡◌, ◌≢◌, ℕ, ◌⊎◌, inl, inr, List, [], ◌∷◌, true, false, not, nat_eq, length, codes, sym, ◌∙◌, ap, subst, refl, arith, true≢false}
use Rattle.std.specs.Str.{IsUtf8}
use Rattle.std.proofs.lemmas.Bool.{not-true}
use Rattle.std.proofs.lemmas.Bool.Decides.{Decides-eqb, nat_tests}
use Rattle.std.proofs.lemmas.Grind.{common_steps}
use Rattle.jl_tracker.specs.declared.line.Kind.{Kind}
use Rattle.jl_tracker.specs.declared.line.Kind.TheVariants as kind
use Rattle.jl_tracker.specs.declared.line.Command.{Command}
use Rattle.jl_tracker.specs.declared.line.Command.TheVariants as command
use Rattle.jl_tracker.specs.TrackerLines.{LineView, registers, unregisters, may_unlink, probes, word_of, IsNameOfKind, is_named, said_of, command_word, Says, IsTrackerLine}
use Rattle.jl_tracker.proofs.SpelledLemmas.{is_spelled-sound, is_spelled-complete}

-- a name that was tested
pub is_named-sound : (k : Kind) (name : List ℕ) → IsUtf8 name → is_named k name ≡ true → IsNameOfKind k name
is_named-sound kind.File name utf8 h = (utf8, is_spelled-sound name h)
is_named-sound kind.Folder name utf8 h = (utf8, is_spelled-sound name h)
is_named-sound kind.Semlock name utf8 h = (utf8, λ e. true≢false (sym ((Decides-eqb (length name) 0).1 (ap length e)) ∙ not-true _ h))

-- a name that may stand in a line passes the test
pub is_named-complete : (k : Kind) (name : List ℕ) → IsNameOfKind k name → is_named k name ≡ true
is_named-complete kind.File name h = is_spelled-complete name h.1
is_named-complete kind.Folder name h = is_spelled-complete name h.1
is_named-complete kind.Semlock [] h = absurd (h.1 refl)
is_named-complete kind.Semlock (b ∷ bs) h = some
  where
    some : not (nat_eq (length (b ∷ bs)) 0) ≡ true
    some = grind (arith, nat_tests, common_steps)

-- such a name is text
pub name_utf8 : (k : Kind) (name : List ℕ) → IsNameOfKind k name → IsUtf8 name
name_utf8 kind.File name h = h.0
name_utf8 kind.Folder name h = h.0
name_utf8 kind.Semlock name h = h.0

-- the words have different lengths
pub words_differ : (a b : List ℕ) → a ≡ b → nat_eq (length a) (length b) ≡ false → ⊥
words_differ a b e d = true≢false (sym ((Decides-eqb (length a) (length b)).1 (ap length e)) ∙ d)

-- a word is of one kind
word_of-injective : (j k : Kind) → word_of j ≡ word_of k → j ≡ k
word_of-injective kind.File kind.File e = refl
word_of-injective kind.File kind.Folder e = absurd (words_differ _ _ e refl)
word_of-injective kind.File kind.Semlock e = absurd (words_differ _ _ e refl)
word_of-injective kind.Folder kind.File e = absurd (words_differ _ _ e refl)
word_of-injective kind.Folder kind.Folder e = refl
word_of-injective kind.Folder kind.Semlock e = absurd (words_differ _ _ e refl)
word_of-injective kind.Semlock kind.File e = absurd (words_differ _ _ e refl)
word_of-injective kind.Semlock kind.Folder e = absurd (words_differ _ _ e refl)
word_of-injective kind.Semlock kind.Semlock e = refl

-- what a command says of a resource
pub said_of-Says : (c : Command) (k : Kind) (name command word n : List ℕ) → command ≡ command_word c → word ≡ word_of k → n ≡ name → IsNameOfKind k name → Says command name word (said_of c k n)
said_of-Says command.Register k name w word n e f g h = (e, f, g, h)
said_of-Says command.Unregister k name w word n e f g h = (e, f, g, h)
said_of-Says command.MaybeUnlink k name w word n e f g h = (e, f, g, h)

-- parts that say something begin with the word of a command, and name a resource
pub Says-command : (w name word : List ℕ) (said : LineView) → Says w name word said → (w ≡ codes "PROBE") ⊎ ((c : Command) × (w ≡ command_word c))
Says-command w name word (registers k n) h = inr (command.Register, h.0)
Says-command w name word (unregisters k n) h = inr (command.Unregister, h.0)
Says-command w name word (may_unlink k n) h = inr (command.MaybeUnlink, h.0)
Says-command w name word probes h = inl h

pub Says-resource : (w name word : List ℕ) (said : LineView) → Says w name word said → w ≢ codes "PROBE" → (k : Kind) × (word ≡ word_of k) × IsNameOfKind k name
Says-resource w name word (registers k n) h other = (k, h.1, h.3)
Says-resource w name word (unregisters k n) h other = (k, h.1, h.3)
Says-resource w name word (may_unlink k n) h other = (k, h.1, h.3)
Says-resource w name word probes h other = absurd (other h)

-- parts say one thing alone
pub Says-once : (w name word : List ℕ) (a b : LineView) → Says w name word a → Says w name word b → a ≡ b
Says-once w name word (registers k n) (registers j m) h i = λ t. registers (word_of-injective k j (sym h.1 ∙ i.1) t) ((h.2 ∙ sym i.2) t)
Says-once w name word (registers k n) (unregisters j m) h i = absurd (words_differ _ _ (sym h.0 ∙ i.0) refl)
Says-once w name word (registers k n) (may_unlink j m) h i = absurd (words_differ _ _ (sym h.0 ∙ i.0) refl)
Says-once w name word (registers k n) probes h i = absurd (words_differ _ _ (sym h.0 ∙ i) refl)
Says-once w name word (unregisters k n) (registers j m) h i = absurd (words_differ _ _ (sym h.0 ∙ i.0) refl)
Says-once w name word (unregisters k n) (unregisters j m) h i = λ t. unregisters (word_of-injective k j (sym h.1 ∙ i.1) t) ((h.2 ∙ sym i.2) t)
Says-once w name word (unregisters k n) (may_unlink j m) h i = absurd (words_differ _ _ (sym h.0 ∙ i.0) refl)
Says-once w name word (unregisters k n) probes h i = absurd (words_differ _ _ (sym h.0 ∙ i) refl)
Says-once w name word (may_unlink k n) (registers j m) h i = absurd (words_differ _ _ (sym h.0 ∙ i.0) refl)
Says-once w name word (may_unlink k n) (unregisters j m) h i = absurd (words_differ _ _ (sym h.0 ∙ i.0) refl)
Says-once w name word (may_unlink k n) (may_unlink j m) h i = λ t. may_unlink (word_of-injective k j (sym h.1 ∙ i.1) t) ((h.2 ∙ sym i.2) t)
Says-once w name word (may_unlink k n) probes h i = absurd (words_differ _ _ (sym h.0 ∙ i) refl)
Says-once w name word probes (registers j m) h i = absurd (words_differ _ _ (sym h ∙ i.0) refl)
Says-once w name word probes (unregisters j m) h i = absurd (words_differ _ _ (sym h ∙ i.0) refl)
Says-once w name word probes (may_unlink j m) h i = absurd (words_differ _ _ (sym h ∙ i.0) refl)
Says-once w name word probes probes h i = refl

-- the same parts say the same
pub Says-same : (w name word w' name' word' : List ℕ) (said : LineView) → w' ≡ w → name' ≡ name → word' ≡ word → Says w name word said → Says w' name' word' said
Says-same w name word w' name' word' said e f g h = coe_by (λ i. Says (sym e i) (sym f i) (sym g i) said) h
  where
    coe_by : {A B : Type 0} → A ≡ B → A → B
    coe_by p a = subst (λ T. T) p a

-- bytes are at most one line
pub IsTrackerLine-once : (bytes : List ℕ) (a b : LineView) → IsTrackerLine bytes a → IsTrackerLine bytes b → a ≡ b
IsTrackerLine-once bytes a b h i =
    Says-once h.command h.name h.word a b h.says
    (Says-same i.command i.name i.word h.command h.name h.word b (h.splits.command_is ∙ sym i.splits.command_is) (h.splits.name_is ∙ sym i.splits.name_is) (h.splits.kind_is ∙ sym i.splits.kind_is) i.says)
