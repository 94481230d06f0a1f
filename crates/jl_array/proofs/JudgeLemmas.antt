-- What an open file is, by its head and its length.
use Rattle.std.proofs.Common.{◌≡◌, ◌≢◌, inl, inr, ℕ, ◌+◌, ◌-◌, ◌^◌, ◌≤◌, ◌<◌, false, List, ◌++◌}
use Rattle.std.proofs.Common.{Option, None, Some, Err, length, take, sym, ap, subst, ◌∙◌}
use Rattle.std.proofs.Common.{arith, append-nil, append_assoc, take-take, take_at}
use Rattle.jl_text.specs.Paths.{PathView}
use Rattle.jl_folder.specs.declared.moves.OpenFile.{OpenFile}
use Rattle.jl_folder.specs.declared.moves.Place.TheVariants.{File}
use Rattle.jl_folder.specs.State.{State, Trace, IsTrace, node_at, run}
use Rattle.jl_folder.specs.Views.{FolderView, state, moved}
use Rattle.jl_folder.specs.Calls.{Call, Waits, OpensNode, own_event}
use Rattle.jl_folder.specs.declared.moves.Move.{Move}
use Rattle.jl_folder.specs.Reading.{OpenedHas}
use Rattle.jl_rely.proofs.Since.{now_went, since_went, went_on, Went}
use Rattle.jl_rely.proofs.Composed.{went_waits, went_call}
use Rattle.jl_array.specs.declared.opening.ArrayFile.{ArrayFile}
use Rattle.jl_array.specs.Dumps.{dump_mark, count_bytes, dump_head, dump_length, HasPart, SaysCount}
use Rattle.jl_array.specs.Dumps.{IsNoDump, IsDump}
use Rattle.jl_array.specs.Nodes.{OpenHas}
use Rattle.jl_array.specs.Answers.{IsShorter, JudgesFile, answer_to, OpensDump, OpensArray}
use Rattle.jl_array.specs.declared.opening.Refused.{Refused}
use Rattle.jl_array.specs.declared.opening.Refused.TheVariants as refused
use Rattle.jl_array.proofs.Numerals.{head_size, head_one, mark_size}
use Rattle.jl_array.proofs.Parts.{part_within, part_grown}
use Rattle.jl_array.proofs.NodeFacts.{has_both, has_later}

-- ---- by its head

-- a longer file says the same
pub says_lasting : (count : ℕ) (file rest : List ℕ) → SaysCount count file
    → SaysCount count (file ++ rest)
says_lasting count file rest says =
    record { fits = says.fits; head = part_grown 0 (dump_head count) file rest says.head }

-- a head that was read says its count
pub says_read : (count : ℕ) (head file : List ℕ) → count < 2 ^ 64 → head ≡ dump_head count
    → HasPart 0 head file → SaysCount count file
says_read count head file fits is has =
    record { fits = fits; head = subst (λ (l : List ℕ). HasPart 0 l file) is has }

-- the first bytes of a file are those of its head
first_bytes : (count : ℕ) (file : List ℕ) → SaysCount count file → take 15 file ≡ dump_head count
first_bytes count file says = ap (λ (n : ℕ). take n file) (sym (head_size count)) ∙ says.head

-- one file says one count
pub says_one : (m n : ℕ) (file : List ℕ) → SaysCount m file → SaysCount n file → m ≡ n
says_one m n file a b =
    head_one m n a.fits b.fits (sym (first_bytes m file a) ∙ first_bytes n file b)

-- and begins with the mark
pub says_mark : (count : ℕ) (file : List ℕ) → SaysCount count file → take 7 file ≡ dump_mark
unfolding dump_head
says_mark count file says =
    sym (take-take 7 15 file (omega arith)) ∙ ap (take 7) (first_bytes count file says)
    ∙ take_at dump_mark (count_bytes count) 7 mark_size

-- a file that says a count has a whole head
pub says_long : (count : ℕ) (file : List ℕ) → SaysCount count file → 15 ≤ length file
says_long count file says =
    omega (arith, part_within 0 (dump_head count) file says.head, head_size count)

-- ---- by its length

-- the file ends in its head
pub short_head : (head file : List ℕ) → length head ≡ 15 → length file < 0 + length head
    → IsShorter file
short_head head file size short = λ few. inl (omega (arith, size, short))

-- it begins with another mark
pub other_mark : (head file : List ℕ) → length head ≡ 15 → take 7 head ≢ dump_mark
    → HasPart 0 head file → IsNoDump file
other_mark head file size other has =
    let long = part_within 0 head file has in
    let whole : take 15 file ≡ head = ap (λ (n : ℕ). take n file) (sym size) ∙ has in (
      omega (arith, long, size),
      inl (λ mark. other (sym (ap (take 7) whole) ∙ take-take 7 15 file (omega arith) ∙ mark)),
    )

-- its head says more than a file can have
pub never_whole : (count : ℕ) (file : List ℕ) → 2 ^ 64 ≤ dump_length count → SaysCount count file
    → IsShorter file
never_whole count file large says = λ few. inr (count, says, omega (arith, few, large))

-- its last byte is missing
pub short_body : (count end : ℕ) (byte file : List ℕ) → end ≡ dump_length count → length byte ≡ 1
    → SaysCount count file × (length file < end - 1 + length byte) → IsShorter file
short_body count end byte file is size both =
    let short : length file < end - 1 + length byte = both.1 in
    λ few. inr (count, both.0, omega (arith, is, size, short))

-- a byte stands behind its last
pub long_body : (count end : ℕ) (byte file : List ℕ) → end ≡ dump_length count → length byte ≡ 1
    → SaysCount count file × HasPart end byte file → IsNoDump file
long_body count end byte file is size both =
    let long = part_within end byte file both.1 in (
      omega (arith, is, size, long),
      inr (count, both.0, omega (arith, is, size, long)),
    )

-- its last byte is there, and none behind it
pub whole_body : (count end : ℕ) (last byte file : List ℕ) → end ≡ dump_length count
    → length last ≡ 1 → length byte ≡ 1
    → (SaysCount count file × HasPart (end - 1) last file) × (length file < end + length byte)
    → IsDump count file
whole_body count end last byte file is size size' both =
    let long = part_within (end - 1) last file both.0.1 in
    let short : length file < end + length byte = both.1 in
    record { says = both.0.0; whole = omega (arith, is, size, size', long, short) }

-- ---- judging

-- the head's count, with one fact more, later
pub said_later : (a b : FolderView) (number count : ℕ) (Q : List ℕ → Type 0) → b.opens ≡ a.opens
    → Waits a b → OpenHas number (SaysCount count) a → OpenHas number Q b
    → OpenHas number (λ bytes. SaysCount count bytes × Q bytes) b
said_later a b number count Q same waits said has =
    has_both b number (SaysCount count) Q
    (has_later a b number (SaysCount count) (says_lasting count) same waits said) has

-- ---- opening

-- the moves of three calls without own ones, of which the first opened a node
module _ (a b₁ b₂ : FolderView) (path : PathView) (number : ℕ)
    (call : Call a b₁ (OpensNode path number b₁.opens)) (waits : Waits b₁ b₂)
    (same : b₂.opens ≡ b₁.opens) where
  -- the opening itself moved nothing
  opened : Went a b₁ call.others
  opened = went_waits_of call.answer.move_is
    where
      went_waits_of : call.own ≡ None → Went a b₁ call.others
      went_waits_of none =
          let went = went_call a b₁ (OpensNode path number b₁.opens) call in
          let is : call.others ++ own_event a.token call.own ≡ call.others =
          ap (λ (o : Option Move). call.others ++ own_event a.token o) none
          ∙ append-nil call.others in
          record {
            start = went.start;
            trace = went.trace
                ∙ ap (λ (t : Trace). a.history.trace ++ t) is;
            lawful = subst (IsTrace (state a)) is went.lawful;
          }

  -- the number is open on that node all along
  same_node : (P : List ℕ → Type 0) (has : OpenHas number P b₂) → has.file.node ≡ call.answer.node
  same_node P has =
      let was : b₁.opens number ≡ Some has.file =
      ap (λ (o : ℕ → Option OpenFile). o number) (sym same) ∙ has.is_open in
      let one : Some has.file ≡ Some (record { node = call.answer.node; made = false }) =
      sym was ∙ call.answer.is_open in
      let file : has.file ≡ record { node = call.answer.node; made = false } = cc in
      ap (λ (f : OpenFile). f.node) file

  -- what the node has, after which it was closed
  pub opened_has : (b₃ : FolderView) (P : List ℕ → Type 0) → Waits b₂ b₃ → OpenHas number P b₂
      → OpenedHas path P (state a) (moved a b₃)
  opened_has b₃ P last has =
      let two = went_on a b₁ b₂ call.others waits.others opened (went_waits b₁ b₂ waits) in
      let three =
      went_on a b₂ b₃ (call.others ++ waits.others) last.others two (went_waits b₂ b₃ last) in
      record {
        before = call.others;
        middle = waits.others;
        later = last.others;
        split =
            since_went a b₃ ((call.others ++ waits.others) ++ last.others) three
            ∙ append_assoc call.others waits.others last.others;
        node = call.answer.node;
        named = call.answer.named;
        view = has.node;
        node_is =
            ap (λ (n : ℕ). node_at (run (state a) (call.others ++ waits.others)) n)
            (sym (same_node P has))
            ∙ ap (λ (s : State). node_at s has.file.node)
            (sym (now_went a b₂ (call.others ++ waits.others) two)) ∙ has.node_is;
        has = has.has;
      }

  -- the array that is open then
  pub opened_dump : (array : ArrayFile) → array.no.0 ≡ number
      → OpenHas number (IsDump array.count) b₂ → OpensDump path array a b₂
  opened_dump array is has =
      let two = went_on a b₁ b₂ call.others waits.others opened (went_waits b₁ b₂ waits) in
      record {
        before = call.others;
        later = waits.others;
        split = since_went a b₂ (call.others ++ waits.others) two;
        dump =
            record {
              file = has.file;
              is_open = ap b₂.opens is ∙ has.is_open;
              node = has.node;
              node_is = has.node_is;
              has = has.has;
            };
        named =
            call.answer.named ∙ ap (λ (n : ℕ). Some (File n))
            (sym (same_node (IsDump array.count) has));
      }

-- a file that was refused, and closed
pub refused_array : (a b₁ b₂ b₃ : FolderView) (path : PathView) (number : ℕ)
    (call : Call a b₁ (OpensNode path number b₁.opens))
    → Waits b₁ b₂ → b₂.opens ≡ b₁.opens → Waits b₂ b₃ → (why : Refused)
    → JudgesFile number (Err why) b₂ → OpensArray path (answer_to why) a b₃
refused_array a b₁ b₂ b₃ path number call waits same last refused.Short has =
    opened_has a b₁ b₂ path number call waits same b₃ IsShorter last has
refused_array a b₁ b₂ b₃ path number call waits same last refused.NotArray has =
    opened_has a b₁ b₂ path number call waits same b₃ IsNoDump last has
refused_array a b₁ b₂ b₃ path number call waits same last refused.Fault has = tt
