-- The bytes that are read of a file, block by block.
use Rattle.std.proofs.Common.{◌≡◌, ℕ, ◌+◌, ◌-◌, ◌*◌, ◌/◌, ◌%◌, ◌<◌, ◌≤◌, ◌^◌, List, ◌++◌, ◌⊎◌, inl, inr, length, take, drop, sym, ap, subst, ◌∙◌, arith}
use Rattle.std.specs.Prelude.{slice_index, min, Option, Some}
use Rattle.std.specs.FinMap.{get}
use Rattle.std.proofs.lemmas.List.{get_or_past, get_or-take, get_or-drop, length-take, length-drop, drop-drop, take_all}
use Rattle.std.proofs.lemmas.Grind.{same_number_lists}
use Rattle.std.proofs.lemmas.Bool.{cases_lt}
use Rattle.std.proofs.Math.Seq.{take-add}
use Rattle.bd_limits.specs.Limits.{block_limit, file_limit}
use Rattle.bd_keys.specs.Edits.{resized}
use Rattle.bd_keys.proofs.EditLemmas.{length-resized, resized-kept, resized-zero}
use Rattle.bd_names.specs.Names.{AreNames}
use Rattle.bd_model.specs.Tree.{Entry, FileWith, Tree}
use Rattle.bd_model.specs.Step.{file_bytes, file_refusal, step, stepped}
use Rattle.bd_command.specs.declared.Command.TheVariants.{Read}
use Rattle.bd_command.specs.declared.reply.Reply.TheVariants.{Bytes}
use Rattle.bd_message.specs.KeyMaps.{At}
use Rattle.bd_message.specs.Reads.{IsLeft}
use Rattle.bd_message.specs.declared.map.KeyMap.{Ghosts}
use Rattle.bd_represent.specs.Represents.{stored, HasBytes, Represents}

-- a byte of a block, where it is extended far enough
resized_byte : (block : List ℕ) (len j : ℕ) → j < len → slice_index (resized block len) j ≡ slice_index block j
resized_byte block len j h = by (cases_lt j (length block))
  where
    by : (j < length block) ⊎ (length block ≤ j) → slice_index (resized block len) j ≡ slice_index block j
    by (inl under) = resized-kept block len j h under
    by (inr over) = resized-zero block len j h over ∙ sym (get_or_past block j 0 over)

-- a piece of a block is the piece of the file
pub piece : (at : At) (t : Tree) (path : List (List ℕ)) (mode : ℕ) (file : List ℕ) (place count : ℕ) → AreNames path → Represents at t → get t path ≡ Some (FileWith mode file) → place < 2 ^ 32 → place % block_limit + count ≤ block_limit → place + count ≤ length file
    → drop (place % block_limit) (resized (stored at path (place / block_limit)) (place % block_limit + count)) ≡ take count (drop place file)
piece at t path mode file place count names r found small room inside =
    same_number_lists (drop start whole) (take count (drop place file)) (omega (arith, long, other)) (λ j h. byte j (omega (arith, long, h)))
  where
    start : ℕ
    start = place % block_limit

    b : ℕ
    b = place / block_limit

    whole : List ℕ
    whole = resized (stored at path b) (start + count)

    long : length (drop start whole) ≡ count
    long = omega (arith, length-drop start whole, length-resized (stored at path b) (start + count))

    other : length (take count (drop place file)) ≡ count
    other = omega (arith, length-take count (drop place file), length-drop place file)

    has : HasBytes at path file
    has = subst (λ (o : Option Entry). HasBytes at path (file_bytes o)) found (r.files path names)

    byte : (j : ℕ) → j < count → slice_index (drop start whole) j ≡ slice_index (take count (drop place file)) j
    byte j h =
        let here : block_limit * b + (start + j) ≡ place + j = omega arith in
        get_or-drop start whole j 0
        ∙ resized_byte (stored at path b) (start + count) (start + j) (omega arith)
        ∙ sym (has.bytes b (start + j) (omega arith) (omega arith))
        ∙ ap (slice_index file) here
        ∙ sym (get_or-drop place file j 0)
        ∙ sym (get_or-take count (drop place file) j 0 h)

-- what was read, and the next piece
pub next_piece : (file read : List ℕ) (off place count : ℕ) → off ≤ place → read ≡ take (place - off) (drop off file) → read ++ take count (drop place file) ≡ take (place + count - off) (drop off file)
next_piece file read off place count from is =
    let moved : drop (place - off) (drop off file) ≡ drop place file = drop-drop (place - off) off file ∙ ap (λ (n : ℕ). drop n file) (omega arith) in
    ap (λ (r : List ℕ). r ++ take count (drop place file)) is
    ∙ ap (λ (r : List ℕ). take (place - off) (drop off file) ++ take count r) (sym moved)
    ∙ sym (take-add (place - off) count (drop off file))
    ∙ ap (λ (n : ℕ). take n (drop off file)) (omega arith)

-- ---- the end of the loop

pub ends : (off end place : ℕ) → end ≤ place → (off < end → place ≤ end) → (end ≤ off → place ≡ off) → place - off ≡ end - off
ends off end place past within none = by (cases_lt off end)
  where
    by : (off < end) ⊎ (end ≤ off) → place - off ≡ end - off
    by (inl some) = omega (arith, within some)
    by (inr over) = omega (arith, none over)

-- what two reads leave, one after the other, a read leaves
pub left_both : {M : Type 0} (g : Ghosts M) → ((a b c : M) → g.reads a b → g.reads b c → g.reads a c)
    → (a b c : M) → IsLeft g a b → IsLeft g b c → IsLeft g a c
left_both g both a b c first second =
    record {
      known = λ k. second.known (first.known k);
      kept = λ k key. second.kept (first.known k) key ∙ first.kept k key;
      room = second.room ∙ first.room;
      counters = λ counter w. first.counters counter (second.counters counter w);
      read = both a b c first.read second.read;
      same_loans = second.same_loans ∙ first.same_loans;
    }

-- ---- the reply

read_all : (file : List ℕ) (off len size : ℕ) → size ≡ length file → take (min size (off + len) - off) (drop off file) ≡ take len (drop off file)
read_all file off len size is = by (cases_lt size (off + len))
  where
    left : length (drop off file) ≡ length file - off
    left = length-drop off file

    by : (size < off + len) ⊎ (off + len ≤ size) → take (min size (off + len) - off) (drop off file) ≡ take len (drop off file)
    by (inl short) = take_all (min size (off + len) - off) (drop off file) (omega (arith, left, is, short)) ∙ sym (take_all len (drop off file) (omega (arith, left, is, short)))
    by (inr long) = ap (λ (n : ℕ). take n (drop off file)) (omega (arith, long))

pub read_reply : (t : Tree) (path : List (List ℕ)) (mode : ℕ) (file bytes : List ℕ) (off len size end : ℕ) → get t path ≡ Some (FileWith mode file) → size ≡ length file → size ≤ file_limit → end ≡ min size (min (off + len) (2 ^ 32 - 1))
    → bytes ≡ take (end - off) (drop off file) → Bytes bytes ≡ (step t (Read path off len)).1
read_reply t path mode file bytes off len size end found is limit ends got =
    let all : min size (min (off + len) (2 ^ 32 - 1)) ≡ min size (off + len) = omega arith in
    let whole : bytes ≡ take len (drop off file) = got ∙ ap (λ (n : ℕ). take (n - off) (drop off file)) (ends ∙ all) ∙ read_all file off len size is in
    ap Bytes (whole ∙ ap (λ (o : Option Entry). take len (drop off (file_bytes o))) (sym found)) ∙ sym (ap (λ (o : Option Entry). (stepped t (Read path off len) (file_refusal o)).1) found)
