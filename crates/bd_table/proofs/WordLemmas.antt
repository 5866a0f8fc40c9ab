-- A table's words are its encoding.
use Rattle.std.proofs.Common.{◌≡◌, ℕ, zero, suc, ◌+◌, ◌-◌, ◌*◌, ◌/◌, ◌<◌, ◌≤◌, List, [], ◌∷◌, ◌++◌, length, take, drop, get_or, All, refl, sym, ap, ◌∙◌, arith, append_assoc, length-append}
use Rattle.std.specs.Int.{w32, w64}
use Rattle.std.specs.List.{flat_map}
use Rattle.std.proofs.lemmas.List.{drop-drop, drop-replicate, take-replicate, length-replicate, get_or_past, get_or-append-add, length-take-le, length-drop}
use Rattle.std.proofs.lemmas.List.Elements.{All-cons, All-nil, All-tail}
use Rattle.std.proofs.Math.Seq.{take-add, take-append_seam, drop-append_seam}
use Rattle.std.proofs.Math.ListN.{get_or-append}
use Rattle.bd_slots.proofs.Filled.{filled_array}
use Rattle.bd_wire.specs.Numbers.{be}
use Rattle.bd_wire.specs.Text.{zeros}
use Rattle.bd_wire.specs.Writing.{written, room, Puts}
use Rattle.bd_wire.specs.declared.writer.Out.{Out}
use Rattle.bd_wire.proofs.NumberLemmas.{length-be}
use Rattle.bd_table.specs.Tables.{table_entry, table_head, table_magic, table_bytes}
use Rattle.bd_table.specs.Words.{entry_words, entry_word, words, word_at, part}
use Rattle.bd_table.specs.declared.table.Table.{Table}
use Rattle.bd_table.specs.declared.table.TableEntry.{TableEntry}
use Rattle.bd_table.proofs.TableLemmas.{zero_count, length-fields, length-entries}

-- the bytes of words
abbrev joined : List (List ℕ) → List ℕ
joined ws = flat_map (λ w. w) ws

joined_entries : (entries : List TableEntry) → joined (flat_map entry_words entries) ≡ flat_map table_entry entries
joined_entries [] = refl
joined_entries (e ∷ es) = simp (joined_entries es, append_assoc) refl

-- a table's words, and zeros
table_in_words : (taken : ℕ) (t : Table) → table_bytes taken t ≡ joined (words t) ++ zeros (zero_count taken t)
table_in_words taken t = simp (joined_entries t.entries, append_assoc) refl

-- each has eight bytes
abbrev AreWords : List (List ℕ) → Type 0
AreWords ws = All (λ (w : List ℕ). length w ≡ 8) ws

entries_are_words : (entries : List TableEntry) → AreWords (flat_map entry_words entries)
entries_are_words [] = All-nil (λ (w : List ℕ). length w ≡ 8)
entries_are_words (e ∷ es) =
    let P : List ℕ → Type 0 = λ w. length w ≡ 8 in
    All-cons P (be w64 e.id) (be w64 e.refs ∷ (be w32 e.slot ++ be w32 e.level) ∷ flat_map entry_words es) (length-be w64 e.id)
    (All-cons P (be w64 e.refs) ((be w32 e.slot ++ be w32 e.level) ∷ flat_map entry_words es) (length-be w64 e.refs)
    (All-cons P (be w32 e.slot ++ be w32 e.level) (flat_map entry_words es) (omega (arith, length-append (be w32 e.slot) (be w32 e.level), length-be w32 e.slot, length-be w32 e.level))
    (entries_are_words es)))

are_words : (t : Table) → AreWords (words t)
are_words t =
    let P : List ℕ → Type 0 = λ w. length w ≡ 8 in
    let es = flat_map entry_words t.entries in
    All-cons P table_magic (be w64 (length t.entries) ∷ be w64 t.next_id ∷ be w64 t.root ∷ es) refl
    (All-cons P (be w64 (length t.entries)) (be w64 t.next_id ∷ be w64 t.root ∷ es) (length-be w64 (length t.entries))
    (All-cons P (be w64 t.next_id) (be w64 t.root ∷ es) (length-be w64 t.next_id)
    (All-cons P (be w64 t.root) es (length-be w64 t.root) (entries_are_words t.entries))))

-- the bytes of the word of an index
word_in : (ws : List (List ℕ)) (z i : ℕ) → AreWords ws → 8 * (i + 1) ≤ length (joined ws) + z → take 8 (drop (8 * i) (joined ws ++ zeros z)) ≡ get_or ws i (zeros 8)
word_in [] z i are fits =
    ap (take 8) (drop-replicate (8 * i) z 0) ∙ take-replicate 8 (z - 8 * i) 0 (omega (arith, fits))
word_in (w ∷ ws) z zero are fits =
    let eight : length w ≡ 8 = are 0 w (omega arith) in
    let rest = joined ws ++ zeros z in
    ap (take 8) (append_assoc w (joined ws) (zeros z)) ∙ ap (λ n. take n (w ++ rest)) (sym eight) ∙ take-append_seam w rest
word_in (w ∷ ws) z (suc i) are fits =
    let eight : length w ≡ 8 = are 0 w (omega arith) in
    let rest = joined ws ++ zeros z in
    let more : 8 * suc i ≡ 8 + 8 * i = omega arith in
    let after : drop 8 ((w ++ joined ws) ++ zeros z) ≡ rest =
    ap (drop 8) (append_assoc w (joined ws) (zeros z)) ∙ ap (λ n. drop n (w ++ rest)) (sym eight) ∙ drop-append_seam w rest in
    ap (take 8)
    (ap (λ n. drop n ((w ++ joined ws) ++ zeros z)) more ∙ sym (drop-drop (8 * i) 8 ((w ++ joined ws) ++ zeros z)) ∙ ap (drop (8 * i)) after)
    ∙ word_in ws z i (All-tail (λ (v : List ℕ). length v ≡ 8) w ws are) (omega (arith, fits, eight, length-append w (joined ws)))

-- so long is the encoding at least
pub length-table : (taken : ℕ) (t : Table) → 65536 * taken ≤ length (table_bytes taken t)
length-table taken t =
    let head = table_head (length t.entries) t.next_id t.root in
    let all = flat_map table_entry t.entries in
    omega (
      arith,
      length-append (head ++ all) (zeros (zero_count taken t)),
      length-append head all,
      length-entries t.entries,
      length-fields table_magic (length t.entries) t.next_id t.root,
      length-replicate {A = ℕ} (zero_count taken t) 0,
    )

-- a block of it is a block long
length-part : (taken : ℕ) (t : Table) (k : ℕ) → k < 16 * taken → length (part taken t k) ≡ 4096
length-part taken t k lt =
    length-take-le 4096 (drop (4096 * k) (table_bytes taken t)) (omega (arith, lt, length-table taken t, length-drop (4096 * k) (table_bytes taken t)))

-- one word more of a block
pub part_more : (taken : ℕ) (t : Table) (k i : ℕ) → k < 16 * taken → i < 512
    → take (8 * (i + 1)) (drop (4096 * k) (table_bytes taken t)) ≡ take (8 * i) (drop (4096 * k) (table_bytes taken t)) ++ word_at t (512 * k + i)
part_more taken t k i lt in_block =
    let bytes = table_bytes taken t in
    let place : 4096 * k + 8 * i ≡ 8 * (512 * k + i) = omega arith in
    let fits : 8 * (512 * k + i + 1) ≤ length (joined (words t)) + zero_count taken t =
    omega (
      arith,
      lt,
      in_block,
      length-table taken t,
      ap length (table_in_words taken t),
      length-append (joined (words t)) (zeros (zero_count taken t)),
      length-replicate {A = ℕ} (zero_count taken t) 0,
    ) in
    ap (λ n. take n (drop (4096 * k) bytes)) (let e : 8 * (i + 1) ≡ 8 * i + 8 = omega arith in e) ∙ take-add (8 * i) 8 (drop (4096 * k) bytes)
    ∙ ap (λ l. take (8 * i) (drop (4096 * k) bytes) ++ take 8 l) (drop-drop (8 * i) (4096 * k) bytes ∙ ap (λ n. drop n bytes) place ∙ ap (drop (8 * (512 * k + i))) (table_in_words taken t))
    ∙ ap (λ l. take (8 * i) (drop (4096 * k) bytes) ++ l) (word_in (words t) (zero_count taken t) (512 * k + i) (are_words t) fits)

-- the words of an entry
pub in_entry : (entries : List TableEntry) (i p : ℕ) (e : TableEntry) → i < length entries → p < 3
    → entry_word entries (3 * i + p) ≡ get_or (entry_words (get_or entries i e)) p (zeros 8)
in_entry [] i p e lt small = absurd (omega arith)
in_entry (x ∷ xs) zero p e lt small =
    let e0 : 3 * zero + p ≡ p = omega arith in
    ap (λ n. get_or (entry_words x ++ flat_map entry_words xs) n (zeros 8)) e0 ∙ get_or-append (entry_words x) (flat_map entry_words xs) (zeros 8) p small
in_entry (x ∷ xs) (suc i) p e lt small =
    let more : 3 * suc i + p ≡ 3 + (3 * i + p) = omega arith in
    ap (λ n. get_or (entry_words x ++ flat_map entry_words xs) n (zeros 8)) more ∙ get_or-append-add (entry_words x) (flat_map entry_words xs) (3 * i + p) (zeros 8)
    ∙ in_entry xs i p e (omega (arith, lt)) small

length-words : (entries : List TableEntry) → length (flat_map entry_words entries) ≡ 3 * length entries
length-words [] = omega arith
length-words (e ∷ es) = omega (arith, length-words es)

-- after the last entry there are zeros
pub past_entries : (entries : List TableEntry) (index : ℕ) → length entries ≤ index / 3 → entry_word entries index ≡ zeros 8
past_entries entries index past = get_or_past (flat_map entry_words entries) index (zeros 8) (omega (arith, past, length-words entries))

-- a block of the encoding fills the block into which it is put
pub filled : (old new : Out) (taken : ℕ) (t : Table) (k : ℕ) → Puts old new (part taken t k) → k < 16 * taken → written old ≡ [] → length (room old) ≡ 4096
    → new.bytes.now ≡ part taken t k
filled old new taken t k puts lt none space = filled_array old new (part taken t k) puts none (omega (arith, space, length-part taken t k lt))
