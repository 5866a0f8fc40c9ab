-- Tables as bytes: how long they are, and that one encoding is of one table.
use Rattle.std.proofs.Common.{◌≡◌, ◌≢◌, ℕ, ◌+◌, ◌-◌, ◌*◌, ◌<◌, List, ◌++◌, length, All, refl, sym, ap, subst, ◌∙◌, arith, append_assoc, length-append}
use Rattle.std.specs.Int.{w32, w64}
use Rattle.std.specs.List.{flat_map}
use Rattle.std.proofs.lemmas.List.{length-replicate}
use Rattle.bd_limits.specs.Limits.{slot_size}
use Rattle.bd_slots.proofs.Items.{items_alone, length-items, fronts_alone}
use Rattle.bd_wire.specs.Encoding.{IsPrefixFree}
use Rattle.bd_wire.specs.Numbers.{be}
use Rattle.bd_wire.specs.Text.{zeros, AreZeros}
use Rattle.bd_wire.specs.Reading.{Unread, Reads}
use Rattle.bd_wire.proofs.NumberLemmas.{length-be, IsPrefixFree-be}
use Rattle.bd_wire.proofs.ReadingLemmas.{Reads-append}
use Rattle.bd_table.specs.Tables.{IsTableAt, FitsTableEntry, FitsTableHead, table_entry, table_head, table_magic, table_bytes}
use Rattle.bd_table.specs.declared.table.Table.{Table}
use Rattle.bd_table.specs.declared.table.TableEntry.{TableEntry}

-- a head, whatever its magic
abbrev pub fields : List ℕ → ℕ → ℕ → ℕ → List ℕ
fields m c n r = m ++ be w64 c ++ be w64 n ++ be w64 r

fields_in_order : (m : List ℕ) (c n r : ℕ) (x : List ℕ) → fields m c n r ++ x ≡ m ++ (be w64 c ++ (be w64 n ++ (be w64 r ++ x)))
fields_in_order m c n r x = simp append_assoc refl

pub length-fields : (m : List ℕ) (c n r : ℕ) → length (fields m c n r) ≡ length m + 24
length-fields m c n r = simp (length-append, length-be) (omega arith)

-- read one after the other
pub fields_read : (a b c d e : Unread) (m : List ℕ) (count next root : ℕ) → Reads a b m → Reads b c (be w64 count) → Reads c d (be w64 next) → Reads d e (be w64 root)
    → Reads a e (fields m count next root)
fields_read a b c d e m count next root r1 r2 r3 r4 =
    let two = Reads-append a b c m (be w64 count) r1 r2 in
    let three = Reads-append a c d (m ++ be w64 count) (be w64 next) two r3 in
    Reads-append a d e (m ++ be w64 count ++ be w64 next) (be w64 root) three r4

-- the magic is that of any head
pub one_magic : (m n : List ℕ) (c x r c' x' r' : ℕ) (a b : List ℕ) → length m ≡ length n → fields m c x r ++ a ≡ fields n c' x' r' ++ b → m ≡ n
one_magic m n c x r c' x' r' a b same e =
    (fronts_alone m n (be w64 c ++ (be w64 x ++ (be w64 r ++ a))) (be w64 c' ++ (be w64 x' ++ (be w64 r' ++ b))) same
    (sym (fields_in_order m c x r a) ∙ e ∙ fields_in_order n c' x' r' b)).0

-- heads of numbers that fit are prefix-free
heads_alone : (c x r c' x' r' : ℕ) (a b : List ℕ) → FitsTableHead c x r → FitsTableHead c' x' r' → table_head c x r ++ a ≡ table_head c' x' r' ++ b
    → (c ≡ c') × (x ≡ x') × (r ≡ r') × (a ≡ b)
heads_alone c x r c' x' r' a b fits fits' e =
    let r0 = fronts_alone table_magic table_magic (be w64 c ++ (be w64 x ++ (be w64 r ++ a))) (be w64 c' ++ (be w64 x' ++ (be w64 r' ++ b))) refl
    (sym (fields_in_order table_magic c x r a) ∙ e ∙ fields_in_order table_magic c' x' r' b) in
    let r1 = IsPrefixFree-be w64 c c' (be w64 x ++ (be w64 r ++ a)) (be w64 x' ++ (be w64 r' ++ b)) fits.0 fits'.0 r0.1 in
    let r2 = IsPrefixFree-be w64 x x' (be w64 r ++ a) (be w64 r' ++ b) fits.1 fits'.1 r1.1 in
    let r3 = IsPrefixFree-be w64 r r' a b fits.2 fits'.2 r2.1 in
    (r1.0, r2.0, r3.0, r3.1)

-- an entry takes 24 bytes
pub length-entry : (e : TableEntry) → length (table_entry e) ≡ 24
length-entry e = simp (length-append, length-be) (omega arith)

entry_in_order : (e : TableEntry) (x : List ℕ) → table_entry e ++ x ≡ be w64 e.id ++ (be w64 e.refs ++ (be w32 e.slot ++ (be w32 e.level ++ x)))
entry_in_order e x = simp append_assoc refl

made : ℕ → ℕ → ℕ → ℕ → TableEntry
made id refs slot level = record { id = id; refs = refs; slot = slot; level = level }

is_made : (e : TableEntry) → e ≡ made e.id e.refs e.slot e.level
unfolding made
is_made e = refl

-- entries are prefix-free
pub IsPrefixFree-entry : IsPrefixFree FitsTableEntry table_entry
IsPrefixFree-entry a b x y fa fb e =
    let all = sym (entry_in_order a x) ∙ e ∙ entry_in_order b y in
    let r0 = IsPrefixFree-be w64 a.id b.id (be w64 a.refs ++ (be w32 a.slot ++ (be w32 a.level ++ x))) (be w64 b.refs ++ (be w32 b.slot ++ (be w32 b.level ++ y))) fa.0 fb.0 all in
    let r1 = IsPrefixFree-be w64 a.refs b.refs (be w32 a.slot ++ (be w32 a.level ++ x)) (be w32 b.slot ++ (be w32 b.level ++ y)) fa.1 fb.1 r0.1 in
    let r2 = IsPrefixFree-be w32 a.slot b.slot (be w32 a.level ++ x) (be w32 b.level ++ y) fa.2 fb.2 r1.1 in
    let r3 = IsPrefixFree-be w32 a.level b.level x y fa.3 fb.3 r2.1 in
    let id : a.id ≡ b.id = r0.0 in
    let refs : a.refs ≡ b.refs = r1.0 in
    let slot : a.slot ≡ b.slot = r2.0 in
    let level : a.level ≡ b.level = r3.0 in
    let same : made a.id a.refs a.slot a.level ≡ made b.id b.refs b.slot b.level = cc in
    (is_made a ∙ same ∙ sym (is_made b), r3.1)

-- how many zeros follow the entries
abbrev pub zero_count : ℕ → Table → ℕ
zero_count taken t = slot_size * taken - (32 + 24 * length t.entries)

table_in_order : (taken : ℕ) (t : Table) → table_bytes taken t ≡ table_head (length t.entries) t.next_id t.root ++ (flat_map table_entry t.entries ++ zeros (zero_count taken t))
table_in_order taken t = append_assoc (table_head (length t.entries) t.next_id t.root) (flat_map table_entry t.entries) (zeros (zero_count taken t))

-- the entries of a table fit
entries_fit : (slots : ℕ) (at : List ℕ) (t : Table) → IsTableAt slots at t → All FitsTableEntry t.entries
entries_fit slots at t is k d lt =
    let e = is.entries.each k d lt in
    (e.last_id, e.last_refs, e.slot, omega (arith, e.level))

-- so does its head: the root is one of the nodes
head_fits : (slots : ℕ) (at : List ℕ) (t : Table) → IsTableAt slots at t → FitsTableHead (length t.entries) t.next_id t.root
head_fits slots at t is =
    let r = is.entries.has_root in
    let below : r.1.id < t.next_id = subst (λ (e : TableEntry). e.id < t.next_id) r.3 (is.entries.below_next r.0 r.1 r.2) in
    (omega (arith, is.entries.most), is.last_id, omega (arith, below, r.4.0, is.last_id))

pub length-entries : (entries : List TableEntry) → length (flat_map table_entry entries) ≡ 24 * length entries
length-entries entries = length-items table_entry 24 length-entry entries

-- what a head is followed by in a table is its entries and zeros
pub head_alone : (slots : ℕ) (at : List ℕ) (count next root : ℕ) (left : List ℕ) (t : Table) → FitsTableHead count next root → IsTableAt slots at t
    → table_head count next root ++ left ≡ table_bytes (length at) t
    → (count ≡ length t.entries) × (next ≡ t.next_id) × (root ≡ t.root) × (left ≡ flat_map table_entry t.entries ++ zeros (zero_count (length at) t))
head_alone slots at count next root left t fits is e =
    heads_alone count next root (length t.entries) t.next_id t.root left (flat_map table_entry t.entries ++ zeros (zero_count (length at) t)) fits (head_fits slots at t is)
    (e ∙ table_in_order (length at) t)

-- without a head there is no table
pub no_head : (bytes : List ℕ) (taken : ℕ) (t : Table) → ((count next root : ℕ) (rest : List ℕ) → bytes ≢ table_head count next root ++ rest) → bytes ≢ table_bytes taken t
no_head bytes taken t none e =
    none (length t.entries) t.next_id t.root (flat_map table_entry t.entries ++ zeros (zero_count taken t)) (e ∙ table_in_order taken t)

-- too few bytes for the entries are left after no table's head
pub no_entries : (taken count : ℕ) (left : List ℕ) (t : Table) → count ≡ length t.entries → left ≡ flat_map table_entry t.entries ++ zeros (zero_count taken t)
    → length left < 24 * count → ⊥
no_entries taken count left t same e short =
    omega (arith, same, short, ap length e, length-append (flat_map table_entry t.entries) (zeros (zero_count taken t)), length-entries t.entries)

-- as many entries as the table has are those, and only zeros follow them
pub entries_alone : (slots : ℕ) (at : List ℕ) (entries : List TableEntry) (left : List ℕ) (t : Table) → All FitsTableEntry entries → IsTableAt slots at t → length entries ≡ length t.entries
    → flat_map table_entry entries ++ left ≡ flat_map table_entry t.entries ++ zeros (zero_count (length at) t) → (entries ≡ t.entries) × AreZeros left
entries_alone slots at entries left t fits is count e =
    let rest = zeros (zero_count (length at) t) in
    let same = items_alone FitsTableEntry table_entry IsPrefixFree-entry entries t.entries left rest count fits (entries_fit slots at t is) e in
    (same.0, same.1 ∙ ap zeros (sym (ap length same.1 ∙ length-replicate {A = ℕ} (zero_count (length at) t) 0)))

-- as many bytes as the slots have, with a head, as many entries as it says and zeros, are a table
pub table_whole : (taken : ℕ) (t : Table) (bytes left after : List ℕ) → length bytes ≡ slot_size * taken
    → bytes ≡ table_head (length t.entries) t.next_id t.root ++ left → left ≡ flat_map table_entry t.entries ++ after → AreZeros after → bytes ≡ table_bytes taken t
table_whole taken t bytes left after whole front entries rest =
    let head = table_head (length t.entries) t.next_id t.root in
    let all = flat_map table_entry t.entries in
    let count : length after ≡ zero_count taken t =
    omega (arith, whole, ap length front, ap length entries, length-append head left, length-append all after, length-entries t.entries, length-fields table_magic (length t.entries) t.next_id t.root) in
    front ∙ ap (λ l. head ++ l) (entries ∙ ap (λ z. all ++ z) (rest ∙ ap zeros count)) ∙ sym (table_in_order taken t)

table_of : ℕ → ℕ → List TableEntry → Table
table_of next root entries = record { next_id = next; root = root; entries = entries }

is_table_of : (t : Table) → t ≡ table_of t.next_id t.root t.entries
unfolding table_of
is_table_of t = refl

-- tables of the same fields are one
pub same_table : (a b : Table) → a.next_id ≡ b.next_id → a.root ≡ b.root → a.entries ≡ b.entries → a ≡ b
same_table a b next root entries =
    let same : table_of a.next_id a.root a.entries ≡ table_of b.next_id b.root b.entries = cc in
    is_table_of a ∙ same ∙ sym (is_table_of b)

-- one encoding is of one table
pub one_table : (slots : ℕ) (at : List ℕ) (a b : Table) → IsTableAt slots at a → IsTableAt slots at b → table_bytes (length at) a ≡ table_bytes (length at) b → a ≡ b
one_table slots at a b is_a is_b e =
    let left = flat_map table_entry a.entries ++ zeros (zero_count (length at) a) in
    let head = head_alone slots at (length a.entries) a.next_id a.root left b (head_fits slots at a is_a) is_b (sym (table_in_order (length at) a) ∙ e) in
    let entries = entries_alone slots at a.entries (zeros (zero_count (length at) a)) b (entries_fit slots at a is_a) is_b head.0 head.3 in
    same_table a b head.1 head.2 entries.0
