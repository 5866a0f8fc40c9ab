use Rattle.std.proofs.Common.{◌≡◌, ◌++◌, length, All, sym, ap, ◌∙◌, subst}
use Rattle.std.specs.List.{flat_map}
use Rattle.std.proofs.lemmas.Bool.{true≢false}
use Rattle.bd_wire.specs.Reading.{Reads}
use Rattle.bd_table.specs.Tables.{IsTableAt, FitsTableEntry, FitsTableHead, table_entry, table_head}
use Rattle.bd_table.specs.declared.table.Table.{Table}
use Rattle.bd_table.proofs.TableLemmas.{head_alone, no_entries, entries_alone, table_whole, same_table}
use Rattle.bd_table.proofs.table.Table.decode.Goals as goal
use Rattle.bd_table.proofs.table.Table.decode.Goals.{else-rest_is_zero-via-then-rest_is_zero+else-is_table, else-rest_is_zero-via-else-rest_is_zero}

pub returns-in_default : goal.returns-in_default
returns-in_default c = λ t is e.
    let h = c.in-Ok-Some.head in
    let left = c.read_head.new.cursor.left in
    let found : Reads c.new-cursor.result c.read_head.new.cursor (table_head h.count h.next_id h.root) = rw c.in-Ok-Some.field-0-is at c.in-Ok-Some.ensures.found in
    let fits : FitsTableHead h.count h.next_id h.root = rw c.in-Ok-Some.field-0-is at c.in-Ok-Some.ensures.fits in
    let short = rw c.in_default.is at c.in_ok-entries.ensures.short in
    let head = head_alone c.args.slots c.args.at.now h.count h.next_id h.root left t fits is (sym found.front ∙ c.new-cursor.ensures.left ∙ e) in
    no_entries (length c.args.at.now) h.count left t head.0 head.3 short

pub returns-then-is_table : goal.returns-then-is_table
returns-then-is_table c =
    let h = c.in-Ok-Some.head in
    let entries = c.in-Some.entries.items in
    let left = c.read_head.new.cursor.left in
    let after = c.read_entries.new.cursor.left in
    let found : Reads c.new-cursor.result c.read_head.new.cursor (table_head h.count h.next_id h.root) = rw c.in-Ok-Some.field-0-is at c.in-Ok-Some.ensures.found in
    let items : Reads c.read_head.new.cursor c.read_entries.new.cursor (flat_map table_entry entries) = rw c.in-Some.is at c.in_ok-entries.ensures.read in
    let count : length entries ≡ h.count = rw c.in-Some.is at c.in_ok-entries.ensures.count in
    let made : c.from_vec.result ≡ entries = c.from_vec.ensures in
    let t : Table = record { next_id = h.next_id; root = h.root; entries = c.from_vec.result } in
    let front = subst (λ n. c.args.bytes.now ≡ table_head n h.next_id h.root ++ left) (sym count ∙ ap length (sym made)) (sym c.new-cursor.ensures.left ∙ found.front) in (
      c.in_ok-is_table.ensures.0 c.if-is_table.true,
      table_whole (length c.args.at.now) t c.args.bytes.now left after c.requires.whole front (subst (λ l. left ≡ flat_map table_entry l ++ after) (sym made) items.front)
          (c.rest_is_zero.ensures.0 c.if-rest_is_zero.true),
    )

pub returns-else-rest_is_zero : goal.returns-else-rest_is_zero
returns-else-rest_is_zero c = λ t is e.
    let h = c.in-Ok-Some.head in
    let entries = c.in-Some.entries.items in
    let left = c.read_head.new.cursor.left in
    let found : Reads c.new-cursor.result c.read_head.new.cursor (table_head h.count h.next_id h.root) = rw c.in-Ok-Some.field-0-is at c.in-Ok-Some.ensures.found in
    let fits : FitsTableHead h.count h.next_id h.root = rw c.in-Ok-Some.field-0-is at c.in-Ok-Some.ensures.fits in
    let items : Reads c.read_head.new.cursor c.read_entries.new.cursor (flat_map table_entry entries) = rw c.in-Some.is at c.in_ok-entries.ensures.read in
    let count : length entries ≡ h.count = rw c.in-Some.is at c.in_ok-entries.ensures.count in
    let all : All FitsTableEntry entries = rw c.in-Some.is at c.in_ok-entries.ensures.fits in
    let head = head_alone c.args.slots c.args.at.now h.count h.next_id h.root left t fits is (sym found.front ∙ c.new-cursor.ensures.left ∙ e) in
    let same = entries_alone c.args.slots c.args.at.now entries c.read_entries.new.cursor.left t all is (count ∙ head.0) (sym items.front ∙ head.3) in
    let made : Table = record { next_id = h.next_id; root = h.root; entries = c.from_vec.result } in
    let is_t : made ≡ t = same_table made t head.1 head.2 (c.from_vec.ensures ∙ same.0) in
    elim c.else-rest_is_zero.branch [
      | else-rest_is_zero-via-then-rest_is_zero+else-is_table w ↦
          true≢false (sym (c.in_ok-is_table.ensures.1 (subst (IsTableAt c.args.slots c.args.at.now) (sym is_t) is)) ∙ w.if-is_table.false)
      | else-rest_is_zero-via-else-rest_is_zero w ↦ true≢false (sym (c.rest_is_zero.ensures.1 same.1) ∙ w.if-rest_is_zero.false)
    ]
