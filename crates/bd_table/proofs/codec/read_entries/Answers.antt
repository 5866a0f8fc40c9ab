use Rattle.std.proofs.Common.{length, ap, arith, length-append}
use Rattle.std.specs.List.{flat_map}
use Rattle.bd_slots.proofs.Items.{length-items}
use Rattle.bd_table.specs.Tables.{table_entry}
use Rattle.bd_table.proofs.TableLemmas.{length-entry}
use Rattle.bd_table.proofs.codec.read_entries.Goals as goal

pub returns-in-Err-clause-short : goal.returns-in-Err-clause-short
returns-in-Err-clause-short c =
    let entries = c.loop.entries.items in
    omega (
      arith,
      c.loop-test.true,
      c.in-Err.ensures.short,
      ap length c.loop.invariant.read.front,
      c.loop.invariant.count,
      length-items table_entry 24 length-entry entries,
      length-append (flat_map table_entry entries) c.loop.cursor.left,
    )
