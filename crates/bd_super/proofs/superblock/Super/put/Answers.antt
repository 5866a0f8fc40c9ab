use Rattle.std.proofs.Common.{◌≡◌, ◌-◌, ◌*◌, ◌++◌, length, ap, subst, arith}
use Rattle.std.specs.Int.{w32, w64}
use Rattle.std.specs.List.{flat_map}
use Rattle.std.proofs.lemmas.List.{length-drop}
use Rattle.bd_slots.proofs.Items.{length-items}
use Rattle.bd_wire.specs.Numbers.{be}
use Rattle.bd_wire.specs.Text.{zeros}
use Rattle.bd_wire.specs.Writing.{Puts, room}
use Rattle.bd_wire.proofs.NumberLemmas.{length-be}
use Rattle.bd_wire.proofs.WritingLemmas.{Puts-append}
use Rattle.bd_super.specs.Superblocks.{version_number, super_magic}
use Rattle.bd_super.proofs.superblock.Super.put.Goals as goal

pub put_numbers-requires : goal.put_numbers-requires
put_numbers-requires c =
    let all = length-items (be w32) 4 (length-be w32) c.as_slice-2.result.now in
    let t = ap length c.as_slice-2.ensures in
    omega (
      arith,
      all,
      t,
      c.requires.room,
      c.requires.super_is.table.most,
      c.put_bytes.ensures.left,
      c.put_u32.ensures.left,
      c.put_u32-2.ensures.left,
      c.put_u64.ensures.left,
      c.put_u64-2.ensures.left,
      c.put_u32-3.ensures.left,
    )

pub returns : goal.returns
returns c =
    let s = c.args.self.now in
    let start = c.args.out.now in
    let o6 = c.put_u32-3.new.self in
    let o7 = c.put_numbers.new.out in
    let x1 = be w32 (version_number s.version) in
    let x2 = be w32 s.slots in
    let x3 = be w64 s.epoch in
    let x4 = be w64 s.count in
    let x5 = be w32 (length s.table) in
    let x6 = flat_map (be w32) s.table in
    let version : Puts c.put_bytes.new.self c.put_u32.new.self x1 = subst (λ n. Puts c.put_bytes.new.self c.put_u32.new.self (be w32 n)) c.number.ensures c.put_u32.ensures.puts in
    let count : Puts c.put_u64-2.new.self o6 x5 = subst (λ l. Puts c.put_u64-2.new.self o6 (be w32 (length l))) c.as_slice.ensures c.put_u32-3.ensures.puts in
    let table : Puts o6 o7 x6 = subst (λ l. Puts o6 o7 (flat_map (be w32) l)) c.as_slice-2.ensures c.put_numbers.ensures in
    let left : length (room o7) ≡ 4060 - 4 * length s.table =
    omega (
      arith,
      ap length table.room,
      length-drop (length x6) (room o6),
      length-items (be w32) 4 (length-be w32) s.table,
      c.requires.room,
      c.requires.super_is.table.most,
      c.put_bytes.ensures.left,
      c.put_u32.ensures.left,
      c.put_u32-2.ensures.left,
      c.put_u64.ensures.left,
      c.put_u64-2.ensures.left,
      c.put_u32-3.ensures.left,
    ) in
    let rest : Puts o7 c.put_zeros.new.self (zeros (4060 - 4 * length s.table)) = subst (λ n. Puts o7 c.put_zeros.new.self (zeros n)) left c.put_zeros.ensures in
    let two = Puts-append start c.put_bytes.new.self c.put_u32.new.self super_magic x1 c.put_bytes.ensures.puts version in
    let three = Puts-append start c.put_u32.new.self c.put_u32-2.new.self (super_magic ++ x1) x2 two c.put_u32-2.ensures.puts in
    let four = Puts-append start c.put_u32-2.new.self c.put_u64.new.self (super_magic ++ x1 ++ x2) x3 three c.put_u64.ensures.puts in
    let five = Puts-append start c.put_u64.new.self c.put_u64-2.new.self (super_magic ++ x1 ++ x2 ++ x3) x4 four c.put_u64-2.ensures.puts in
    let six = Puts-append start c.put_u64-2.new.self o6 (super_magic ++ x1 ++ x2 ++ x3 ++ x4) x5 five count in
    let seven = Puts-append start o6 o7 (super_magic ++ x1 ++ x2 ++ x3 ++ x4 ++ x5) x6 six table in
    Puts-append start o7 c.put_zeros.new.self (super_magic ++ x1 ++ x2 ++ x3 ++ x4 ++ x5 ++ x6) (zeros (4060 - 4 * length s.table)) seven rest
