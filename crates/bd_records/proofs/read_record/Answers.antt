use Rattle.std.proofs.Common.{take, drop, length, ◌-◌, subst}
use Rattle.bd_records.specs.Records.{IsLenModeReadAs}
use Rattle.bd_records.proofs.Lengths.{no_file}
use Rattle.bd_records.proofs.read_record.Goals as goal

pub returns-in-None-read_len_mode : goal.returns-in-None-read_len_mode
returns-in-None-read_len_mode c =
    let bytes = c.args.bytes.now in
    no_file bytes c.in-len1-up.len_at_least c.in-70.is (subst (IsLenModeReadAs (take (length bytes - 1) (drop 1 bytes))) c.in-None-read_len_mode.is c.read_len_mode.ensures)
