use Rattle.std.proofs.Common.{◌≡◌, ◌+◌, ◌*◌, ◌%◌, ◌-◌, ◌<◌, ◌≤◌, ◌⊎◌, ◌++◌, length, take, drop}
use Rattle.std.specs.Prelude.{All}
use Rattle.bd_limits.specs.Limits.{block_limit}
use Rattle.bd_message.specs.Messages.{IsMessage, IsPlain}
use Rattle.bd_files.specs.Sends.{IsOverwriting, patches_of}
use Rattle.bd_files.proofs.patches.patches.Given as goal

-- the messages so far overwrite the bytes so far, and each block but the first is touched from its beginning
abbrev pub invariant-loop-done : goal.invariant-loop-done
invariant-loop-done l = record {
  within : l.done ≤ length l.bytes;
  few : length l.list.items ≤ 3;
  more : l.done < length l.bytes → block_limit * length l.list.items ≤ l.done + 1023;
  first : l.done < length l.bytes → (l.done ≡ 0) ⊎ ((l.off + l.done) % block_limit ≡ 0);
  each : All IsMessage l.list.items;
  plain : All IsPlain l.list.items;
  rest : l.list.items ++ patches_of (3 - length l.list.items) l.path (l.off + l.done) (drop l.done l.bytes) ≡ patches_of 3 l.path l.off l.bytes;
  writes : IsOverwriting l.path l.off (take l.done l.bytes) l.list.items;
}

abbrev pub decreases-loop-done : goal.decreases-loop-done
decreases-loop-done l = length l.bytes - l.done
