use Rattle.std.proofs.Common.{◌≡◌, ◌+◌, ◌*◌, ◌≤◌, ◌++◌, length, take}
use Rattle.std.specs.List.{All, flat_map}
use Rattle.bd_script.specs.Replies.{IsNamed, listed_text}
use Rattle.bd_script.proofs.replies.put_names.Given as goal

abbrev pub invariant-loop-listed : goal.invariant-loop-listed
invariant-loop-listed l = record {
  names : All IsNamed (take l.listed-index l.names);
  text : take l.end l.into ≡ take l.at l.initial.into ++ flat_map listed_text (take l.listed-index l.names);
  end : l.end ≡ l.at + length (flat_map listed_text (take l.listed-index l.names));
  bound : l.end ≤ l.at + 257 * l.listed-index;
}
