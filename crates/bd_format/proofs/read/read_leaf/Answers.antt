use Rattle.std.proofs.Common.{subst}
use Rattle.std.specs.Option.{option_map}
use Rattle.bd_format.specs.Images.{entry_bytes}
use Rattle.bd_format.specs.Parts.{AreReadAs, FitsEntry}
use Rattle.bd_format.proofs.Rest.{no_leaf_with, no_leaf}
use Rattle.bd_format.proofs.read.read_leaf.Goals as goal

pub returns-then-head-ne0 : goal.returns-then-head-ne0
returns-then-head-ne0 c = no_leaf_with c.args.head c.args.cursor.now.left c.requires.fits c.requires.level c.if-head-ne0.true

pub returns-in-None : goal.returns-in-None
returns-in-None c =
    no_leaf c.args.head c.args.cursor.now.left c.requires.fits c.requires.level
    (subst (λ found. AreReadAs c.args.head.items FitsEntry entry_bytes c.args.cursor.now c.read_entries.new.cursor (option_map (λ entries. entries.items) found)) c.in-None.is c.in_ok-entries.ensures)
