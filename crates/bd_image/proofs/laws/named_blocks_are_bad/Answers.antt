use Rattle.bd_image.proofs.Ones.{AreOne}
use Rattle.bd_image.proofs.Undamaged.{named_bad}
use Rattle.bd_image.proofs.laws.named_blocks_are_bad.Goals as goal

pub returns : goal.returns
returns c =
    let one : AreOne = record {
      supers = c.one_superblock_is_live.ensures;
      tables = c.tables_are_read_again.ensures;
      nodes = c.images_are_of_one_node.ensures;
      trees = c.one_represented.ensures;
      batches = c.batches_are_one.ensures;
      commands = c.log_records_are_prefix_free.ensures;
    } in
    named_bad one
