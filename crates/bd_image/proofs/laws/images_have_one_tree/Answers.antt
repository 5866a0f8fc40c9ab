use Rattle.bd_image.proofs.Ones.{AreOne, one_tree}
use Rattle.bd_image.proofs.laws.images_have_one_tree.Goals as goal

pub returns : goal.returns
returns c =
    let one : AreOne = record {
      supers = c.one_superblock_is_live.ensures;
      tables = c.tables_are_read_again.ensures;
      nodes = c.images_are_of_one_node.ensures;
      trees = c.one_represented.ensures;
      batches = c.batches_are_one.ensures;
      commands = c.log_records_are_prefix_free.ensures;
    } in
    one_tree one
