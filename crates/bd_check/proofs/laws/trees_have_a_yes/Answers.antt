use Rattle.bd_image.proofs.Ones.{AreOne}
use Rattle.bd_check.proofs.GoodAnswers.{good_answer}
use Rattle.bd_check.proofs.laws.trees_have_a_yes.Goals as goal

pub returns : goal.returns
returns c image tree count v stands right =
    let one : AreOne = record {
      supers = c.one_superblock_is_live.ensures;
      tables = c.tables_are_read_again.ensures;
      nodes = c.images_are_of_one_node.ensures;
      trees = c.one_represented.ensures;
      batches = c.batches_are_one.ensures;
      commands = c.log_records_are_prefix_free.ensures;
    } in
    good_answer one c.images_are_decoded.ensures.found image (c.trees_are_undamaged.ensures image) tree count stands v right
