use Rattle.std.proofs.Common.{◌≡◌, ◌≢◌, Option, refl, subst, arith}
use Rattle.std.specs.Prelude.{MatchOption}
use Rattle.bd_node.specs.declared.node.Node.{Node}
use Rattle.bd_node.specs.Nodes.{level_of}
use Rattle.bd_pager.proofs.ReadLemmas.{past_end, none_there, other_there, node_there, of_level_there}
use Rattle.bd_pager.proofs.reading.read_node.Goals as goal

pub returns-then-blocks-block-clause-cause : goal.returns-then-blocks-block-clause-cause
returns-then-blocks-block-clause-cause g c =
    record {
      later = omega arith;
      kept = tt;
      failed = (
        (
          c.slot_block-block.ensures,
          past_end (g.D.Device.contents c.args.dev.now) (g.D.Device.block_count c.args.dev.now) c.args.slot c.args.level c.nodes_fit_slots.ensures.slot c.blocks-2.ensures.shape
              (omega (arith, c.if-blocks-block.true, c.slot_block-block.ensures, c.blocks-2.ensures.count)),
        ),
        refl,
      );
    }

pub returns-in_default-clause-cause : goal.returns-in_default-clause-cause
returns-in_default-clause-cause g c =
    let known = g.D.Device.contents c.args.dev.now in
    let bytes = c.read_slot.new.bytes in
    let kept = c.in_ok-read_slot.ensures.cause.kept in
    record {
      later = omega (arith, kept);
      kept = tt;
      failed = (
        (
          c.slot_block-block.ensures,
          none_there known bytes c.args.slot c.args.level _
              c.in_ok-read_slot.ensures.bytes
              c.in_ok-read.ensures c.in_default.is,
        ),
        kept,
      );
    }

pub returns-in_default-of_level-clause-cause : goal.returns-in_default-of_level-clause-cause
returns-in_default-of_level-clause-cause g c =
    let known = g.D.Device.contents c.args.dev.now in
    let bytes = c.read_slot.new.bytes in
    let kept = c.in_ok-read_slot.ensures.cause.kept in
    record {
      later = omega (arith, kept);
      kept = tt;
      failed = (
        (
          c.slot_block-block.ensures,
          other_there known bytes c.args.slot c.args.level _ c.in-Some.read c.images_are_of_one_node.ensures
              c.in_ok-read_slot.ensures.bytes
              c.in_ok-read.ensures c.in-Some.is
              (subst (λ (o : Option Node). MatchOption o (level_of c.in-Some.read ≢ c.args.level) (λ same. (same ≡ c.in-Some.read) × (level_of c.in-Some.read ≡ c.args.level))) c.in_default-of_level.is c.of_level.ensures),
        ),
        kept,
      );
    }

pub returns-clause-held : goal.returns-clause-held
returns-clause-held g c =
    let known = g.D.Device.contents c.args.dev.now in
    let bytes = c.read_slot.new.bytes in
    node_there known bytes c.args.slot c.args.level _ c.in-Some.read _
    c.in_ok-read_slot.ensures.bytes
    c.in_ok-read.ensures c.in-Some.is c.in-Some-of_level.ensures.0 c.in-Some-of_level.ensures.1

pub returns-clause-node : goal.returns-clause-node
returns-clause-node g c =
    of_level_there c.read_slot.new.bytes c.args.level _ c.in-Some.read _ c.in_ok-read.ensures c.in-Some.is c.in-Some-of_level.ensures.0 c.in-Some-of_level.ensures.1
