use Rattle.std.proofs.Common.{◌≡◌, [], ◌∷◌, Option, IfSome, true, false, refl, ap, sym, subst}
use Rattle.bd_device.specs.Blocks.{Image}
use Rattle.bd_device.specs.Changes.{StaysBut}
use Rattle.bd_device.specs.Device.{left_now}
use Rattle.bd_device.specs.Moments.{TornAt}
use Rattle.bd_mirror.specs.Contents.{is_open_at}
use Rattle.bd_mirror.proofs.Copies.{copied_from, elapses_none, left_open, only_has, only_read, open_known, stays_none}
use Rattle.bd_mirror.proofs.Crashes.{stretch_marking, stretch_copying, stretch_ending}
use Rattle.bd_mirror.proofs.Behind.{mark_within, copied_within, keeps_open, keeps_source, keeps_copied}
use Rattle.bd_device.proofs.Changes.{stays_both}
use Rattle.bd_device.proofs.Images.{OnErr-always}
use Rattle.bd_mirror.proofs.copying.mirror_onto.Goals as goal

pub returns-then-not-branch-clause-source_durable : goal.returns-then-not-branch-clause-source_durable
returns-then-not-branch-clause-source_durable g c =
    only_read g.S.Device c.open_closed.new.half c.copy_blocks.new.source c.copy_blocks.ensures.reads (g.met.S.Device.since_earlier c.copy_blocks.new.source)
    c.in_ok-open_closed.ensures.durable

pub returns-then-not-branch-clause-copy_left : goal.returns-then-not-branch-clause-copy_left
returns-then-not-branch-clause-copy_left g c =
    left_open c.args.mark false c.copy_blocks.ensures.time (g.met.C.Device.since_earlier c.copy_blocks.new.copy)
    (only_has (λ image. is_open_at c.args.mark image ≡ false) (g.C.Device.contents c.close_opened.new.half) c.in_ok-close_opened.ensures.durable c.in_ok-close_opened.ensures.closed)

pub returns-clause-copied : goal.returns-clause-copied
returns-clause-copied g c = λ _.
    copied_from c.args.mark (g.S.Device.contents c.args.source.now) (g.S.Device.contents c.open_closed.new.half) (g.C.Device.contents c.copy_blocks.new.copy)
    c.open_closed.ensures.others (c.in_ok-copy_blocks.ensures.copied c.if-not-branch.false)

-- ---- what a crash inside it may leave

pub returns-in_err-open_closed-clause-inside : goal.returns-in_err-open_closed-clause-inside
returns-in_err-open_closed-clause-inside g c = λ a b ka kb.
    let copy = c.args.copy.now in (
      [],
      stretch_marking g.S.Device g.C.Device c.args.mark a b c.args.is_source_open c.args.is_copy_open c.args.source.now c.open_closed.new.half copy copy ka kb
          c.requires.source_mark c.requires.copy_mark c.requires.source_first c.requires.source_settled c.requires.copy_settled c.open_closed.ensures.stays (stays_none g.C.Device copy)
          c.open_closed.ensures.time (elapses_none (g.C.Device.call_count copy) (g.C.Device.left_since copy) (TornAt c.args.mark (left_now g.C.Device copy)))
          c.open_closed.ensures.unwritten (λ _. refl),
    )

pub returns-in_err-close_opened-clause-inside : goal.returns-in_err-close_opened-clause-inside
returns-in_err-close_opened-clause-inside g c = λ a b ka kb. (
  [],
  stretch_marking g.S.Device g.C.Device c.args.mark a b c.args.is_source_open c.args.is_copy_open c.args.source.now c.open_closed.new.half c.args.copy.now c.close_opened.new.half ka kb
      c.requires.source_mark c.requires.copy_mark c.requires.source_first c.requires.source_settled c.requires.copy_settled c.open_closed.ensures.stays c.close_opened.ensures.stays
      c.open_closed.ensures.time c.close_opened.ensures.time c.open_closed.ensures.unwritten c.close_opened.ensures.unwritten,
)

pub returns-in_err-copy_blocks-clause-inside : goal.returns-in_err-copy_blocks-clause-inside
returns-in_err-copy_blocks-clause-inside g c = λ a b ka kb. (
  (c.open_closed.new.half, c.close_opened.new.half) ∷ [],
  (
    stretch_marking g.S.Device g.C.Device c.args.mark a b c.args.is_source_open c.args.is_copy_open c.args.source.now c.open_closed.new.half c.args.copy.now c.close_opened.new.half ka kb
        c.requires.source_mark c.requires.copy_mark c.requires.source_first c.requires.source_settled c.requires.copy_settled c.open_closed.ensures.stays c.close_opened.ensures.stays
        c.open_closed.ensures.time c.close_opened.ensures.time c.open_closed.ensures.unwritten c.close_opened.ensures.unwritten,
    stretch_copying g.S.Device g.C.Device c.args.mark a b c.args.is_source_open c.args.is_copy_open c.args.source.now c.open_closed.new.half c.copy_blocks.new.source c.args.copy.now c.close_opened.new.half c.copy_blocks.new.copy ka kb
        c.requires.source_mark c.requires.copy_mark c.requires.source_first c.open_closed.ensures.others c.in_ok-open_closed.ensures.opened c.in_ok-open_closed.ensures.durable
        c.copy_blocks.ensures.reads c.in_ok-close_opened.ensures.closed c.in_ok-close_opened.ensures.durable c.copy_blocks.ensures.stays c.copy_blocks.ensures.time,
  ),
)

pub returns-then-not-branch-clause-inside : goal.returns-then-not-branch-clause-inside
returns-then-not-branch-clause-inside g c = λ a b ka kb. (
  (c.open_closed.new.half, c.close_opened.new.half) ∷ [],
  (
    stretch_marking g.S.Device g.C.Device c.args.mark a b c.args.is_source_open c.args.is_copy_open c.args.source.now c.open_closed.new.half c.args.copy.now c.close_opened.new.half ka kb
        c.requires.source_mark c.requires.copy_mark c.requires.source_first c.requires.source_settled c.requires.copy_settled c.open_closed.ensures.stays c.close_opened.ensures.stays
        c.open_closed.ensures.time c.close_opened.ensures.time c.open_closed.ensures.unwritten c.close_opened.ensures.unwritten,
    stretch_copying g.S.Device g.C.Device c.args.mark a b c.args.is_source_open c.args.is_copy_open c.args.source.now c.open_closed.new.half c.copy_blocks.new.source c.args.copy.now c.close_opened.new.half c.copy_blocks.new.copy ka kb
        c.requires.source_mark c.requires.copy_mark c.requires.source_first c.open_closed.ensures.others c.in_ok-open_closed.ensures.opened c.in_ok-open_closed.ensures.durable
        c.copy_blocks.ensures.reads c.in_ok-close_opened.ensures.closed c.in_ok-close_opened.ensures.durable c.copy_blocks.ensures.stays c.copy_blocks.ensures.time,
  ),
)

pub returns-in_err-close_source-clause-inside : goal.returns-in_err-close_source-clause-inside
returns-in_err-close_source-clause-inside g c = λ a b ka kb. (
  (c.open_closed.new.half, c.close_opened.new.half) ∷ (c.copy_blocks.new.source, c.copy_blocks.new.copy) ∷ [],
  (
    stretch_marking g.S.Device g.C.Device c.args.mark a b c.args.is_source_open c.args.is_copy_open c.args.source.now c.open_closed.new.half c.args.copy.now c.close_opened.new.half ka kb
        c.requires.source_mark c.requires.copy_mark c.requires.source_first c.requires.source_settled c.requires.copy_settled c.open_closed.ensures.stays c.close_opened.ensures.stays
        c.open_closed.ensures.time c.close_opened.ensures.time c.open_closed.ensures.unwritten c.close_opened.ensures.unwritten,
    (
      stretch_copying g.S.Device g.C.Device c.args.mark a b c.args.is_source_open c.args.is_copy_open c.args.source.now c.open_closed.new.half c.copy_blocks.new.source c.args.copy.now c.close_opened.new.half c.copy_blocks.new.copy ka kb
          c.requires.source_mark c.requires.copy_mark c.requires.source_first c.open_closed.ensures.others c.in_ok-open_closed.ensures.opened c.in_ok-open_closed.ensures.durable
          c.copy_blocks.ensures.reads c.in_ok-close_opened.ensures.closed c.in_ok-close_opened.ensures.durable c.copy_blocks.ensures.stays c.copy_blocks.ensures.time,
      stretch_ending g.S.Device g.C.Device c.args.mark a b c.args.is_source_open c.args.is_copy_open c.args.source.now c.copy_blocks.new.source c.close_source.new.source c.args.copy.now c.copy_blocks.new.copy ka kb
          c.requires.source_mark c.requires.copy_mark c.requires.source_first
          (subst (λ (o : Option Image). StaysBut (λ i. i ≡ c.args.mark) (g.S.Device.contents c.args.source.now) o) (sym c.copy_blocks.ensures.reads.kept) c.open_closed.ensures.others)
          (only_read g.S.Device c.open_closed.new.half c.copy_blocks.new.source c.copy_blocks.ensures.reads (g.met.S.Device.since_earlier c.copy_blocks.new.source) c.in_ok-open_closed.ensures.durable)
          c.close_source.ensures.stays c.close_source.ensures.time
          (copied_from c.args.mark (g.S.Device.contents c.args.source.now) (g.S.Device.contents c.open_closed.new.half) (g.C.Device.contents c.copy_blocks.new.copy)
          c.open_closed.ensures.others (c.in_ok-copy_blocks.ensures.copied c.if-not-branch.false))
          (open_known c.args.mark false (g.C.Device.contents c.close_opened.new.half) (g.C.Device.contents c.copy_blocks.new.copy) c.copy_blocks.ensures.others c.in_ok-close_opened.ensures.closed)
          (c.in_ok-copy_blocks.ensures.durable c.if-not-branch.false),
    ),
  ),
)

pub returns-clause-inside : goal.returns-clause-inside
returns-clause-inside g c = λ a b ka kb. (
  (c.open_closed.new.half, c.close_opened.new.half) ∷ (c.copy_blocks.new.source, c.copy_blocks.new.copy) ∷ [],
  (
    stretch_marking g.S.Device g.C.Device c.args.mark a b c.args.is_source_open c.args.is_copy_open c.args.source.now c.open_closed.new.half c.args.copy.now c.close_opened.new.half ka kb
        c.requires.source_mark c.requires.copy_mark c.requires.source_first c.requires.source_settled c.requires.copy_settled c.open_closed.ensures.stays c.close_opened.ensures.stays
        c.open_closed.ensures.time c.close_opened.ensures.time c.open_closed.ensures.unwritten c.close_opened.ensures.unwritten,
    (
      stretch_copying g.S.Device g.C.Device c.args.mark a b c.args.is_source_open c.args.is_copy_open c.args.source.now c.open_closed.new.half c.copy_blocks.new.source c.args.copy.now c.close_opened.new.half c.copy_blocks.new.copy ka kb
          c.requires.source_mark c.requires.copy_mark c.requires.source_first c.open_closed.ensures.others c.in_ok-open_closed.ensures.opened c.in_ok-open_closed.ensures.durable
          c.copy_blocks.ensures.reads c.in_ok-close_opened.ensures.closed c.in_ok-close_opened.ensures.durable c.copy_blocks.ensures.stays c.copy_blocks.ensures.time,
      stretch_ending g.S.Device g.C.Device c.args.mark a b c.args.is_source_open c.args.is_copy_open c.args.source.now c.copy_blocks.new.source c.close_source.new.source c.args.copy.now c.copy_blocks.new.copy ka kb
          c.requires.source_mark c.requires.copy_mark c.requires.source_first
          (subst (λ (o : Option Image). StaysBut (λ i. i ≡ c.args.mark) (g.S.Device.contents c.args.source.now) o) (sym c.copy_blocks.ensures.reads.kept) c.open_closed.ensures.others)
          (only_read g.S.Device c.open_closed.new.half c.copy_blocks.new.source c.copy_blocks.ensures.reads (g.met.S.Device.since_earlier c.copy_blocks.new.source) c.in_ok-open_closed.ensures.durable)
          c.close_source.ensures.stays c.close_source.ensures.time
          (copied_from c.args.mark (g.S.Device.contents c.args.source.now) (g.S.Device.contents c.open_closed.new.half) (g.C.Device.contents c.copy_blocks.new.copy)
          c.open_closed.ensures.others (c.in_ok-copy_blocks.ensures.copied c.if-not-branch.false))
          (open_known c.args.mark false (g.C.Device.contents c.close_opened.new.half) (g.C.Device.contents c.copy_blocks.new.copy) c.copy_blocks.ensures.others c.in_ok-close_opened.ensures.closed)
          (c.in_ok-copy_blocks.ensures.durable c.if-not-branch.false),
    ),
  ),
)

-- ---- what both show where it fails

pub returns-in_err-open_closed-clause-behind : goal.returns-in_err-open_closed-clause-behind
returns-in_err-open_closed-clause-behind g c =
    OnErr-always _ (keeps_open c.args.mark c.args.is_source_open c.args.is_copy_open _ _ _ c.requires.copy_mark c.requires.source_first c.open_closed.ensures.others
    (λ opens. ap g.S.Device.contents (c.open_closed.ensures.unwritten opens)))

pub returns-in_err-close_opened-clause-behind : goal.returns-in_err-close_opened-clause-behind
returns-in_err-close_opened-clause-behind g c =
    let copy = c.args.copy.now in
    OnErr-always _ (keeps_source c.args.mark c.args.is_source_open c.args.is_copy_open _ _ _ _ c.requires.source_mark c.requires.copy_mark c.requires.source_first c.open_closed.ensures.others
    (mark_within c.args.mark (g.C.Device.contents copy) (g.C.Device.contents c.close_opened.new.half) c.close_opened.ensures.others) c.in_ok-open_closed.ensures.opened
    (λ closed. subst (λ d. IfSome (g.C.Device.contents d) (λ i. is_open_at c.args.mark i ≡ false)) (sym (c.close_opened.ensures.unwritten closed))
    (subst (λ o. IfSome (g.C.Device.contents copy) (λ i. is_open_at c.args.mark i ≡ o)) closed c.requires.copy_mark)))

pub returns-in_err-copy_blocks-clause-behind : goal.returns-in_err-copy_blocks-clause-behind
returns-in_err-copy_blocks-clause-behind g c =
    let kept = sym c.copy_blocks.ensures.reads.kept in
    OnErr-always _ (keeps_source c.args.mark c.args.is_source_open c.args.is_copy_open _ _ _ _ c.requires.source_mark c.requires.copy_mark c.requires.source_first
    (subst (λ (o : Option Image). StaysBut (λ i. i ≡ c.args.mark) (g.S.Device.contents c.args.source.now) o) kept c.open_closed.ensures.others)
    (copied_within c.args.mark (g.C.Device.contents c.args.copy.now) (g.C.Device.contents c.close_opened.new.half) (g.C.Device.contents c.copy_blocks.new.copy) c.close_opened.ensures.others c.copy_blocks.ensures.others)
    (subst (λ (o : Option Image). IfSome o (λ i. is_open_at c.args.mark i ≡ true)) kept c.in_ok-open_closed.ensures.opened)
    (λ _. open_known c.args.mark false (g.C.Device.contents c.close_opened.new.half) (g.C.Device.contents c.copy_blocks.new.copy) c.copy_blocks.ensures.others c.in_ok-close_opened.ensures.closed))

pub returns-in_err-close_source-clause-behind : goal.returns-in_err-close_source-clause-behind
returns-in_err-close_source-clause-behind g c =
    let kept = sym c.copy_blocks.ensures.reads.kept in
    OnErr-always _ (keeps_copied c.args.mark c.args.is_source_open c.args.is_copy_open _ _ _ _ c.requires.source_mark c.requires.copy_mark c.requires.source_first
    (stays_both (λ i. i ≡ c.args.mark) (g.S.Device.contents c.args.source.now) (g.S.Device.contents c.copy_blocks.new.source) (g.S.Device.contents c.close_source.new.source)
    (subst (λ (o : Option Image). StaysBut (λ i. i ≡ c.args.mark) (g.S.Device.contents c.args.source.now) o) kept c.open_closed.ensures.others) c.close_source.ensures.others)
    (copied_within c.args.mark (g.C.Device.contents c.args.copy.now) (g.C.Device.contents c.close_opened.new.half) (g.C.Device.contents c.copy_blocks.new.copy) c.close_opened.ensures.others c.copy_blocks.ensures.others)
    (open_known c.args.mark false (g.C.Device.contents c.close_opened.new.half) (g.C.Device.contents c.copy_blocks.new.copy) c.copy_blocks.ensures.others c.in_ok-close_opened.ensures.closed)
    (copied_from c.args.mark (g.S.Device.contents c.args.source.now) (g.S.Device.contents c.open_closed.new.half) (g.C.Device.contents c.copy_blocks.new.copy)
    c.open_closed.ensures.others (c.in_ok-copy_blocks.ensures.copied c.if-not-branch.false)))
