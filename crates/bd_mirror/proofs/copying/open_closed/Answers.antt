use Rattle.std.proofs.Common.{◌≡◌, subst, sym, ◌∙◌, IfSome}
use Rattle.std.proofs.lemmas.Bool.{false≢true}
use Rattle.bd_device.specs.Device.{left_now}
use Rattle.bd_device.specs.Moments.{TornAt}
use Rattle.bd_device.proofs.Changes.{stays_same}
use Rattle.bd_mirror.specs.Contents.{is_open_at}
use Rattle.bd_mirror.proofs.Copies.{elapses_none}
use Rattle.bd_mirror.proofs.copying.open_closed.Goals as goal

pub returns-then-is_open-clause-opened : goal.returns-then-is_open-clause-opened
returns-then-is_open-clause-opened g c =
    subst (λ o. IfSome (g.D.Device.contents c.args.half.now) (λ image. is_open_at c.args.mark image ≡ o)) c.if-is_open.true c.requires.mark

pub returns-then-is_open-clause-others : goal.returns-then-is_open-clause-others
returns-then-is_open-clause-others g c = stays_same (λ i. i ≡ c.args.mark) (g.D.Device.contents c.args.half.now)

pub returns-then-is_open-clause-time : goal.returns-then-is_open-clause-time
returns-then-is_open-clause-time g c =
    elapses_none (g.D.Device.call_count c.args.half.now) (g.D.Device.left_since c.args.half.now) (TornAt c.args.mark (left_now g.D.Device c.args.half.now))

pub returns-clause-unwritten : goal.returns-clause-unwritten
returns-clause-unwritten g c = λ e. absurd (false≢true (sym c.if-is_open.false ∙ e))
