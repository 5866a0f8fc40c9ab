-- A volume that starts from an image stands for its tree.
use Rattle.std.proofs.Common.{◌≡◌, ℕ, inr, sym, subst, ◌∙◌}
use Rattle.std.specs.Prelude.{IfSome}
use Rattle.std.proofs.lemmas.Result.{err_from_is_err_and}
use Rattle.bd_model.specs.Tree.{Tree}
use Rattle.bd_image.specs.ImageTree.{ImageStandsFor}
use Rattle.bd_message.specs.declared.fault.Counter.{Counter}
use Rattle.bd_volume.specs.declared.fault.Fault.{Fault}
use Rattle.bd_volume.specs.declared.fault.Fault.TheVariants.{Worn}
use Rattle.bd_volume.specs.declared.volume.Volume.{Volume}
use Rattle.bd_volume.specs.Faults.{IsStartCause}
use Rattle.bd_volume.specs.Starts.{OnlyStarts}
use Rattle.bd_volume.specs.Wears.{WearsReplaying}
use Rattle.bd_volume.specs.Volume.{IsFirstView, view_of}
use Rattle.bd_shell.specs.Shell.{MayStart}
use Rattle.bd_shell.proofs.Starts.{kept_start}
use Rattle.bd_shell.proofs.shell.Shell.new.Goals as goal

pub returns-clause-stands : goal.returns-clause-stands
returns-clause-stands g c t n start =
    kept_start g.D.Device c.args.device c.new-2.result c.in_ok-volume.volume t n c.new-2.ensures.volume c.new-2.ensures.acks
    (c.in_ok-volume.ensures.stands t n start) (c.in_ok-volume.ensures.started t n start)

pub returns-clause-first : goal.returns-clause-first
returns-clause-first g c =
    subst (λ (v : Volume g.row.D.Denot). (t : Tree) (n : ℕ) → IfSome (g.D.Device.contents c.args.device) (λ image. ImageStandsFor t n image → IsFirstView image (view_of g.D.Device v)))
    (sym c.new-2.ensures.volume) c.in_ok-volume.ensures.first

pub returns-in_err-volume-clause-cause : goal.returns-in_err-volume-clause-cause
returns-in_err-volume-clause-cause g c =
    let p = err_from_is_err_and c.from_residual.result c.from_residual.ensures.1 in
    let u = c.in_err-volume.field-0.0 in
    rw p.1 (subst (λ (f : Fault). IsStartCause g.D.Device c.args.device p.0.device f) (sym p.2.0) (subst (λ (d : g.row.D.Denot). IsStartCause g.D.Device c.args.device d u.fault) (sym p.2.1) c.in_err-volume.ensures.cause))

pub returns-in_err-volume-clause-undamaged : goal.returns-in_err-volume-clause-undamaged
returns-in_err-volume-clause-undamaged g c =
    let p = err_from_is_err_and c.from_residual.result c.from_residual.ensures.1 in
    rw p.1 (λ t n start block is. c.in_err-volume.ensures.undamaged t n start block (sym p.2.0 ∙ is))

pub returns-in_err-volume-clause-wears : goal.returns-in_err-volume-clause-wears
returns-in_err-volume-clause-wears g c t n =
    let p = err_from_is_err_and c.from_residual.result c.from_residual.ensures.1 in
    rw p.1 (subst (λ (f : Fault). IfSome (g.D.Device.contents c.args.device) (λ image. ImageStandsFor t n image → (which : Counter) → f ≡ Worn which → WearsReplaying which image)) (sym p.2.0) (c.in_err-volume.ensures.wears t n))

pub returns-in_err-volume-clause-left : goal.returns-in_err-volume-clause-left
returns-in_err-volume-clause-left g c =
    let p = err_from_is_err_and c.from_residual.result c.from_residual.ensures.1 in
    rw p.1 (subst (λ (d : g.row.D.Denot). OnlyStarts g.D.Device c.args.device d) (sym p.2.1) c.in_err-volume.ensures.left)

pub returns-in_err-volume-clause-starts : goal.returns-in_err-volume-clause-starts
returns-in_err-volume-clause-starts g c =
    let p = err_from_is_err_and c.from_residual.result c.from_residual.ensures.1 in
    rw p.1 (subst (λ (d : g.row.D.Denot). MayStart g.D.Device c.args.device d) (sym p.2.1) (inr c.in_err-volume.ensures.starts))
