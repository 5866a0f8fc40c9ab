use Rattle.std.proofs.Common.{List, ℕ, sym, subst}
use Rattle.bd_tails.specs.Tails.{AreTailsAt}
use Rattle.bd_tails.proofs.Known.{tails_learnt}
use Rattle.bd_tails.proofs.tails.Tails.learn.Goals as goal

pub returns-clause-known : goal.returns-clause-known
returns-clause-known g c =
    let known = g.D.Device.contents c.args.dev.now in
    subst (λ (used : List ℕ). AreTailsAt known used) (sym {A = List ℕ} c.note.ensures)
    (tails_learnt known (g.D.Device.block_count c.args.dev.now) c.args.self.now.used.items c.args.slot c.args.used c.blocks-2.ensures.shape c.requires.room c.requires.few c.requires.used c.requires.known)
