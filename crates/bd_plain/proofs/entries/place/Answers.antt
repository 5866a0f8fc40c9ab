use Rattle.std.proofs.Common.{sym, ap, ◌∙◌, arith}
use Rattle.bd_model.specs.Tree.{path_cmp}
use Rattle.bd_plain.proofs.EntryPlaces.{put_over}
use Rattle.bd_plain.proofs.entries.place.Goals as goal

pub returns-in-Equal : goal.returns-in-Equal
returns-in-Equal c = (omega arith, λ e. put_over c.args.path.now e c.index-entries-at.result c.args.entries.now c.loop-at.at (omega arith) c.index-entries-at.is (ap (path_cmp c.args.path.now) (sym c.path.ensures) ∙ sym c.compare.ensures ∙ c.in-Equal.is) (c.loop-at.invariant e))
