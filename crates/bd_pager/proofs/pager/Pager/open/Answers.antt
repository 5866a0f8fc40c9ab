use Rattle.std.proofs.Common.{◌≡◌, Option, refl, sym, subst}
use Rattle.std.specs.Prelude.{IsSome}
use Rattle.bd_device.specs.Blocks.{Image}
use Rattle.bd_device.specs.Device.{OnlyReads}
use Rattle.bd_tails.specs.Tails.{AreTails}
use Rattle.bd_pager.specs.Fresh.{assembled}
use Rattle.bd_pager.specs.Opened.{IsOpened}
use Rattle.bd_pager.specs.Places.{told}
use Rattle.bd_pager.specs.Pagers.{Paged, cache_room, IsRightPlace, is_known}
use Rattle.bd_pager.proofs.OpenedLemmas.{opened_paged, opened_right, opened_tallied}
use Rattle.bd_pager.proofs.pager.Pager.open.Goals as goal

pub over-requires-clause-tallied : goal.over-requires-clause-tallied
over-requires-clause-tallied g c =
    let parts = c.in-Ok.parts in
    opened_tallied (g.D.Device.contents c.args.dev) c.args.slots c.args.at.items (assembled c.read.new.dev parts) c.in-Ok.ensures.parts parts.usage refl c.in-Ok.ensures.usage

pub over-requires-clause-paged : goal.over-requires-clause-paged
over-requires-clause-paged g c =
    opened_paged (g.D.Device.contents c.args.dev) c.args.slots c.args.at.items (assembled c.read.new.dev c.in-Ok.parts) c.in-Ok.ensures.parts (g.D.Device.contents c.read.new.dev)
    (subst (λ (known : Option Image). AreTails known c.in-Ok.parts.tails) (sym c.in-Ok.ensures.reads.kept) c.in-Ok.ensures.parts.tails)

pub returns-clause-opened : goal.returns-clause-opened
returns-clause-opened g c =
    subst (λ (p : Paged g.row.D.Denot). IsOpened (g.D.Device.contents c.args.dev) c.args.slots c.args.at.items p) (sym c.over.ensures) c.in-Ok.ensures.parts

pub returns-clause-known : goal.returns-clause-known
returns-clause-known g c = λ known.
    let kept = c.in-Ok.ensures.reads.kept in
    let p : Paged g.row.D.Denot = assembled c.read.new.dev c.in-Ok.parts in
    subst (λ (q : Paged g.row.D.Denot). is_known g.D.Device q) (sym c.over.ensures) (record {
      contents_told = subst (λ (o : Option Image). IsSome o) (sym kept) known;
      right = λ id s there. subst (λ (o : Option Image). IsRightPlace (told o) s.place) (sym kept)
          (opened_right (g.D.Device.contents c.args.dev) c.args.slots c.args.at.items p c.in-Ok.ensures.parts c.images_are_decoded.ensures.found id s there known);
    })

pub returns-clause-reads : goal.returns-clause-reads
returns-clause-reads g c =
    subst (λ (p : Paged g.row.D.Denot). OnlyReads g.D.Device c.args.dev p.dev) (sym c.over.ensures) c.in-Ok.ensures.reads

pub returns-clause-faults : goal.returns-clause-faults
returns-clause-faults g c =
    subst (λ (p : Paged g.row.D.Denot). g.D.Device.fault_count p.dev ≡ g.D.Device.fault_count c.args.dev) (sym c.over.ensures) c.in-Ok.ensures.cause.kept

pub returns-clause-room : goal.returns-clause-room
returns-clause-room g c =
    subst (λ (p : Paged g.row.D.Denot). cache_room p ≡ c.args.room) (sym c.over.ensures) c.in-Ok.ensures.room
