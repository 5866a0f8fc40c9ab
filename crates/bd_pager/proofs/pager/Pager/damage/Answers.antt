use Rattle.std.proofs.Common.{ℕ, List, Option, sym, subst}
use Rattle.bd_counts.proofs.Causes.{fault_wider}
use Rattle.bd_message.specs.KeyMaps.{IsCause, NeverWorn}
use Rattle.bd_device.specs.Blocks.{Image}
use Rattle.bd_table.specs.declared.table.TableEntry.{TableEntry}
use Rattle.bd_pager.specs.Damage.{AreSavedEntries, IsFirstDamaged}
use Rattle.bd_pager.specs.Pagers.{Paged, seen}
use Rattle.bd_pager.proofs.DamageLemmas.{reader_reads}
use Rattle.bd_pager.proofs.PagerLemmas.{reader_paged}
use Rattle.bd_pager.proofs.StepsLemmas.{OnlyReadsOf}
use Rattle.bd_pager.proofs.pager.Pager.damage.Goals as goal
use Rattle.bd_pager.proofs.pager.Pager.damage.Goals.{in-Ok, in-Err}

pub first_damaged-requires-clause-entries : goal.first_damaged-requires-clause-entries
first_damaged-requires-clause-entries g c = subst (λ (es : List TableEntry). AreSavedEntries es) (sym c.as_slice.ensures) c.self.invariant.0.entries

pub invariant_of-self : goal.invariant_of-self
invariant_of-self g c =
    let i = c.self.inside in
    reader_paged (g.D.Device.contents i.reader.dev) (g.D.Device.contents c.first_damaged.new.self.dev) i.reader c.first_damaged.new.self i.saved i.at.items i.usage i.root i.size i.next i.visits _ i.written c.first_damaged.ensures.spots c.first_damaged.ensures.reading c.self.invariant

pub returns-clause-left : goal.returns-clause-left
returns-clause-left g c =
    let i = c.self.inside in
    let D = g.D.Device in
    let r = c.first_damaged.new.self in
    let q : Paged g.row.D.Denot = seen r i.saved i.at.items i.usage.spare i.root i.size i.next i.visits i.written in
    subst (λ (x : Paged g.row.D.Denot). OnlyReadsOf D x q) c.self.view_is
    (reader_reads D i.reader r i.saved i.at.items i.usage.spare i.root i.size i.next i.visits i.visits i.written c.first_damaged.ensures.spots c.first_damaged.ensures.reads c.first_damaged.ensures.lent c.first_damaged.ensures.room)

pub returns-clause-cause : goal.returns-clause-cause
returns-clause-cause g c =
    let i = c.self.inside in
    let D = g.D.Device in
    let dev = c.first_damaged.new.self.dev in
    let first : ℕ → Type 0 = IsFirstDamaged (D.contents dev) i.saved.entries i.at.items in
    elim c.match-first_damaged.branch [
      | in-Ok w ↦
          let entries = subst (λ (es : List TableEntry). IsFirstDamaged (D.contents i.reader.dev) es c.as_slice-2.result.now w.in-Ok.block) c.as_slice.ensures w.in-Ok.ensures.first in
          let slots = subst (λ (l : List ℕ). IsFirstDamaged (D.contents i.reader.dev) i.saved.entries l w.in-Ok.block) c.as_slice-2.ensures.value entries in
          rw w.result-is (subst (λ (o : Option Image). IsFirstDamaged o i.saved.entries i.at.items w.in-Ok.block) (sym w.in-Ok.ensures.reads.kept) slots)
      | in-Err w ↦
          let wide = fault_wider (D.fault_count i.reader.dev) (D.fault_count dev) (D.last_failed dev) (λ b. ⊥) first NeverWorn NeverWorn (λ b no. absurd no) (λ k never. never) {T = ℕ} {U = ℕ} w.in-Err.fault w.in-Err.ensures.cause in
          rw w.result-is (subst (λ (x : Paged g.row.D.Denot). IsCause (D.fault_count x.dev) (D.fault_count dev) (D.last_failed dev) first NeverWorn w.in-Err.fault) c.self.view_is wide.failed)
    ]
