use Rattle.std.proofs.Common.{◌≡◌, ℕ, ◌≤◌, List, Option, Some, IfSome, nat_eq, sym, ap, subst, ◌∙◌}
use Rattle.std.specs.Prelude.{IsSome}
use Rattle.std.specs.Map.{lookup}
use Rattle.std.proofs.lemmas.Bool.{true≢false}
use Rattle.bd_message.specs.KeyMaps.{NeverWorn}
use Rattle.bd_device.specs.Blocks.{Image}
use Rattle.bd_node.specs.declared.node.Node.{Node}
use Rattle.bd_node.specs.Meaning.{Nodes}
use Rattle.bd_node.specs.Tables.{Table, IsKept, IsNodeOf}
use Rattle.bd_pager.specs.Calling.{read_known}
use Rattle.bd_pager.specs.Causes.{NamesWrongly}
use Rattle.bd_pager.specs.declared.place.Spot.{Spot}
use Rattle.bd_pager.specs.Places.{Spots, spots_in, refs_in, level_in, nodes_at}
use Rattle.bd_pager.specs.Pagers.{Paged, spots_of, table_of, nodes_of, is_known, seen}
use Rattle.bd_pager.specs.Testing.{NamesLower}
use Rattle.bd_pager.proofs.DamageLemmas.{reader_reads, shown_cause}
use Rattle.bd_pager.proofs.PagerLemmas.{kept_there, same_entries, reader_paged, named_lower, sound_lower}
use Rattle.bd_pager.proofs.StepsLemmas.{OnlyReadsOf, reads_after}
use Rattle.bd_pager.proofs.pager.Pager.fetch.Goals as goal

pub find_lower-requires-clause-there : goal.find_lower-requires-clause-there
find_lower-requires-clause-there g c =
    kept_there (spots_in c.self.inside.reader.spots) c.args.id
    (subst (λ (p : Paged g.row.D.Denot). 1 ≤ refs_in (spots_of p c.args.id)) (sym c.self.view_is) c.requires)

pub invariant_of-self : goal.invariant_of-self
invariant_of-self g c =
    let i = c.self.inside in
    reader_paged (g.D.Device.contents i.reader.dev) (g.D.Device.contents c.find_lower.new.self.dev) i.reader c.find_lower.new.self i.saved i.at.items i.usage i.root i.size i.next i.visits _ i.written c.in-Err.ensures.spots c.in-Err.ensures.reading c.self.invariant

pub invariant_of-self-else-not-is_lower : goal.invariant_of-self-else-not-is_lower
invariant_of-self-else-not-is_lower g c =
    let i = c.self.inside in
    reader_paged (g.D.Device.contents i.reader.dev) (g.D.Device.contents c.find_lower.new.self.dev) i.reader c.find_lower.new.self i.saved i.at.items i.usage i.root i.size i.next i.visits _ i.written c.in-Ok.ensures.spots c.in-Ok.ensures.reading c.self.invariant

pub invariant_of-self-then-not-is_lower : goal.invariant_of-self-then-not-is_lower
invariant_of-self-then-not-is_lower g c =
    let i = c.self.inside in
    reader_paged (g.D.Device.contents i.reader.dev) (g.D.Device.contents c.find_lower.new.self.dev) i.reader c.find_lower.new.self i.saved i.at.items i.usage i.root i.size i.next i.visits _ i.written c.in-Ok.ensures.spots c.in-Ok.ensures.reading c.self.invariant

pub returns-then-not-is_lower-clause-left : goal.returns-then-not-is_lower-clause-left
returns-then-not-is_lower-clause-left g c =
    let i = c.self.inside in
    let D = g.D.Device in
    let r = c.find_lower.new.self in
    let p : Paged g.row.D.Denot = seen i.reader i.saved i.at.items i.usage.spare i.root i.size i.next i.visits i.written in
    let q : Paged g.row.D.Denot = seen r i.saved i.at.items i.usage.spare i.root i.size i.next c.saturating_add-self-inside.result i.written in
    let found : OnlyReadsOf D p q = reader_reads D i.reader r i.saved i.at.items i.usage.spare i.root i.size i.next i.visits c.saturating_add-self-inside.result i.written c.in-Ok.ensures.spots c.in-Ok.ensures.reads c.in-Ok.ensures.lent c.in-Ok.ensures.room in
    reads_after D c.args.self.now q c.damage.new.self (subst (λ (x : Paged g.row.D.Denot). OnlyReadsOf D x q) c.self.view_is found) c.damage.ensures.left

pub returns-then-not-is_lower-clause-cause : goal.returns-then-not-is_lower-clause-cause
returns-then-not-is_lower-clause-cause g c =
    let i = c.self.inside in
    let r = c.find_lower.new.self in
    let D = g.D.Device in
    let new : Paged g.row.D.Denot = c.damage.new.self in
    let q : Paged g.row.D.Denot = seen r i.saved i.at.items i.usage.spare i.root i.size i.next c.saturating_add-self-inside.result i.written in
    let id : ℕ = c.args.id in
    let n : Node = c.in-Ok.found.0.value in
    let left : OnlyReadsOf D q new = c.damage.ensures.left in
    let old = subst (λ (p : Paged g.row.D.Denot). 1 ≤ refs_in (spots_of p id)) (sym c.self.view_is) c.requires in
    let entries = same_entries r.spots i.reader.spots c.in-Ok.ensures.spots in
    let there = subst (λ (es : List (ℕ × Spot)). 1 ≤ refs_in (lookup (nat_eq id) es)) (sym entries) old in
    let same : spots_of new ≡ spots_of q = left.read.spots in
    let lower : NamesLower (spots_in i.reader.spots) n → ⊥ = λ low. true≢false (sym (c.in-Ok.ensures.lower.1 low) ∙ c.if-not-is_lower.true) in
    let wrong : NamesLower (spots_of new) n → ⊥ = λ low.
    lower (subst (λ (es : List (ℕ × Spot)). NamesLower (λ id. lookup (nat_eq id) es) n) entries (subst (λ (s : Spots). NamesLower s n) same low)) in
    shown_cause D new (D.fault_count c.args.self.now.dev) (D.fault_count r.dev) (λ other. other ≡ id) (NamesWrongly D new id) NeverWorn c.damage.result
    (c.in-Ok.ensures.cause.kept ∙ ap (λ (p : Paged g.row.D.Denot). D.fault_count p.dev) c.self.view_is)
    c.damage.ensures.later c.damage.ensures.stays c.damage.ensures.cause
    (λ known.
    let known_before : is_known D q = read_known D q new left.read known in
    let told = subst (λ (o : Option Image). IsSome o) c.in-Ok.ensures.reads.kept known_before.contents_told in
    let found = subst (λ (es : List (ℕ × Spot)). nodes_at (D.contents r.dev) (λ id. lookup (nat_eq id) es) id ≡ Some n) (sym entries)
    (subst (λ (o : Option Image). nodes_at o (spots_in i.reader.spots) id ≡ Some n) (sym c.in-Ok.ensures.reads.kept) (c.in-Ok.ensures.contents told)) in
    let is : nodes_of D new id ≡ Some n = ap (λ (f : Nodes). f id) (left.kept known_before) ∙ found in
    let kept : IsKept (table_of new) id = subst (λ (t : Table). IsKept t id) (sym left.table) there in (
      λ names. wrong (subst (λ (o : Option Node). IfSome o (NamesLower (spots_of new))) is names),
      λ sound. wrong (sound_lower (nodes_of D new) new id n kept is sound),
    ))

pub returns-clause-shape : goal.returns-clause-shape
returns-clause-shape g c =
    let i = c.self.inside in
    let p : Paged g.row.D.Denot = seen i.reader i.saved i.at.items i.usage.spare i.root i.size i.next i.visits i.written in
    subst (λ (x : Paged g.row.D.Denot). IsNodeOf (table_of x) (level_in (spots_of x c.args.id)) c.in-Ok.found.0.value) c.self.view_is
    (named_lower p (level_in (spots_of p c.args.id)) c.in-Ok.found.0.value c.in-Ok.ensures.node (c.in-Ok.ensures.lower.0 c.if-not-is_lower.false))
