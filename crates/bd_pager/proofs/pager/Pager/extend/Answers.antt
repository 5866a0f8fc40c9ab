use Rattle.std.proofs.Common.{◌≡◌, ℕ, ◌+◌, ◌<◌, Bool, List, Option, None, Some, IfSome, Err, length, refl, sym, ap, subst, ◌∙◌, arith}
use Rattle.std.specs.List.{AllByRecursion}
use Rattle.std.proofs.lemmas.Bool.{true≢false}
use Rattle.bd_message.specs.declared.message.Message.{Message}
use Rattle.bd_message.specs.KeyMaps.{HasMapCause}
use Rattle.bd_counts.proofs.Causes.{fault_wider}
use Rattle.bd_node.specs.declared.node.Node.{Node}
use Rattle.bd_node.specs.Nodes.{level_of, names}
use Rattle.bd_node.specs.Meaning.{Nodes}
use Rattle.bd_node.specs.Steps.{IsRootOf, IsStep, IsTableAfter, IsCommitted, IsWornByAdding, extend_step}
use Rattle.bd_node.specs.Stores.{StaysBy}
use Rattle.bd_node.specs.Tables.{Table, IsSound}
use Rattle.bd_pager.specs.declared.stepping.Put.{Put}
use Rattle.bd_pager.specs.Calling.{no_reads, read_known, read_table}
use Rattle.bd_pager.specs.Causes.{NamesWrongly, is_bad_to_extend}
use Rattle.bd_pager.specs.Counting.{IsTallied}
use Rattle.bd_pager.specs.Extending.{IsAdditionOf}
use Rattle.bd_pager.specs.Keeping.{KeepsSaved}
use Rattle.bd_pager.specs.Pagers.{Paged, spots_of, table_of, nodes_of, is_known, IsKnownOver, IsPaged, IsReadOf, seen}
use Rattle.bd_pager.specs.Places.{Spots, spots_in, copy_in, nodes_at, told, IsLowerIn}
use Rattle.bd_pager.specs.Testing.{AreTested, NamesLower}
use Rattle.bd_pager.proofs.DamageLemmas.{shown_cause, reads_before}
use Rattle.bd_pager.proofs.ExtendedLemmas.{root_seen, copied_there, list_fits, pager_extended, pager_tested, addition_below, unsound_root}
use Rattle.bd_pager.proofs.StepsLemmas.{OnlyReadsOf, no_loans, reads_stay, reordered, tallied_more}
use Rattle.bd_pager.proofs.pager.Pager.extend.Goals as goal

pub returns-then-not-copy_names_lower-clause-stays : goal.returns-then-not-copy_names_lower-clause-stays
returns-then-not-copy_names_lower-clause-stays g c = reads_stay g.D.Device c.args.self.now c.damage.new.self c.damage.ensures.left

pub returns-then-not-copy_names_lower-clause-device : goal.returns-then-not-copy_names_lower-clause-device
returns-then-not-copy_names_lower-clause-device g c = λ names.
    let i = c.self.inside in
    let D = g.D.Device in
    let p : Paged g.row.D.Denot = seen i.reader i.saved i.at.items i.usage.spare i.root i.size i.next i.visits i.written in
    let root = root_seen (D.contents p.dev) p c.self.invariant.0 in
    let seen_names = subst (λ (x : Paged g.row.D.Denot). IfSome (copy_in (spots_of x x.root)) (NamesLower (spots_of x))) (sym c.self.view_is) names in
    let low : NamesLower (spots_of p) root.0 = subst (λ (o : Option Node). IfSome o (NamesLower (spots_of p))) root.1 seen_names in
    absurd (true≢false (sym ((c.copy_names_lower.ensures root.0 root.1).1 low) ∙ c.if-not-copy_names_lower.true))

pub returns-then-not-copy_names_lower-clause-cause : goal.returns-then-not-copy_names_lower-clause-cause
returns-then-not-copy_names_lower-clause-cause g c =
    let i = c.self.inside in
    let D = g.D.Device in
    let p : Paged g.row.D.Denot = seen i.reader i.saved i.at.items i.usage.spare i.root i.size i.next i.visits i.written in
    let new : Paged g.row.D.Denot = c.damage.new.self in
    let left : OnlyReadsOf D p new = subst (λ (x : Paged g.row.D.Denot). OnlyReadsOf D x new) (sym c.self.view_is) c.damage.ensures.left in
    let was = c.self.invariant.0 in
    let root = root_seen (D.contents p.dev) p was in
    let n : Node = root.0 in
    let wrong : NamesLower (spots_of p) n → ⊥ = λ low. true≢false (sym ((c.copy_names_lower.ensures n root.1).1 low) ∙ c.if-not-copy_names_lower.true) in
    let same_root : new.root ≡ p.root = ap (λ (t : Table). t.root) left.table in
    shown_cause D new (D.fault_count c.args.self.now.dev) (D.fault_count c.args.self.now.dev) (λ id. ⊥) (NamesWrongly D new new.root) (IsWornByAdding (table_of c.args.self.now) c.args.made c.args.list) c.damage.result
    refl c.damage.ensures.later c.damage.ensures.stays c.damage.ensures.cause
    (λ known_new.
    let known = read_known D p new left.read known_new in
    let is : nodes_of D new new.root ≡ Some n = ap (nodes_of D new) same_root ∙ ap (λ (f : Nodes). f p.root) (left.kept known) ∙ copied_there (told (D.contents p.dev)) (spots_of p p.root) n root.1 in (
      λ names. wrong (subst (λ (s : Spots). NamesLower s n) left.read.spots (subst (λ (o : Option Node). IfSome o (NamesLower (spots_of new))) is names)),
      λ sound. wrong (unsound_root D p n was root.1 (reads_before D p new left IsSound known sound)),
    ))

pub size-added-requires-clause-each : goal.size-added-requires-clause-each
size-added-requires-clause-each g c =
    let i = c.self.inside in
    let D = g.D.Device in
    let p : Paged g.row.D.Denot = seen i.reader i.saved i.at.items i.usage.spare i.root i.size i.next i.visits i.written in
    let was = c.self.invariant.0 in
    let made = c.args.made in
    let list = c.args.list in
    let ok : (root : Node) → IsRootOf (table_of p) root → IsStep (table_of p) (extend_step (table_of p) root made list) =
    subst (λ (x : Paged g.row.D.Denot). (root : Node) → IsRootOf (table_of x) root → IsStep (table_of x) (extend_step (table_of x) root made list)) (sym c.self.view_is) c.requires in
    let looked : (n : Node) → copy_in (spots_of p p.root) ≡ Some n → AllByRecursion (IsLowerIn (spots_of p) (level_of n)) (names n) = λ n copy. (c.copy_names_lower.ensures n copy).0 c.if-not-copy_names_lower.false in
    (list_fits D p made list was ok looked).0

pub size-added-requires-clause-fits : goal.size-added-requires-clause-fits
size-added-requires-clause-fits g c =
    let i = c.self.inside in
    let D = g.D.Device in
    let p : Paged g.row.D.Denot = seen i.reader i.saved i.at.items i.usage.spare i.root i.size i.next i.visits i.written in
    let was = c.self.invariant.0 in
    let made = c.args.made in
    let list = c.args.list in
    let ok : (root : Node) → IsRootOf (table_of p) root → IsStep (table_of p) (extend_step (table_of p) root made list) =
    subst (λ (x : Paged g.row.D.Denot). (root : Node) → IsRootOf (table_of x) root → IsStep (table_of x) (extend_step (table_of x) root made list)) (sym c.self.view_is) c.requires in
    let looked : (n : Node) → copy_in (spots_of p p.root) ≡ Some n → AllByRecursion (IsLowerIn (spots_of p) (level_of n)) (names n) = λ n copy. (c.copy_names_lower.ensures n copy).0 c.if-not-copy_names_lower.false in
    omega (arith, (list_fits D p made list was ok looked).1)

pub overflow_add-self : goal.overflow_add-self
overflow_add-self g c =
    let i = c.self.inside in
    let D = g.D.Device in
    let p : Paged g.row.D.Denot = seen i.reader i.saved i.at.items i.usage.spare i.root i.size i.next i.visits i.written in
    let was = c.self.invariant.0 in
    let made = c.args.made in
    let list = c.args.list in
    let ok : (root : Node) → IsRootOf (table_of p) root → IsStep (table_of p) (extend_step (table_of p) root made list) =
    subst (λ (x : Paged g.row.D.Denot). (root : Node) → IsRootOf (table_of x) root → IsStep (table_of x) (extend_step (table_of x) root made list)) (sym c.self.view_is) c.requires in
    let looked : (n : Node) → copy_in (spots_of p p.root) ≡ Some n → AllByRecursion (IsLowerIn (spots_of p) (level_of n)) (names n) = λ n copy. (c.copy_names_lower.ensures n copy).0 c.if-not-copy_names_lower.false in
    omega (arith, (list_fits D p made list was ok looked).1, c.size-added.ensures)

pub invariant_of-self : goal.invariant_of-self
invariant_of-self g c =
    let i = c.self.inside in
    let D = g.D.Device in
    let p : Paged g.row.D.Denot = seen i.reader i.saved i.at.items i.usage.spare i.root i.size i.next i.visits i.written in
    let was = c.self.invariant.0 in
    let e = c.in-Err-extend_spots.ensures in
    let u = c.extend_spots.new.usage in
    let spots = c.extend_spots.new.spots in
    let same : spots_of p ≡ spots_in spots = λ j id. sym (e.err id) j in (
      subst (λ (s : List Bool). let q : Paged g.row.D.Denot = record p { spots = spots.entries; spare = s } in IsPaged (D.contents p.dev) q) (sym e.spare) (reordered D p spots.entries same was),
      e.err_tallied i.next (was.table.below p.root was.table.root) c.self.invariant.1,
      subst (λ (s : Spots). AreTested s i.reader.cache i.reader.tested) same c.self.invariant.2,
    )

pub invariant_of-self-2 : goal.invariant_of-self-2
invariant_of-self-2 g c =
    let i = c.self.inside in
    let D = g.D.Device in
    let p : Paged g.row.D.Denot = seen i.reader i.saved i.at.items i.usage.spare i.root i.size i.next i.visits i.written in
    let was = c.self.invariant.0 in
    let made = c.args.made in
    let list = c.args.list in
    let ok : (root : Node) → IsRootOf (table_of p) root → IsStep (table_of p) (extend_step (table_of p) root made list) =
    subst (λ (x : Paged g.row.D.Denot). (root : Node) → IsRootOf (table_of x) root → IsStep (table_of x) (extend_step (table_of x) root made list)) (sym c.self.view_is) c.requires in
    let looked : (n : Node) → copy_in (spots_of p p.root) ≡ Some n → AllByRecursion (IsLowerIn (spots_of p) (level_of n)) (names n) = λ n copy. (c.copy_names_lower.ensures n copy).0 c.if-not-copy_names_lower.false in
    let new = c.extend_spots.new in
    let e = c.in-Ok-extend_spots.ensures in
    let is : IsAdditionOf (table_of p) made list c.in-Ok.addition = subst (λ (x : Paged g.row.D.Denot). IsAdditionOf (table_of x) made list c.in-Ok.addition) (sym c.self.view_is)
    (subst (λ (l : List Message). IsAdditionOf (table_of c.args.self.now) made l c.in-Ok.addition) c.as_slice.ensures c.in-Ok.ensures.addition) in
    let all = pager_extended D p made list was ok looked c.in-Ok.addition new.spots.entries new.usage.spare (i.size + c.size-added.result) (i.next + c.len-count.result) c.saturating_add-self-inside.result is
    (ap (λ (n : ℕ). i.size + n) c.size-added.ensures) (ap (λ (n : ℕ). i.next + n) c.len-count.ensures) e.spare e.ok in
    let below : AllByRecursion (λ (put : Put). put.id < i.next + length made) c.in-Ok.addition.puts.items = addition_below (table_of p) made list c.in-Ok.addition is in
    let low : i.root < i.next + length made = omega (arith, was.table.below p.root was.table.root) in (
      all.0,
      subst (λ (n : ℕ). IsTallied (i.next + n) (spots_in new.spots) new.usage) (sym c.len-count.ensures)
          (e.tallied (i.next + length made) low below (tallied_more (D.contents p.dev) p (length made) i.usage was is.fits c.self.invariant.1)),
      pager_tested D p made list was ok looked c.in-Ok.addition new.spots.entries (i.size + c.size-added.result) (i.next + c.len-count.result) c.saturating_add-self-inside.result is
          (ap (λ (n : ℕ). i.size + n) c.size-added.ensures) (ap (λ (n : ℕ). i.next + n) c.len-count.ensures) e.ok i.reader.tested c.self.invariant.2,
    )

pub returns-in-Err-extend_spots-clause-stays : goal.returns-in-Err-extend_spots-clause-stays
returns-in-Err-extend_spots-clause-stays g c =
    let i = c.self.inside in
    let D = g.D.Device in
    let p : Paged g.row.D.Denot = seen i.reader i.saved i.at.items i.usage.spare i.root i.size i.next i.visits i.written in
    let e = c.in-Err-extend_spots.ensures in
    let q : Paged g.row.D.Denot = record p { spots = c.extend_spots.new.spots.entries; spare = c.extend_spots.new.usage.spare } in
    let same : spots_of q ≡ spots_of p = λ j id. e.err id j in
    let read : IsReadOf D p q = record { device = no_reads D p.dev; lent = λ so. so; spots = same; room = refl; rest = λ j. record q { spare = e.spare j } } in
    subst (λ (x : Paged g.row.D.Denot). StaysBy (is_known D) (KeepsSaved D) no_loans x q) c.self.view_is
    (reads_stay D p q (record {
      table = read_table D p q read;
      known = λ known. subst (λ (s : Spots). IsKnownOver (D.contents p.dev) s) (sym same) known;
      kept = λ known j. nodes_at (D.contents p.dev) (same j);
      read = read;
      same_loans = refl;
    }))

pub returns-clause-table : goal.returns-clause-table
returns-clause-table g c =
    let i = c.self.inside in
    let D = g.D.Device in
    let p : Paged g.row.D.Denot = seen i.reader i.saved i.at.items i.usage.spare i.root i.size i.next i.visits i.written in
    let was = c.self.invariant.0 in
    let made = c.args.made in
    let list = c.args.list in
    let ok : (root : Node) → IsRootOf (table_of p) root → IsStep (table_of p) (extend_step (table_of p) root made list) =
    subst (λ (x : Paged g.row.D.Denot). (root : Node) → IsRootOf (table_of x) root → IsStep (table_of x) (extend_step (table_of x) root made list)) (sym c.self.view_is) c.requires in
    let looked : (n : Node) → copy_in (spots_of p p.root) ≡ Some n → AllByRecursion (IsLowerIn (spots_of p) (level_of n)) (names n) = λ n copy. (c.copy_names_lower.ensures n copy).0 c.if-not-copy_names_lower.false in
    let new = c.extend_spots.new in
    let e = c.in-Ok-extend_spots.ensures in
    let is : IsAdditionOf (table_of p) made list c.in-Ok.addition = subst (λ (x : Paged g.row.D.Denot). IsAdditionOf (table_of x) made list c.in-Ok.addition) (sym c.self.view_is)
    (subst (λ (l : List Message). IsAdditionOf (table_of c.args.self.now) made l c.in-Ok.addition) c.as_slice.ensures c.in-Ok.ensures.addition) in
    let all = pager_extended D p made list was ok looked c.in-Ok.addition new.spots.entries new.usage.spare (i.size + c.size-added.result) (i.next + c.len-count.result) c.saturating_add-self-inside.result is
    (ap (λ (n : ℕ). i.size + n) c.size-added.ensures) (ap (λ (n : ℕ). i.next + n) c.len-count.ensures) e.spare e.ok in
    let q : Paged g.row.D.Denot = record p { spots = new.spots.entries; spare = new.usage.spare; size = i.size + c.size-added.result; next = i.next + c.len-count.result; visits = c.saturating_add-self-inside.result; written = None } in
    subst (λ (x : Paged g.row.D.Denot). (root : Node) → IsRootOf (table_of x) root → IsTableAfter (table_of x) (extend_step (table_of x) root made list) (table_of q)) c.self.view_is all.1.table

pub returns-clause-committed : goal.returns-clause-committed
returns-clause-committed g c =
    let i = c.self.inside in
    let D = g.D.Device in
    let p : Paged g.row.D.Denot = seen i.reader i.saved i.at.items i.usage.spare i.root i.size i.next i.visits i.written in
    let was = c.self.invariant.0 in
    let made = c.args.made in
    let list = c.args.list in
    let ok : (root : Node) → IsRootOf (table_of p) root → IsStep (table_of p) (extend_step (table_of p) root made list) =
    subst (λ (x : Paged g.row.D.Denot). (root : Node) → IsRootOf (table_of x) root → IsStep (table_of x) (extend_step (table_of x) root made list)) (sym c.self.view_is) c.requires in
    let looked : (n : Node) → copy_in (spots_of p p.root) ≡ Some n → AllByRecursion (IsLowerIn (spots_of p) (level_of n)) (names n) = λ n copy. (c.copy_names_lower.ensures n copy).0 c.if-not-copy_names_lower.false in
    let new = c.extend_spots.new in
    let e = c.in-Ok-extend_spots.ensures in
    let is : IsAdditionOf (table_of p) made list c.in-Ok.addition = subst (λ (x : Paged g.row.D.Denot). IsAdditionOf (table_of x) made list c.in-Ok.addition) (sym c.self.view_is)
    (subst (λ (l : List Message). IsAdditionOf (table_of c.args.self.now) made l c.in-Ok.addition) c.as_slice.ensures c.in-Ok.ensures.addition) in
    let all = pager_extended D p made list was ok looked c.in-Ok.addition new.spots.entries new.usage.spare (i.size + c.size-added.result) (i.next + c.len-count.result) c.saturating_add-self-inside.result is
    (ap (λ (n : ℕ). i.size + n) c.size-added.ensures) (ap (λ (n : ℕ). i.next + n) c.len-count.ensures) e.spare e.ok in
    let q : Paged g.row.D.Denot = record p { spots = new.spots.entries; spare = new.usage.spare; size = i.size + c.size-added.result; next = i.next + c.len-count.result; visits = c.saturating_add-self-inside.result; written = None } in
    subst (λ (x : Paged g.row.D.Denot). is_known D x → IsSound (nodes_of D x) (table_of x) → (root : Node) → nodes_of D x x.root ≡ Some root → IsCommitted (nodes_of D x) (table_of x) (extend_step (table_of x) root made list) (nodes_of D q) (table_of q)) c.self.view_is all.1.committed

pub returns-clause-stays : goal.returns-clause-stays
returns-clause-stays g c =
    let i = c.self.inside in
    let D = g.D.Device in
    let p : Paged g.row.D.Denot = seen i.reader i.saved i.at.items i.usage.spare i.root i.size i.next i.visits i.written in
    let was = c.self.invariant.0 in
    let made = c.args.made in
    let list = c.args.list in
    let ok : (root : Node) → IsRootOf (table_of p) root → IsStep (table_of p) (extend_step (table_of p) root made list) =
    subst (λ (x : Paged g.row.D.Denot). (root : Node) → IsRootOf (table_of x) root → IsStep (table_of x) (extend_step (table_of x) root made list)) (sym c.self.view_is) c.requires in
    let looked : (n : Node) → copy_in (spots_of p p.root) ≡ Some n → AllByRecursion (IsLowerIn (spots_of p) (level_of n)) (names n) = λ n copy. (c.copy_names_lower.ensures n copy).0 c.if-not-copy_names_lower.false in
    let new = c.extend_spots.new in
    let e = c.in-Ok-extend_spots.ensures in
    let is : IsAdditionOf (table_of p) made list c.in-Ok.addition = subst (λ (x : Paged g.row.D.Denot). IsAdditionOf (table_of x) made list c.in-Ok.addition) (sym c.self.view_is)
    (subst (λ (l : List Message). IsAdditionOf (table_of c.args.self.now) made l c.in-Ok.addition) c.as_slice.ensures c.in-Ok.ensures.addition) in
    let all = pager_extended D p made list was ok looked c.in-Ok.addition new.spots.entries new.usage.spare (i.size + c.size-added.result) (i.next + c.len-count.result) c.saturating_add-self-inside.result is
    (ap (λ (n : ℕ). i.size + n) c.size-added.ensures) (ap (λ (n : ℕ). i.next + n) c.len-count.ensures) e.spare e.ok in
    let q : Paged g.row.D.Denot = record p { spots = new.spots.entries; spare = new.usage.spare; size = i.size + c.size-added.result; next = i.next + c.len-count.result; visits = c.saturating_add-self-inside.result; written = None } in
    subst (λ (x : Paged g.row.D.Denot). StaysBy (is_known D) (KeepsSaved D) no_loans x q) c.self.view_is all.1.stays

pub returns-in-Err-extend_spots-clause-err : goal.returns-in-Err-extend_spots-clause-err
returns-in-Err-extend_spots-clause-err g c =
    let i = c.self.inside in
    let D = g.D.Device in
    let p : Paged g.row.D.Denot = seen i.reader i.saved i.at.items i.usage.spare i.root i.size i.next i.visits i.written in
    let e = c.in-Err-extend_spots.ensures in
    let q : Paged g.row.D.Denot = record p { spots = c.extend_spots.new.spots.entries; spare = c.extend_spots.new.usage.spare } in
    let same : spots_of q ≡ spots_of p = λ j id. e.err id j in
    let read : IsReadOf D p q = record { device = no_reads D p.dev; lent = λ so. so; spots = same; room = refl; rest = λ j. record q { spare = e.spare j } } in
    subst (λ (x : Paged g.row.D.Denot). OnlyReadsOf D x q) c.self.view_is (record {
      table = read_table D p q read;
      known = λ known. subst (λ (s : Spots). IsKnownOver (D.contents p.dev) s) (sym same) known;
      kept = λ known j. nodes_at (D.contents p.dev) (same j);
      read = read;
      same_loans = refl;
    })

pub returns-in-Err-clause-cause : goal.returns-in-Err-clause-cause
returns-in-Err-clause-cause g c =
    let D = g.D.Device in
    let p : Paged g.row.D.Denot = c.args.self.now in
    subst (λ (l : List Message). HasMapCause {T = Unit {0}} (D.fault_count p.dev) (D.fault_count p.dev) (D.last_failed p.dev) (is_bad_to_extend D p) (IsWornByAdding (table_of p) c.args.made l) (Err c.in-Err.fault)) c.as_slice.ensures
    (fault_wider (D.fault_count p.dev) (D.fault_count p.dev) (D.last_failed p.dev) (λ b. ⊥) (is_bad_to_extend D p) (IsWornByAdding (table_of p) c.args.made c.as_slice.result.now) (IsWornByAdding (table_of p) c.args.made c.as_slice.result.now)
    (λ b no. absurd no) (λ k worn. worn) c.in-Err.fault c.in-Err.ensures.cause)
