use Rattle.std.proofs.Common.{◌≡◌, ◌+◌, Bool, List, [], ℕ, nat_eq, None, Some, sym, ap, subst}
use Rattle.std.specs.Map.{lookup}
use Rattle.bd_node.specs.declared.node.Node.{Node}
use Rattle.bd_node.specs.Steps.{append_step, HasGrown, IsCommitted}
use Rattle.bd_node.specs.Stores.{FitsRoot, StaysBy}
use Rattle.bd_node.specs.Tables.{IsSound}
use Rattle.bd_pager.specs.Keeping.{KeepsSaved}
use Rattle.bd_pager.specs.Pagers.{Paged, nodes_of, table_of, is_known, IsPaged, seen}
use Rattle.bd_pager.specs.Testing.{AreTested}
use Rattle.bd_pager.specs.declared.place.Spot.{Spot}
use Rattle.bd_pager.proofs.AppendedLemmas.{IsGrown, pager_grown, pager_tested, sized_copy}
use Rattle.bd_pager.proofs.pager.Pager.append.Goals as goal

pub append_counted-requires-clause-copy : goal.append_counted-requires-clause-copy
append_counted-requires-clause-copy g c = sized_copy c.self.inside.size _ c.self.invariant.0.root

pub invariant_of-self : goal.invariant_of-self
invariant_of-self g c =
    let i = c.self.inside in
    let p : Paged g.row.D.Denot = seen i.reader i.saved i.at.items i.usage.spare i.root i.size i.next i.visits i.written in
    let e = c.in-Err.ensures in
    let q : List (ℕ × Spot) → List Bool → Paged g.row.D.Denot = λ entries spare. record p { spots = entries; spare = spare } in (
      subst (λ (s : List Bool). IsPaged (g.D.Device.contents p.dev) (q c.append_counted.new.spots.entries s)) (sym e.spare)
          (subst (λ (es : List (ℕ × Spot)). IsPaged (g.D.Device.contents p.dev) (q es i.usage.spare)) (sym e.err) c.self.invariant.0),
      e.tallied i.next (c.self.invariant.0.table.below i.root c.self.invariant.0.table.root) c.self.invariant.1,
      subst (λ (es : List (ℕ × Spot)). AreTested (λ id. lookup (nat_eq id) es) i.reader.cache i.reader.tested) (sym e.err) c.self.invariant.2,
    )

pub invariant_of-self-2 : goal.invariant_of-self-2
invariant_of-self-2 g c =
    let i = c.self.inside in
    let p : Paged g.row.D.Denot = seen i.reader i.saved i.at.items i.usage.spare i.root i.size i.next i.visits i.written in
    let fits = subst (λ (x : Paged g.row.D.Denot). FitsRoot (table_of x) c.args.list) (sym c.self.view_is) c.requires in
    let q : List Bool → Paged g.row.D.Denot = λ spare. record p { spots = c.append_counted.new.spots.entries; size = i.size + c.size-added.result; spare = spare; written = None } in
    let grown : IsGrown g.D.Device p c.args.list (q i.usage.spare) =
    pager_grown g.D.Device p c.append_counted.new.spots.entries (i.size + c.size-added.result) c.args.list c.self.invariant.0 fits (ap (λ (n : ℕ). i.size + n) c.size-added.ensures) c.in-Ok.ensures.ok in
    let here : IsGrown g.D.Device p c.args.list (q c.append_counted.new.usage.spare) = subst (λ (l : List Bool). IsGrown g.D.Device p c.args.list (q l)) (sym c.append_counted.ensures.spare) grown in (
      here.paged,
      c.append_counted.ensures.tallied i.next (c.self.invariant.0.table.below i.root c.self.invariant.0.table.root) c.self.invariant.1,
      pager_tested g.D.Device p c.append_counted.new.spots.entries (i.size + c.size-added.result) c.args.list i.reader.tested c.self.invariant.0 fits (ap (λ (n : ℕ). i.size + n) c.size-added.ensures) c.in-Ok.ensures.ok c.self.invariant.2,
    )

pub returns-clause-table : goal.returns-clause-table
returns-clause-table g c =
    let i = c.self.inside in
    let p : Paged g.row.D.Denot = seen i.reader i.saved i.at.items i.usage.spare i.root i.size i.next i.visits i.written in
    let fits = subst (λ (x : Paged g.row.D.Denot). FitsRoot (table_of x) c.args.list) (sym c.self.view_is) c.requires in
    let q : List Bool → Paged g.row.D.Denot = λ spare. record p { spots = c.append_counted.new.spots.entries; size = i.size + c.size-added.result; spare = spare; written = None } in
    let grown : IsGrown g.D.Device p c.args.list (q i.usage.spare) =
    pager_grown g.D.Device p c.append_counted.new.spots.entries (i.size + c.size-added.result) c.args.list c.self.invariant.0 fits (ap (λ (n : ℕ). i.size + n) c.size-added.ensures) c.in-Ok.ensures.ok in
    let here : IsGrown g.D.Device p c.args.list (q c.append_counted.new.usage.spare) = subst (λ (l : List Bool). IsGrown g.D.Device p c.args.list (q l)) (sym c.append_counted.ensures.spare) grown in
    subst (λ (x : Paged g.row.D.Denot). HasGrown (table_of x) c.args.list (table_of (q c.append_counted.new.usage.spare))) c.self.view_is here.table

pub returns-clause-committed : goal.returns-clause-committed
returns-clause-committed g c = λ known.
    let i = c.self.inside in
    let p : Paged g.row.D.Denot = seen i.reader i.saved i.at.items i.usage.spare i.root i.size i.next i.visits i.written in
    let fits = subst (λ (x : Paged g.row.D.Denot). FitsRoot (table_of x) c.args.list) (sym c.self.view_is) c.requires in
    let q : List Bool → Paged g.row.D.Denot = λ spare. record p { spots = c.append_counted.new.spots.entries; size = i.size + c.size-added.result; spare = spare; written = None } in
    let grown : IsGrown g.D.Device p c.args.list (q i.usage.spare) =
    pager_grown g.D.Device p c.append_counted.new.spots.entries (i.size + c.size-added.result) c.args.list c.self.invariant.0 fits (ap (λ (n : ℕ). i.size + n) c.size-added.ensures) c.in-Ok.ensures.ok in
    let here : IsGrown g.D.Device p c.args.list (q c.append_counted.new.usage.spare) = subst (λ (l : List Bool). IsGrown g.D.Device p c.args.list (q l)) (sym c.append_counted.ensures.spare) grown in
    let new : Paged g.row.D.Denot = q c.append_counted.new.usage.spare in
    subst (λ (x : Paged g.row.D.Denot). IsSound (nodes_of g.D.Device x) (table_of x) → (root : Node) → nodes_of g.D.Device x x.root ≡ Some root
    → IsCommitted (nodes_of g.D.Device x) (table_of x) (append_step (table_of x) root c.args.list) (nodes_of g.D.Device new) (table_of new)) c.self.view_is
    here.committed

pub returns-clause-stays : goal.returns-clause-stays
returns-clause-stays g c =
    let i = c.self.inside in
    let p : Paged g.row.D.Denot = seen i.reader i.saved i.at.items i.usage.spare i.root i.size i.next i.visits i.written in
    let fits = subst (λ (x : Paged g.row.D.Denot). FitsRoot (table_of x) c.args.list) (sym c.self.view_is) c.requires in
    let q : List Bool → Paged g.row.D.Denot = λ spare. record p { spots = c.append_counted.new.spots.entries; size = i.size + c.size-added.result; spare = spare; written = None } in
    let grown : IsGrown g.D.Device p c.args.list (q i.usage.spare) =
    pager_grown g.D.Device p c.append_counted.new.spots.entries (i.size + c.size-added.result) c.args.list c.self.invariant.0 fits (ap (λ (n : ℕ). i.size + n) c.size-added.ensures) c.in-Ok.ensures.ok in
    let here : IsGrown g.D.Device p c.args.list (q c.append_counted.new.usage.spare) = subst (λ (l : List Bool). IsGrown g.D.Device p c.args.list (q l)) (sym c.append_counted.ensures.spare) grown in
    subst (λ (x : Paged g.row.D.Denot). StaysBy (is_known g.D.Device) (KeepsSaved g.D.Device) (λ (y : Paged g.row.D.Denot). let none : List ℕ = [] in none) x (q c.append_counted.new.usage.spare)) c.self.view_is
    here.stays
