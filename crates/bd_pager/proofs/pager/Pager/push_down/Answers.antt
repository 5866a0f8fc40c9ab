use Rattle.std.proofs.Common.{◌≡◌, None, Some, OnOk, nat_eq, sym, subst}
use Rattle.std.specs.Map.{lookup}
use Rattle.std.proofs.lemmas.Result.{on_err_weaker}
use Rattle.bd_message.specs.KeyMaps.{HasMapCause, NeverWorn}
use Rattle.bd_node.specs.declared.node.Node.{Node}
use Rattle.bd_node.specs.declared.push.Push.{Push}
use Rattle.bd_node.specs.Pushes.{IsPush, CanPush, HasPushed, IsPushed}
use Rattle.bd_node.specs.Tables.{Table, IsSound}
use Rattle.bd_pager.specs.Causes.{is_bad_to_push}
use Rattle.bd_pager.specs.Counting.{IsTallied}
use Rattle.bd_pager.specs.Pagers.{Paged, spots_of, table_of, nodes_of, is_known, seen}
use Rattle.bd_pager.specs.Places.{Spots}
use Rattle.bd_pager.specs.Testing.{AreTested}
use Rattle.bd_pager.proofs.PushedLemmas.{HasMadePush, made_in_place, given_back, can_after, committed_before, stays_before, place_root, place_paged, place_made, place_tested, spots_tallied}
use Rattle.bd_pager.proofs.StepsLemmas.{OnlyReadsOf, reordered, unchanged, reads_after}
use Rattle.bd_pager.proofs.pager.Pager.push_down.Goals as goal

pub invariant_of-self : goal.invariant_of-self
invariant_of-self g c =
    let D = g.D.Device in
    let i = c.self.inside in
    let old : Paged g.row.D.Denot = c.args.self.now in
    let p : Paged g.row.D.Denot = seen i.reader i.saved i.at.items i.usage.spare i.root i.size i.next i.visits i.written in
    let entries = c.push_in_place.new.spots.entries in
    let q : Paged g.row.D.Denot = record p { spots = entries } in
    let back = given_back c.args.push (spots_of p) (spots_of q) c.in-Ok-Some.field-0 c.in-Ok-Some.push c.in-Ok-Some.field-0-is c.in-Ok-Some.ensures.ok in
    let same : spots_of p ≡ spots_of q = λ j id. sym (back.1 id) j in
    let left : OnlyReadsOf D old q = subst (λ (x : Paged g.row.D.Denot). OnlyReadsOf D x q) c.self.view_is (unchanged D p entries same) in (
      reordered D p entries same c.self.invariant.0,
      subst (λ (s : Spots). IsTallied i.next s i.usage) same c.self.invariant.1,
      subst (λ (s : Spots). AreTested s i.reader.cache i.reader.tested) same c.self.invariant.2,
    )

pub push_copies-requires-clause-can : goal.push_copies-requires-clause-can
push_copies-requires-clause-can g c =
    let D = g.D.Device in
    let i = c.self.inside in
    let old : Paged g.row.D.Denot = c.args.self.now in
    let p : Paged g.row.D.Denot = seen i.reader i.saved i.at.items i.usage.spare i.root i.size i.next i.visits i.written in
    let entries = c.push_in_place.new.spots.entries in
    let q : Paged g.row.D.Denot = record p { spots = entries } in
    let back = given_back c.args.push (spots_of p) (spots_of q) c.in-Ok-Some.field-0 c.in-Ok-Some.push c.in-Ok-Some.field-0-is c.in-Ok-Some.ensures.ok in
    let same : spots_of p ≡ spots_of q = λ j id. sym (back.1 id) j in
    let left : OnlyReadsOf D old q = subst (λ (x : Paged g.row.D.Denot). OnlyReadsOf D x q) c.self.view_is (unchanged D p entries same) in
    can_after D old q c.in-Ok-Some.push left
    (subst (λ (x : Push). is_known D old → IsSound (nodes_of D old) (table_of old) → CanPush (nodes_of D old) (table_of old) x) (sym back.0) c.requires.can)

pub returns-in-Ok-Some-clause-table : goal.returns-in-Ok-Some-clause-table
returns-in-Ok-Some-clause-table g c =
    let D = g.D.Device in
    let i = c.self.inside in
    let old : Paged g.row.D.Denot = c.args.self.now in
    let p : Paged g.row.D.Denot = seen i.reader i.saved i.at.items i.usage.spare i.root i.size i.next i.visits i.written in
    let entries = c.push_in_place.new.spots.entries in
    let q : Paged g.row.D.Denot = record p { spots = entries } in
    let back = given_back c.args.push (spots_of p) (spots_of q) c.in-Ok-Some.field-0 c.in-Ok-Some.push c.in-Ok-Some.field-0-is c.in-Ok-Some.ensures.ok in
    let same : spots_of p ≡ spots_of q = λ j id. sym (back.1 id) j in
    let left : OnlyReadsOf D old q = subst (λ (x : Paged g.row.D.Denot). OnlyReadsOf D x q) c.self.view_is (unchanged D p entries same) in
    let new = c.push_copies.new.self in
    subst (λ (x : Push). OnOk c.push_copies.result (HasPushed (table_of old) x (table_of new))) back.0
    (subst (λ (t : Table). OnOk c.push_copies.result (HasPushed t c.in-Ok-Some.push (table_of new))) left.table c.push_copies.ensures.table)

pub returns-in-Ok-Some-clause-committed : goal.returns-in-Ok-Some-clause-committed
returns-in-Ok-Some-clause-committed g c =
    let D = g.D.Device in
    let i = c.self.inside in
    let old : Paged g.row.D.Denot = c.args.self.now in
    let p : Paged g.row.D.Denot = seen i.reader i.saved i.at.items i.usage.spare i.root i.size i.next i.visits i.written in
    let entries = c.push_in_place.new.spots.entries in
    let q : Paged g.row.D.Denot = record p { spots = entries } in
    let back = given_back c.args.push (spots_of p) (spots_of q) c.in-Ok-Some.field-0 c.in-Ok-Some.push c.in-Ok-Some.field-0-is c.in-Ok-Some.ensures.ok in
    let same : spots_of p ≡ spots_of q = λ j id. sym (back.1 id) j in
    let left : OnlyReadsOf D old q = subst (λ (x : Paged g.row.D.Denot). OnlyReadsOf D x q) c.self.view_is (unchanged D p entries same) in
    let new = c.push_copies.new.self in
    subst (λ (x : Push). is_known D old → IsSound (nodes_of D old) (table_of old) → (n m : Node) → nodes_of D old x.parent ≡ Some n → nodes_of D old x.child ≡ Some m
    → OnOk c.push_copies.result (IsPushed (nodes_of D old) (table_of old) x n m (nodes_of D new) (table_of new))) back.0
    (committed_before D old q c.in-Ok-Some.push left (λ P. OnOk c.push_copies.result P) new c.push_copies.ensures.committed)

pub returns-in-Ok-Some-clause-stays : goal.returns-in-Ok-Some-clause-stays
returns-in-Ok-Some-clause-stays g c =
    let D = g.D.Device in
    let i = c.self.inside in
    let old : Paged g.row.D.Denot = c.args.self.now in
    let p : Paged g.row.D.Denot = seen i.reader i.saved i.at.items i.usage.spare i.root i.size i.next i.visits i.written in
    let entries = c.push_in_place.new.spots.entries in
    let q : Paged g.row.D.Denot = record p { spots = entries } in
    let back = given_back c.args.push (spots_of p) (spots_of q) c.in-Ok-Some.field-0 c.in-Ok-Some.push c.in-Ok-Some.field-0-is c.in-Ok-Some.ensures.ok in
    let same : spots_of p ≡ spots_of q = λ j id. sym (back.1 id) j in
    let left : OnlyReadsOf D old q = subst (λ (x : Paged g.row.D.Denot). OnlyReadsOf D x q) c.self.view_is (unchanged D p entries same) in
    stays_before D old q c.in-Ok-Some.push left c.push_copies.new.self c.push_copies.ensures.stays

pub returns-in-Ok-Some-clause-err : goal.returns-in-Ok-Some-clause-err
returns-in-Ok-Some-clause-err g c =
    let D = g.D.Device in
    let i = c.self.inside in
    let old : Paged g.row.D.Denot = c.args.self.now in
    let p : Paged g.row.D.Denot = seen i.reader i.saved i.at.items i.usage.spare i.root i.size i.next i.visits i.written in
    let entries = c.push_in_place.new.spots.entries in
    let q : Paged g.row.D.Denot = record p { spots = entries } in
    let back = given_back c.args.push (spots_of p) (spots_of q) c.in-Ok-Some.field-0 c.in-Ok-Some.push c.in-Ok-Some.field-0-is c.in-Ok-Some.ensures.ok in
    let same : spots_of p ≡ spots_of q = λ j id. sym (back.1 id) j in
    let left : OnlyReadsOf D old q = subst (λ (x : Paged g.row.D.Denot). OnlyReadsOf D x q) c.self.view_is (unchanged D p entries same) in
    on_err_weaker c.push_copies.result (λ reads. reads_after D old q c.push_copies.new.self left reads) c.push_copies.ensures.err

pub returns-in-Ok-Some-clause-cause : goal.returns-in-Ok-Some-clause-cause
returns-in-Ok-Some-clause-cause g c =
    let D = g.D.Device in
    let i = c.self.inside in
    let old : Paged g.row.D.Denot = c.args.self.now in
    let p : Paged g.row.D.Denot = seen i.reader i.saved i.at.items i.usage.spare i.root i.size i.next i.visits i.written in
    let entries = c.push_in_place.new.spots.entries in
    let q : Paged g.row.D.Denot = record p { spots = entries } in
    let back = given_back c.args.push (spots_of p) (spots_of q) c.in-Ok-Some.field-0 c.in-Ok-Some.push c.in-Ok-Some.field-0-is c.in-Ok-Some.ensures.ok in
    let new : Paged g.row.D.Denot = c.push_copies.new.self in
    subst (λ (x : Paged g.row.D.Denot). HasMapCause (D.fault_count x.dev) (D.fault_count new.dev) (D.last_failed new.dev) (is_bad_to_push D new c.args.push) NeverWorn c.push_copies.result) c.self.view_is
    (subst (λ (x : Push). HasMapCause (D.fault_count p.dev) (D.fault_count new.dev) (D.last_failed new.dev) (is_bad_to_push D new x) NeverWorn c.push_copies.result) back.0 c.push_copies.ensures.cause)

pub invariant_of-self-in-Err : goal.invariant_of-self-in-Err
invariant_of-self-in-Err g c =
    let D = g.D.Device in
    let i = c.self.inside in
    let old : Paged g.row.D.Denot = c.args.self.now in
    let p : Paged g.row.D.Denot = seen i.reader i.saved i.at.items i.usage.spare i.root i.size i.next i.visits i.written in
    let entries = c.push_in_place.new.spots.entries in
    let same : spots_of p ≡ (λ id. lookup (nat_eq id) entries) = λ j id. sym (c.in-Err.ensures.err id) j in (
      reordered D p entries same c.self.invariant.0,
      subst (λ (s : Spots). IsTallied i.next s i.usage) same c.self.invariant.1,
      subst (λ (s : Spots). AreTested s i.reader.cache i.reader.tested) same c.self.invariant.2,
    )

pub waiting_in-self-inside-requires : goal.waiting_in-self-inside-requires
waiting_in-self-inside-requires g c =
    let D = g.D.Device in
    let i = c.self.inside in
    let old : Paged g.row.D.Denot = c.args.self.now in
    let p : Paged g.row.D.Denot = seen i.reader i.saved i.at.items i.usage.spare i.root i.size i.next i.visits i.written in
    let entries = c.push_in_place.new.spots.entries in
    let made = made_in_place c.args.push (spots_of p) (λ id. lookup (nat_eq id) entries) c.in-Ok-None.field-0 c.in-Ok-None.field-0-is c.in-Ok-None.ensures.ok in
    let is : IsPush (table_of p) c.args.push = subst (λ (x : Paged g.row.D.Denot). IsPush (table_of x) c.args.push) (sym c.self.view_is) c.requires.push in
    place_root D p c.args.push entries c.self.invariant.0 is made

pub invariant_of-self-2 : goal.invariant_of-self-2
invariant_of-self-2 g c =
    let D = g.D.Device in
    let i = c.self.inside in
    let old : Paged g.row.D.Denot = c.args.self.now in
    let p : Paged g.row.D.Denot = seen i.reader i.saved i.at.items i.usage.spare i.root i.size i.next i.visits i.written in
    let entries = c.push_in_place.new.spots.entries in
    let made = made_in_place c.args.push (spots_of p) (λ id. lookup (nat_eq id) entries) c.in-Ok-None.field-0 c.in-Ok-None.field-0-is c.in-Ok-None.ensures.ok in
    let is : IsPush (table_of p) c.args.push = subst (λ (x : Paged g.row.D.Denot). IsPush (table_of x) c.args.push) (sym c.self.view_is) c.requires.push in (
      place_paged D p c.args.push entries c.self.invariant.0 is made c.waiting_in-self-inside.result c.waiting_in-self-inside.ensures,
      spots_tallied D p c.args.push entries c.self.invariant.0 is made i.usage c.self.invariant.1,
      place_tested D p c.args.push entries c.self.invariant.0 is made c.waiting_in-self-inside.result c.waiting_in-self-inside.ensures i.reader.tested c.self.invariant.2,
    )

pub returns-clause-table : goal.returns-clause-table
returns-clause-table g c =
    let D = g.D.Device in
    let i = c.self.inside in
    let old : Paged g.row.D.Denot = c.args.self.now in
    let p : Paged g.row.D.Denot = seen i.reader i.saved i.at.items i.usage.spare i.root i.size i.next i.visits i.written in
    let entries = c.push_in_place.new.spots.entries in
    let made = made_in_place c.args.push (spots_of p) (λ id. lookup (nat_eq id) entries) c.in-Ok-None.field-0 c.in-Ok-None.field-0-is c.in-Ok-None.ensures.ok in
    let is : IsPush (table_of p) c.args.push = subst (λ (x : Paged g.row.D.Denot). IsPush (table_of x) c.args.push) (sym c.self.view_is) c.requires.push in
    let q : Paged g.row.D.Denot = record p { spots = entries; size = c.waiting_in-self-inside.result; written = None } in
    let done : HasMadePush D old c.args.push q = subst (λ (x : Paged g.row.D.Denot). HasMadePush D x c.args.push q) c.self.view_is
    (place_made D p c.args.push entries c.self.invariant.0 is made c.waiting_in-self-inside.result c.waiting_in-self-inside.ensures) in
    done.table

pub returns-clause-committed : goal.returns-clause-committed
returns-clause-committed g c =
    let D = g.D.Device in
    let i = c.self.inside in
    let old : Paged g.row.D.Denot = c.args.self.now in
    let p : Paged g.row.D.Denot = seen i.reader i.saved i.at.items i.usage.spare i.root i.size i.next i.visits i.written in
    let entries = c.push_in_place.new.spots.entries in
    let made = made_in_place c.args.push (spots_of p) (λ id. lookup (nat_eq id) entries) c.in-Ok-None.field-0 c.in-Ok-None.field-0-is c.in-Ok-None.ensures.ok in
    let is : IsPush (table_of p) c.args.push = subst (λ (x : Paged g.row.D.Denot). IsPush (table_of x) c.args.push) (sym c.self.view_is) c.requires.push in
    let q : Paged g.row.D.Denot = record p { spots = entries; size = c.waiting_in-self-inside.result; written = None } in
    let done : HasMadePush D old c.args.push q = subst (λ (x : Paged g.row.D.Denot). HasMadePush D x c.args.push q) c.self.view_is
    (place_made D p c.args.push entries c.self.invariant.0 is made c.waiting_in-self-inside.result c.waiting_in-self-inside.ensures) in
    done.committed

pub returns-clause-stays : goal.returns-clause-stays
returns-clause-stays g c =
    let D = g.D.Device in
    let i = c.self.inside in
    let old : Paged g.row.D.Denot = c.args.self.now in
    let p : Paged g.row.D.Denot = seen i.reader i.saved i.at.items i.usage.spare i.root i.size i.next i.visits i.written in
    let entries = c.push_in_place.new.spots.entries in
    let made = made_in_place c.args.push (spots_of p) (λ id. lookup (nat_eq id) entries) c.in-Ok-None.field-0 c.in-Ok-None.field-0-is c.in-Ok-None.ensures.ok in
    let is : IsPush (table_of p) c.args.push = subst (λ (x : Paged g.row.D.Denot). IsPush (table_of x) c.args.push) (sym c.self.view_is) c.requires.push in
    let q : Paged g.row.D.Denot = record p { spots = entries; size = c.waiting_in-self-inside.result; written = None } in
    let done : HasMadePush D old c.args.push q = subst (λ (x : Paged g.row.D.Denot). HasMadePush D x c.args.push q) c.self.view_is
    (place_made D p c.args.push entries c.self.invariant.0 is made c.waiting_in-self-inside.result c.waiting_in-self-inside.ensures) in
    done.stays
