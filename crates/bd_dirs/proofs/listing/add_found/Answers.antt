use Rattle.std.proofs.Common.{◌≡◌, ℕ, ◌++◌, ◌∷◌, [], ◌≤◌, List, length, length-append, subst, sym, ap, ◌∙◌, arith, rules}
use Rattle.std.specs.Prelude.{Some, IsSome}
use Rattle.bd_model.specs.Step.{children, those_after}
use Rattle.bd_dirs.specs.Listings.{first_of, key_after}
use Rattle.bd_dirs.proofs.Children.{none_there}
use Rattle.bd_keys.specs.Keys.{IsKey}
use Rattle.bd_limits.specs.Limits.{listing_limit}
use Rattle.bd_dirs.proofs.Searches.{search_begins, search_here, search_passes, search_finds, search_adds, listing_whole, search_ends, below_tested, least_tested}
use Rattle.bd_dirs.proofs.listing.add_found.Goals as goal
use Rattle.bd_dirs.proofs.listing.add_found.Goals.{in-Some-2+in_ok-from-in-Some-2+in_ok-push-in-Some-2, in-None+in_ok-from-in-None}

pub loop-each-init : goal.loop-each-init
loop-each-init c = record {
  few = λ h. h;
  more = omega arith;
  searched = λ at t path all tree r names within listed next.
      search_begins at t path all c.args.names.now.items c.args.from.now.items c.args.within.now c.args.found.now within listed next;
}

pub loop-each-preserved-then-is_lt : goal.loop-each-preserved-then-is_lt
loop-each-preserved-then-is_lt c = record {
  few = c.loop-each.invariant.few;
  more = c.loop-each.invariant.more;
  searched = λ at t path all tree r names within listed next.
      let old = c.args.names.now.items in
      let s = search_here at t path all old c.args.found.now c.loop-each.each-index c.each-item.result c.loop-each.names.items c.loop-each.from.items c.loop-each-test.true c.each-item.is (c.loop-each.invariant.searched at t path all tree r names within listed next) in
      search_passes at t path all old c.each-item.result _ c.loop-each.each-index c.loop-each.names.items c.loop-each.from.items s (below_tested c.each-item.result.key c.loop-each.from.items (cc));
}

pub returns-in-Some-clause-added : goal.returns-in-Some-clause-added
returns-in-Some-clause-added c = λ at t path all tree r names within listed next few.
    let old = c.args.names.now.items in
    let s = search_here at t path all old c.args.found.now c.loop-each.each-index c.each-item.result c.loop-each.names.items c.loop-each.from.items c.loop-each-test.true c.each-item.is (c.loop-each.invariant.searched at t path all tree r names within listed next) in
    let after = least_tested c.each-item.result.key c.loop-each.from.items (cc) in
    let entry = search_finds at t path all old c.each-item.result _ c.loop-each.each-index c.loop-each.names.items c.loop-each.from.items s c.as_slice-key.result.now c.as_slice-in-loop-each.result.now c.as_slice-key.ensures c.as_slice-in-loop-each.ensures after in
    let child = c.in_ok-child_at.ensures.child at t tree r path s.listed.last names s.listed.bytes within entry in
    let many : listing_limit ≤ length c.loop-each.names.items = omega (arith, c.if-len-ge-MAX_LISTING.true, c.len.ensures, c.loop-each.names.ok.0) in
    record {
      whole = λ _. listing_whole t path all c.loop-each.names.items c.loop-each.from.items c.in-Some.field-0 s.listed (sym c.in-Some.is ∙ child.1) (c.loop-each.invariant.few few) many;
      listed = λ never. absurd (cc);
      further = λ never. absurd (cc);
    }

pub loop-each-preserved : goal.loop-each-preserved
loop-each-preserved c =
    elim c.match-branch-2.branch [
      | in-Some-2+in_ok-from-in-Some-2+in_ok-push-in-Some-2 w ↦ record {
        few = λ _. omega (arith, ap (λ v. length v.items) w.names-is, ap length w.in_ok-push-in-Some-2.ensures.items, length-append c.loop-each.names.items (w.in-Some-2.child ∷ []), w.if-len-ge-MAX_LISTING.false, w.len.ensures, c.loop-each.names.ok.0);
        more = omega (arith, ap (λ v. length v.items) w.names-is, ap length w.in_ok-push-in-Some-2.ensures.items, length-append c.loop-each.names.items (w.in-Some-2.child ∷ []), c.loop-each.invariant.more);
        searched = λ at t path all tree r names within listed next.
            let old = c.args.names.now.items in
            let s = search_here at t path all old c.args.found.now c.loop-each.each-index c.each-item.result c.loop-each.names.items c.loop-each.from.items c.loop-each-test.true c.each-item.is (c.loop-each.invariant.searched at t path all tree r names within listed next) in
            let after = least_tested c.each-item.result.key c.loop-each.from.items (cc) in
            let entry = search_finds at t path all old c.each-item.result _ c.loop-each.each-index c.loop-each.names.items c.loop-each.from.items s c.as_slice-key.result.now c.as_slice-in-loop-each.result.now c.as_slice-key.ensures c.as_slice-in-loop-each.ensures after in
            let child : IsSome c.in_ok-child_at.field-0 × (c.in_ok-child_at.field-0 ≡ first_of (those_after s.listed.last (children path t))) = c.in_ok-child_at.ensures.child at t tree r path s.listed.last names s.listed.bytes within entry in
            let key : IsKey c.as_slice-key.result.now = search rules in
            let are : c.match-branch-2.names.items ≡ c.loop-each.names.items ++ w.in-Some.field-0 ∷ [] = ap (λ v. v.items) w.names-is ∙ w.in_ok-push-in-Some-2.ensures.items in
            let from_is : c.match-branch-2.from.items ≡ key_after path (Some w.in-Some.field-0.name) = ap (λ v. v.items) w.from-is ∙ w.in_ok-from-in-Some-2.ensures.key ∙ ap (λ (k : List ℕ). k ++ (w.in-Some.field-0.name ++ 1 ∷ [])) within in
            search_adds at t path all old c.each-item.result _ c.loop-each.each-index c.loop-each.names.items c.loop-each.from.items s w.in-Some.field-0 c.match-branch-2.names.items c.match-branch-2.from.items
            tree r names (subst IsKey c.as_slice-key.ensures key) c.loop-each.invariant.more after (sym w.in-Some.is ∙ child.1) are from_is w.in_ok-from-in-Some-2.ensures.name;
      }
      | in-None+in_ok-from-in-None w ↦ record {
        few = λ h. omega (arith, ap (λ v. length v.items) w.names-is, c.loop-each.invariant.few h);
        more = omega (arith, ap (λ v. length v.items) w.names-is, c.loop-each.invariant.more);
        searched = λ at t path all tree r names within listed next.
            let old = c.args.names.now.items in
            let s = search_here at t path all old c.args.found.now c.loop-each.each-index c.each-item.result c.loop-each.names.items c.loop-each.from.items c.loop-each-test.true c.each-item.is (c.loop-each.invariant.searched at t path all tree r names within listed next) in
            let after = least_tested c.each-item.result.key c.loop-each.from.items (cc) in
            let entry = search_finds at t path all old c.each-item.result _ c.loop-each.each-index c.loop-each.names.items c.loop-each.from.items s c.as_slice-key.result.now c.as_slice-in-loop-each.result.now c.as_slice-key.ensures c.as_slice-in-loop-each.ensures after in
            let child : IsSome c.in_ok-child_at.field-0 × (c.in_ok-child_at.field-0 ≡ first_of (those_after s.listed.last (children path t))) = c.in_ok-child_at.ensures.child at t tree r path s.listed.last names s.listed.bytes within entry in
            absurd (none_there c.in_ok-child_at.field-0 child.0 w.in-None.is);
      }
    ]

pub returns-clause-added : goal.returns-clause-added
returns-clause-added c = λ at t path all tree r names within listed next few.
    let s = c.loop-each.invariant.searched at t path all tree r names within listed next in
    search_ends at t path all c.args.names.now.items c.loop-each.names.items c.args.found.now _ c.loop-each.from.items c.loop-each.each-index (omega arith) s
