use Rattle.std.proofs.Common.{◌≡◌, ◌<◌, ◌≤◌, ℕ, [], length, refl, sym, ap, ◌∙◌, arith}
use Rattle.std.specs.Prelude.{◌==◌}
use Rattle.std.specs.Option.{option_copied}
use Rattle.bd_names.specs.Names.{key_of}
use Rattle.bd_model.specs.Step.{children, those_after}
use Rattle.bd_represent.proofs.TreeLemmas.{Represents-along}
use Rattle.bd_files.proofs.Pieces.{left_both}
use Rattle.bd_dirs.specs.Listings.{key_after, IsAdded}
use Rattle.bd_dirs.proofs.Searches.{scan_along, listing_ends, any_found, none_found}
use Rattle.bd_dirs.proofs.Children.{none_listed}
use Rattle.bd_dirs.proofs.listing.listing.Goals as goal
use Rattle.bd_dirs.proofs.listing.listing.Goals.{then-added-eq0, else-added-eq0, else-scans-test, then-scans-test+in_ok-found+then-is_empty}

pub returns-then-branch-clause-listing : goal.returns-then-branch-clause-listing
returns-then-branch-clause-listing g c = λ known t tree r.
    let left = c.scans.invariant.left in
    let at = g.M.KeyMap.has c.scans.m in
    let later = Represents-along (g.M.KeyMap.has c.args.m.now) at t (λ k key. left.kept known k) r in
    let all = those_after (option_copied c.args.after) (children c.args.path.now t) in
    let within : c.deref-in-scans-3.result.now ≡ c.in_ok-within.within.items = c.deref-in-scans-3.ensures.value in
    let scan = scan_along at c.deref-in-scans.result.now c.scans.from.items c.deref-in-scans-2.result.now c.deref-in-scans-3.result.now c.in_ok-found.found.items c.deref-in-scans-4.result.now
    c.deref-in-scans.ensures.value (c.deref-in-scans-2.ensures.value ∙ sym within) (sym c.deref-in-scans-4.ensures.value) (c.in_ok-found.ensures.found (left.known known)) in
    let listed = (c.scans.invariant.listed known t tree r).1 in
    let added : IsAdded t c.args.path.now all c.scans.names.items c.add_found.new.names.items c.add_found.new.from.items (length c.deref-in-scans-4.result.now) c.in_ok-add_found.field-0
    = c.in_ok-add_found.ensures.added at t c.args.path.now all tree later c.in_ok-within.ensures.names (within ∙ c.in_ok-within.ensures.key) listed scan.each c.scans.invariant.few in
    c.listing_from.ensures ∙ added.whole c.if-branch.true

pub scans-preserved : goal.scans-preserved
scans-preserved g c = record {
  left = left_both g.M.KeyMap g.met.M.KeyMap.reads_both c.args.m.now c.scans.m c.scan.new.self c.scans.invariant.left c.in_ok-found.ensures.left;
  faults = c.in_ok-found.ensures.cause.kept ∙ c.scans.invariant.faults;
  few = c.in_ok-add_found.ensures.few c.scans.invariant.few;
  some = c.next_most-most.ensures;
  listed = λ known t tree r.
      let left = c.scans.invariant.left in
      let at = g.M.KeyMap.has c.scans.m in
      let later = Represents-along (g.M.KeyMap.has c.args.m.now) at t (λ k key. left.kept known k) r in
      let all = those_after (option_copied c.args.after) (children c.args.path.now t) in
      let within : c.deref-in-scans-3.result.now ≡ c.in_ok-within.within.items = c.deref-in-scans-3.ensures.value in
      let scan = scan_along at c.deref-in-scans.result.now c.scans.from.items c.deref-in-scans-2.result.now c.deref-in-scans-3.result.now c.in_ok-found.found.items c.deref-in-scans-4.result.now
      c.deref-in-scans.ensures.value (c.deref-in-scans-2.ensures.value ∙ sym within) (sym c.deref-in-scans-4.ensures.value) (c.in_ok-found.ensures.found (left.known known)) in
      let listed = c.scans.invariant.listed known t tree r in
      let added : IsAdded t c.args.path.now all c.scans.names.items c.add_found.new.names.items c.add_found.new.from.items (length c.deref-in-scans-4.result.now) c.in_ok-add_found.field-0
      = c.in_ok-add_found.ensures.added at t c.args.path.now all tree later c.in_ok-within.ensures.names (within ∙ c.in_ok-within.ensures.key) listed.1 scan.each c.scans.invariant.few in
      let some : 1 ≤ length c.in_ok-found.found.items = any_found c.in_ok-found.found.items c.is_empty.result (c.is_empty.ensures ∙ ap (λ (n : ℕ). n == 0) (c.in_ok-found.found.ok.0)) c.if-is_empty.false in
      let more : length c.scans.names.items < length c.add_found.new.names.items = added.further c.if-branch.false (omega (arith, some, ap length c.deref-in-scans-4.ensures.value)) in (
        elim c.if-added-eq0.branch [
          | then-added-eq0 w ↦ (let n = w.if-added-eq0.true in absurd (omega (arith, c.len.ensures, c.len-before.ensures, c.add_found.new.names.ok.0, c.scans.names.ok.0)))
          | else-added-eq0 w ↦ w.passed-is
        ],
        added.listed c.if-branch.false,
      );
}

pub returns-clause-listing : goal.returns-clause-listing
returns-clause-listing g c = λ known t tree r.
    let left = c.scans.invariant.left in
    let at = g.M.KeyMap.has c.scans.m in
    let later = Represents-along (g.M.KeyMap.has c.args.m.now) at t (λ k key. left.kept known k) r in
    let all = those_after (option_copied c.args.after) (children c.args.path.now t) in
    let listed = c.scans.invariant.listed known t tree r in
    c.listing_from-2.ensures ∙ elim c.scans-test.branch [
      | else-scans-test w ↦ absurd (omega (arith, listed.0, w.scans-test.false))
      | then-scans-test+in_ok-found+then-is_empty w ↦ (
          let none : w.in_ok-found.found.items ≡ [] = none_found w.in_ok-found.found.items w.is_empty.result (w.is_empty.ensures ∙ ap (λ (n : ℕ). n == 0) (w.in_ok-found.found.ok.0)) w.if-is_empty.true in
          let scan = scan_along at w.deref-in-scans.result.now (key_after c.args.path.now listed.1.last) w.deref-in-scans-2.result.now (key_of c.args.path.now) w.in_ok-found.found.items []
          (w.deref-in-scans.ensures.value ∙ listed.1.from_is) (w.deref-in-scans-2.ensures.value ∙ c.in_ok-within.ensures.key) none (w.in_ok-found.ensures.found (left.known known)) in
          listing_ends t c.args.path.now all c.scans.names.items c.scans.from.items listed.1 (none_listed at t c.args.path.now listed.1.last tree later (scan.none refl)) c.scans.invariant.few)
    ]
