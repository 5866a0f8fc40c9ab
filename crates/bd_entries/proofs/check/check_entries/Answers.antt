use Rattle.std.proofs.Common.{◌≡◌, ℕ, List, [], ◌∷◌, ◌++◌, length, None, sym, ap, subst, ◌∙◌}
use Rattle.bd_files.proofs.Pieces.{left_both}
use Rattle.bd_scan.specs.declared.scan.Found.{Found}
use Rattle.bd_scan.specs.Scans.{AreNext}
use Rattle.bd_entries.specs.declared.pass.Went.{Went}
use Rattle.bd_entries.specs.declared.pass.Went.TheVariants.{On}
use Rattle.bd_entries.specs.Fronts.{key_past}
use Rattle.bd_entries.specs.Passes.{IsPassed, HasWent, HasCounted}
use Rattle.bd_entries.proofs.Passing.{scan_of, none_last, last_is, key_past_last}
use Rattle.bd_entries.proofs.check.check_entries.Goals as goal

pub returns-in_default-clause-verdict : goal.returns-in_default-clause-verdict
returns-in_default-clause-verdict g c = λ known.
    let left = c.runs.invariant.left in
    let scan = scan_of (g.M.KeyMap.has c.args.m.now) (g.M.KeyMap.has c.runs.m) c.deref.result.now c.runs.from.items c.in_ok-found.found.items (λ k. left.kept known k) c.deref.ensures.value (c.in_ok-found.ensures.found (left.known known)) in
    let no_last : c.last.result ≡ None = cc in
    let none : c.in_ok-found.found.items ≡ [] = sym c.deref-in-runs.ensures.value ∙ none_last c.deref-in-runs.result.now c.last.result c.last.ensures.item no_last in
    c.verdict_at_end.ensures c.args.has_modes (g.M.KeyMap.has c.args.m.now) c.runs.from.items c.args.most (c.runs.invariant.passed known) c.runs.invariant.few (scan.none none)

pub returns-in-Broken-clause-verdict : goal.returns-in-Broken-clause-verdict
returns-in-Broken-clause-verdict g c = λ known.
    let left = c.runs.invariant.left in
    let at = g.M.KeyMap.has c.args.m.now in
    let scan = scan_of (g.M.KeyMap.has c.args.m.now) (g.M.KeyMap.has c.runs.m) c.deref.result.now c.runs.from.items c.in_ok-found.found.items (λ k. left.kept known k) c.deref.ensures.value (c.in_ok-found.ensures.found (left.known known)) in
    let each : AreNext (g.M.KeyMap.has c.args.m.now) c.runs.from.items [] c.deref-in-runs-2.result.now = subst (λ (fs : List Found). AreNext (g.M.KeyMap.has c.args.m.now) c.runs.from.items [] fs) (sym c.deref-in-runs-2.ensures.value) scan.each in
    subst (λ (w : Went). HasWent c.args.has_modes (g.M.KeyMap.has c.args.m.now) c.args.most (key_past c.runs.from.items c.deref-in-runs-2.result.now) w) c.in-Broken.is
    (c.in_ok-next.ensures.went (g.M.KeyMap.has c.args.m.now) c.runs.from.items c.requires (c.runs.invariant.passed known) each)

pub returns-in-Limit-clause-verdict : goal.returns-in-Limit-clause-verdict
returns-in-Limit-clause-verdict g c = λ known.
    let left = c.runs.invariant.left in
    let scan = scan_of (g.M.KeyMap.has c.args.m.now) (g.M.KeyMap.has c.runs.m) c.deref.result.now c.runs.from.items c.in_ok-found.found.items (λ k. left.kept known k) c.deref.ensures.value (c.in_ok-found.ensures.found (left.known known)) in
    let each : AreNext (g.M.KeyMap.has c.args.m.now) c.runs.from.items [] c.deref-in-runs-2.result.now = subst (λ (fs : List Found). AreNext (g.M.KeyMap.has c.args.m.now) c.runs.from.items [] fs) (sym c.deref-in-runs-2.ensures.value) scan.each in
    subst (λ (w : Went). HasWent c.args.has_modes (g.M.KeyMap.has c.args.m.now) c.args.most (key_past c.runs.from.items c.deref-in-runs-2.result.now) w) c.in-Limit.is
    (c.in_ok-next.ensures.went (g.M.KeyMap.has c.args.m.now) c.runs.from.items c.requires (c.runs.invariant.passed known) each)

pub runs-preserved : goal.runs-preserved
runs-preserved g c =
    let counted : HasCounted c.runs.pass.keys (length c.deref-in-runs-2.result.now) c.args.most (On c.in-On.next) = subst (λ (w : Went). HasCounted c.runs.pass.keys (length c.deref-in-runs-2.result.now) c.args.most w) c.in-On.is c.in_ok-next.ensures.counted in
    record {
      left = left_both g.M.KeyMap g.met.M.KeyMap.reads_both c.args.m.now c.runs.m c.scan.new.self c.runs.invariant.left c.in_ok-found.ensures.left;
      faults = c.in_ok-found.ensures.cause.kept ∙ c.runs.invariant.faults;
      few = counted.1;
      passed = λ known.
          let left = c.runs.invariant.left in
          let scan = scan_of (g.M.KeyMap.has c.args.m.now) (g.M.KeyMap.has c.runs.m) c.deref.result.now c.runs.from.items c.in_ok-found.found.items (λ k. left.kept known k) c.deref.ensures.value (c.in_ok-found.ensures.found (left.known known)) in
          let each : AreNext (g.M.KeyMap.has c.args.m.now) c.runs.from.items [] c.deref-in-runs-2.result.now = subst (λ (fs : List Found). AreNext (g.M.KeyMap.has c.args.m.now) c.runs.from.items [] fs) (sym c.deref-in-runs-2.ensures.value) scan.each in
          let went : HasWent c.args.has_modes (g.M.KeyMap.has c.args.m.now) c.args.most (key_past c.runs.from.items c.deref-in-runs-2.result.now) (On c.in-On.next) =
          subst (λ (w : Went). HasWent c.args.has_modes (g.M.KeyMap.has c.args.m.now) c.args.most (key_past c.runs.from.items c.deref-in-runs-2.result.now) w) c.in-On.is
          (c.in_ok-next.ensures.went (g.M.KeyMap.has c.args.m.now) c.runs.from.items c.requires (c.runs.invariant.passed known) each) in
          let last = last_is c.deref-in-runs.result.now c.last.result c.in-Some.last c.last.ensures.item c.in-Some.is in
          let past : key_past c.runs.from.items c.deref-in-runs.result.now ≡ c.in-Some.last.now.key ++ 0 ∷ [] = key_past_last c.runs.from.items c.deref-in-runs.result.now c.in-Some.last.now last.0 last.1 in
          let from : key_past c.runs.from.items c.deref-in-runs-2.result.now ≡ c.in_ok-from.from.items =
          ap (λ (fs : List Found). key_past c.runs.from.items fs) (c.deref-in-runs-2.ensures.value ∙ sym c.deref-in-runs.ensures.value) ∙ past
          ∙ sym (c.in_ok-from.ensures ∙ ap (λ (k : List ℕ). k ++ 0 ∷ []) c.as_slice.ensures) in
          subst (λ (k : List ℕ). IsPassed c.args.has_modes (g.M.KeyMap.has c.args.m.now) k c.in-On.next) from went;
    }
