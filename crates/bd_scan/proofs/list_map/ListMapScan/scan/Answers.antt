use Rattle.std.proofs.Common.{◌≡◌, ℕ, ◌∷◌, [], ◌++◌, ◌+◌, ◌≤◌, ◌<◌, List, refl, sym, ap, subst, ◌∙◌, Option, Some, None, arith, length, length-append, vec_len}
use Rattle.std.specs.FinMap.{get}
use Rattle.std.specs.Option.{option_map}
use Rattle.bd_message.specs.KeyMaps.{IsNextEntry}
use Rattle.bd_scan.specs.Scans.{AreNext}
use Rattle.bd_scan.specs.declared.scan.Found.{Found}
use Rattle.bd_scan.proofs.Rows.{low_after, low_none, low_more, next_more}
use Rattle.bd_scan.proofs.list_map.ListMapScan.scan.Goals as goal

pub loop-alloc-init : goal.loop-alloc-init
loop-alloc-init c = record {
  same = refl;
  each = subst (λ (fs : List Found). AreNext (λ k. get c.args.self.now k) c.args.from.now c.args.within.now fs) (sym c.new-found.ensures.items) tt;
  low = c.in_ok-low.ensures.items ∙ sym (ap (λ (fs : List Found). low_after c.args.from.now fs) c.new-found.ensures.items ∙ low_none c.args.from.now);
  few = subst (λ (fs : List Found). length fs ≤ c.args.most) (sym c.new-found.ensures.items) (omega arith);
}

pub loop-alloc-preserved : goal.loop-alloc-preserved
loop-alloc-preserved c =
    let inv = c.loop-alloc.invariant in
    let f : Found = record { key = c.in-Some.key.items; value = c.in-Some.value.items } in
    let made : ◌≡◌ {A = Found} (record { key = c.from_vec-key.result; value = c.from_vec-value.result }) f =
    ap (λ (k : List ℕ). record { key = k; value = c.from_vec-value.result }) c.from_vec-key.ensures ∙ ap (λ (v : List ℕ). record { key = c.in-Some.key.items; value = v }) c.from_vec-value.ensures in
    let more : c.push-in-loop-alloc.new.self.items ≡ c.loop-alloc.found.items ++ f ∷ [] = c.in_ok-push-2.ensures.items ∙ ap (λ (g : Found). c.loop-alloc.found.items ++ g ∷ []) made in
    let low : c.deref.result.now ≡ low_after c.args.from.now c.loop-alloc.found.items = c.deref.ensures.value ∙ inv.low in
    let found : IsNextEntry (λ k. get c.loop-alloc.self k) c.deref.result.now c.args.within.now (Some (f.key, f.value)) =
    subst (λ o. IsNextEntry (λ k. get c.loop-alloc.self k) c.deref.result.now c.args.within.now (option_map (λ e. (e.0.items, e.1.items)) o)) c.in-Some.is (c.in_ok-key.ensures.next tt) in
    let next : IsNextEntry (λ k. get c.loop-alloc.self k) (low_after c.args.from.now c.loop-alloc.found.items) c.args.within.now (Some (f.key, f.value)) =
    subst (λ (k : List ℕ). IsNextEntry (λ k. get c.loop-alloc.self k) k c.args.within.now (Some (f.key, f.value))) low found in
    record {
      same = c.in_ok-key.ensures.left.read ∙ inv.same;
      each = subst (λ (fs : List Found). AreNext (λ k. get c.next.new.self k) c.args.from.now c.args.within.now fs) (sym more)
          (subst (λ m. AreNext (λ k. get m k) c.args.from.now c.args.within.now (c.loop-alloc.found.items ++ f ∷ [])) (sym c.in_ok-key.ensures.left.read)
          (next_more (λ k. get c.loop-alloc.self k) c.args.from.now c.args.within.now c.loop-alloc.found.items f inv.each next));
      low = c.in_ok-push.ensures.items ∙ ap (λ (k : List ℕ). k ++ 0 ∷ []) (c.in_ok-low-2.ensures.items ∙ c.deref-in-loop-alloc.ensures.value)
          ∙ sym (ap (λ (fs : List Found). low_after c.args.from.now fs) more ∙ low_more c.args.from.now c.loop-alloc.found.items f);
      few = subst (λ (fs : List Found). length fs ≤ c.args.most) (sym more)
          (let n : length (c.loop-alloc.found.items ++ f ∷ []) ≡ length c.loop-alloc.found.items + 1 = length-append c.loop-alloc.found.items (f ∷ []) in
          let len : c.len.result ≡ vec_len c.loop-alloc.found = c.len.ensures in
          let less : c.len.result < c.args.most = c.loop-alloc-test.true in omega (arith, c.loop-alloc.found.ok));
    }

pub returns-clause-found : goal.returns-clause-found
returns-clause-found c known = record {
  each = subst (λ m. AreNext (λ k. get m k) c.args.from.now c.args.within.now c.loop-alloc.found.items) c.loop-alloc.invariant.same c.loop-alloc.invariant.each;
  none = λ empty. (let none : length c.loop-alloc.found.items ≡ 0 = ap (λ (fs : List Found). length fs) empty in
      let len : c.len.result ≡ vec_len c.loop-alloc.found = c.len.ensures in
      let full : c.args.most ≤ c.len.result = c.loop-alloc-test.false in
      let some : 1 ≤ c.args.most = c.requires.some in
      absurd (omega (arith, c.loop-alloc.found.ok)));
}

pub returns-in_default-clause-found : goal.returns-in_default-clause-found
returns-in_default-clause-found c known = record {
  each = subst (λ m. AreNext (λ k. get m k) c.args.from.now c.args.within.now c.loop-alloc.found.items) c.loop-alloc.invariant.same c.loop-alloc.invariant.each;
  none = λ empty.
      (let none : c.in_ok-key.field-0 ≡ None = cc in
      let found : IsNextEntry (λ k. get c.loop-alloc.self k) c.deref.result.now c.args.within.now None =
      subst (λ o. IsNextEntry (λ k. get c.loop-alloc.self k) c.deref.result.now c.args.within.now (option_map (λ e. (e.0.items, e.1.items)) o)) none (c.in_ok-key.ensures.next tt) in
      let low : c.deref.result.now ≡ c.args.from.now = c.deref.ensures.value ∙ c.loop-alloc.invariant.low ∙ ap (λ (fs : List Found). low_after c.args.from.now fs) empty ∙ low_none c.args.from.now in
      subst (λ m. IsNextEntry (λ k. get m k) c.args.from.now c.args.within.now None) c.loop-alloc.invariant.same
      (subst (λ (k : List ℕ). IsNextEntry (λ k. get c.loop-alloc.self k) k c.args.within.now None) low found));
}
