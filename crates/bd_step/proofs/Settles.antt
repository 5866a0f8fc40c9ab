-- Where a step before a graft begins, and what it copies.
use Rattle.std.proofs.Common.{◌≡◌, ℕ, zero, suc, Bool, ◌+◌, ◌<◌, ◌≤◌, List, [], ◌∷◌, ◌++◌, length, drop, reverse, refl, sym, ap, subst, ◌∙◌, Option, Some, arith, inl, inr, cond, add-one, Err}
use Rattle.std.specs.Prelude.{slice_get, count_by, ◌==◌, IfSome, MatchOption}
use Rattle.std.specs.List.{flat_map}
use Rattle.std.specs.Option.{option_to_list}
use Rattle.std.proofs.lemmas.Bool.{cases_lt}
use Rattle.std.proofs.lemmas.List.Sums.{sum_by-append}
use Rattle.std.proofs.lemmas.Option.{same_Some, none-some}
use Rattle.bd_limits.specs.Limits.{soft_limit}
use Rattle.bd_message.specs.declared.fault.Counter.{Counter}
use Rattle.bd_message.specs.declared.fault.MapFault.{MapFault}
use Rattle.bd_message.specs.KeyMaps.{HasMapCause}
use Rattle.bd_message.proofs.Causes.{cause_weaker, cause_passed, cause_after}
use Rattle.bd_node.specs.declared.node.Edge.{Edge}
use Rattle.bd_node.specs.declared.node.Node.{Node}
use Rattle.bd_node.specs.declared.node.Node.TheVariants.{Leaf, Inner}
use Rattle.bd_node.specs.Nodes.{buffer_size, edge_names, message_names, times}
use Rattle.bd_node.specs.Meaning.{Nodes}
use Rattle.bd_node.specs.Shape.{end_before, IsShape}
use Rattle.bd_node.specs.Tables.{Table, IsSound}
use Rattle.bd_node.specs.Parts.{edges_of, buffer_of, end_at, IsEdgeAt}
use Rattle.bd_node.proofs.Lookup.{count-cons_same}
use Rattle.bd_node.proofs.Parts.{some_edge}
use Rattle.bd_node.proofs.Sound.{counted}
use Rattle.bd_path.specs.declared.fetching.Fetched.{Fetched}
use Rattle.bd_path.specs.Fetching.{IsEdgeTo, IsWayTo, IsOwn, AreOwn}
use Rattle.bd_path.specs.Raising.{IsWayUp}
use Rattle.bd_step.specs.declared.ways.FlushStep.{FlushStep}
use Rattle.bd_step.specs.declared.ways.FlushStep.TheVariants.{SplitRoot, At}
use Rattle.bd_step.specs.declared.ways.Site.{Site}
use Rattle.bd_step.specs.declared.ways.Work.TheVariants.{Split, Push, Privatise, Carve}
use Rattle.bd_step.specs.Filling.{IsPendingSize}
use Rattle.bd_step.specs.Ways.{HasPendingAt, IsFullestAt, IsDue, IsStepFrom, IsStanding, IsReached}
use Rattle.bd_step.specs.Steps.{IsWornStep, IsAbundantAt}
use Rattle.bd_step.specs.Beginning.{IsSplitFirst, BeginsAt, IsMadeFrom, IsFoundFrom, IsWornFrom}
use Rattle.bd_step.specs.Beginning.IsSplitFirst.{at_root, asked_through, below, further}
use Rattle.bd_step.specs.Settling.{IsPlainUp, IsUnsettled, IsUnsettledIn, IsMuchAt, IsAbundantCopy, IsSettleStep, IsSettleFound, IsWornToSettle}
use Rattle.bd_step.specs.Settling.IsPlainUp.{one_up}
use Rattle.bd_step.proofs.Begins.{IsUpLink, link_of, sound_again}
use Rattle.bd_step.proofs.Making.{abundant_in, step_known}
use Rattle.bd_step.proofs.PendingAll.{within_edges}
use Rattle.bd_step.proofs.Unders.{sized_pending, due_much, much_pending}
use Rattle.bd_step.proofs.Waiting.{size_at}

-- ---- a child that is named once is asked by one edge

abbrev counted_in : ℕ → List ℕ → ℕ
counted_in c xs = count_by (λ name. name == c) xs

counted_both : (c : ℕ) (xs ys : List ℕ) → counted_in c (xs ++ ys) ≡ counted_in c xs + counted_in c ys
counted_both c xs ys = sum_by-append (λ (name : ℕ). cond (name == c) 1 0) xs ys

own_name : (c : ℕ) (e : Edge) → e.child ≡ Some c → 1 ≤ counted_in c (edge_names e)
own_name c e is =
    let same : counted_in c (edge_names e) ≡ counted_in c (c ∷ []) = ap (λ (o : Option ℕ). counted_in c (option_to_list o)) is in
    let one : counted_in c (c ∷ []) ≡ 1 + counted_in c [] = count-cons_same c [] in
    omega arith

listed_one : (es : List Edge) (j c : ℕ) (e : Edge) → slice_get es j ≡ Some e → e.child ≡ Some c → 1 ≤ counted_in c (flat_map edge_names es)
listed_one [] j c e there is = absurd (none-some e there)
listed_one (f ∷ es) zero c e there is =
    let one : 1 ≤ counted_in c (edge_names f) = own_name c f (ap (λ (g : Edge). g.child) (same_Some f e there) ∙ is) in
    omega (arith, counted_both c (edge_names f) (flat_map edge_names es))
listed_one (f ∷ es) (suc j) c e there is =
    let one : 1 ≤ counted_in c (flat_map edge_names es) = listed_one es j c e there is in
    omega (arith, counted_both c (edge_names f) (flat_map edge_names es))

listed_two : (es : List Edge) (i j c : ℕ) (d e : Edge) → i < j → slice_get es i ≡ Some d → slice_get es j ≡ Some e → d.child ≡ Some c → e.child ≡ Some c → 2 ≤ counted_in c (flat_map edge_names es)
listed_two [] i j c d e less first there one is = absurd (none-some d first)
listed_two (f ∷ es) i zero c d e less first there one is = absurd (omega arith)
listed_two (f ∷ es) zero (suc j) c d e less first there one is =
    let here : 1 ≤ counted_in c (edge_names f) = own_name c f (ap (λ (g : Edge). g.child) (same_Some f d first) ∙ one) in
    let later : 1 ≤ counted_in c (flat_map edge_names es) = listed_one es j c e there is in
    omega (arith, counted_both c (edge_names f) (flat_map edge_names es))
listed_two (f ∷ es) (suc i) (suc j) c d e less first there one is =
    let both : 2 ≤ counted_in c (flat_map edge_names es) = listed_two es i j c d e (omega arith) first there one is in
    omega (arith, counted_both c (edge_names f) (flat_map edge_names es))

named_twice : (n : Node) (i j c : ℕ) (d e : Edge) → i < j → IsEdgeTo n i c d → IsEdgeTo n j c e → 2 ≤ times n c
named_twice (Leaf entries) i j c d e less one other = absurd (none-some d one.here)
named_twice (Inner level es buffer) i j c d e less one other =
    let both : 2 ≤ counted_in c (flat_map edge_names es) = listed_two es i j c d e less one.here other.here one.child_is other.child_is in
    omega (arith, counted_both c (flat_map edge_names es) (flat_map message_names buffer))

same_edge : (n : Node) (i j c : ℕ) (d e : Edge) → times n c ≤ 1 → IsEdgeTo n i c d → IsEdgeTo n j c e → d ≡ e
same_edge n i j c d e once one other =
    elim (cases_lt i j) [
      | inl less ↦ absurd (let two : 2 ≤ times n c = named_twice n i j c d e less one other in omega arith)
      | inr up ↦ elim (cases_lt j i) [
        | inl less ↦ absurd (let two : 2 ≤ times n c = named_twice n j i c e d less other one in omega arith)
        | inr down ↦
            let same : i ≡ j = omega arith in
            same_Some d e (sym one.here ∙ (ap (λ (k : ℕ). slice_get (edges_of n) k) same ∙ other.here))
      ]
    ]

-- ---- no node of the way is asked with something in front of a key

record IsPlainLink (p node : Fetched) (rest : List Fetched) : Type 0 where
  place : ℕ
  edge : Edge
  way : IsWayTo p.node.value place node.id edge
  up : IsPlainUp p.id rest

plain_link : (p node : Fetched) (rest : List Fetched) (c : ℕ) → c ≡ node.id → IsPlainUp c (p ∷ rest) → IsPlainLink p node rest
plain_link p node rest _ same (one_up c place _ e _ way up) = record {
  place = place;
  edge = e;
  way = subst (λ (i : ℕ). IsWayTo p.node.value place i e) same way;
  up = up;
}

asked_plainly : (nodes : Nodes) (t : Table) (p node : Fetched) (place at : ℕ) (e d : Edge) → IsSound nodes t → IsOwn nodes t p → t.count node.id ≡ 1 → IsEdgeTo p.node.value place node.id e → IsWayTo p.node.value at node.id d → e.source ≡ []
asked_plainly nodes t p node place at e d sound own once edge way =
    let named : times p.node.value node.id + _ ≤ t.count node.id = counted nodes t sound p.id p.node.value own.there node.id in
    let same : e ≡ d = same_edge p.node.value place at node.id e d (omega arith) edge (record { here = way.here; child_is = way.child_is }) in
    ap (λ (x : Edge). x.source) same ∙ way.plain

pub wide_copy : (nodes : Nodes) (t : Table) (above : List Fetched) (node : Fetched) (step : FlushStep) → IsSound nodes t → IsWayUp t node.id above → IsPlainUp node.id above → AreOwn nodes t above → IsSplitFirst above node step → IsAbundantCopy step
wide_copy nodes t _ _ _ sound up plain own (at_root root) = tt
wide_copy nodes t _ _ _ sound up plain own (asked_through above parent node place e edge through) =
    let link : IsUpLink t parent node above = link_of t parent node above node.id refl up in
    let asked : IsPlainLink parent node above = plain_link parent node above node.id refl plain in
    absurd (through (asked_plainly nodes t parent node place asked.place e asked.edge sound own.0 link.once edge asked.way))
wide_copy nodes t _ _ _ sound up plain own (below above parent node place e way room) = tt
wide_copy nodes t _ _ _ sound up plain own (further above parent node place e step way wide first) =
    let link : IsUpLink t parent node above = link_of t parent node above node.id refl up in
    let asked : IsPlainLink parent node above = plain_link parent node above node.id refl plain in
    wide_copy nodes t above parent step sound link.up asked.up own.1 first

-- ---- at the edge, and further down

full_much : (n : Node) → IsShape n → soft_limit < buffer_size n → (place : ℕ) → IsFullestAt n place → IsMuchAt n place
full_much n shape more place full =
    let most : IsAbundantAt n place = abundant_in n shape more place full in
    let low : place < length (edges_of n) = within_edges (buffer_of n) (edges_of n) most.fullest.sizes place most.bytes most.fullest.each most.fullest.greatest in
    let there : (e : Edge) × IsEdgeAt n place e = some_edge n place low in
    let own : IsPendingSize there.0 (end_before (drop (suc place) (edges_of n))) 0 (buffer_of n) most.bytes = size_at (buffer_of n) (edges_of n) most.fullest.sizes place there.0 most.bytes most.fullest.each there.1 most.fullest.greatest.there in
    record {
      edge = there.0;
      here = there.1;
      bytes = most.bytes;
      pending =
          sized_pending there.0 (end_at n place) 0 (buffer_of n) most.bytes
          (subst (λ (i : ℕ). IsPendingSize there.0 (end_before (drop i (edges_of n))) 0 (buffer_of n) most.bytes) (sym (add-one place)) own);
      much = most.many;
    }

pub narrow_copy : (t : Table) (node : Fetched) (from : ℕ) (step : FlushStep) → IsMuchAt node.node.value from → IsDue t step → IsStepFrom node from step → IsAbundantCopy step
narrow_copy t node from (SplitRoot root) much due at = tt
narrow_copy t node from (At site (Split child)) much due at = tt
narrow_copy t node from (At site (Push child)) much due at = tt
narrow_copy t node from (At site Privatise) much due at =
    elim at [
      | inl own ↦ subst (λ (i : ℕ). IsMuchAt site.parent.node.value i) (sym own.1) (subst (λ (f : Fetched). IsMuchAt f.node.value from) (sym own.0) much)
      | inr more ↦ full_much site.parent.node.value due.0.parent_is.own.shape more.full site.place more.fullest
    ]
narrow_copy t node from (At site (Carve index)) much due at = tt

pub begun_copy : (nodes : Nodes) (t : Table) (s : List ℕ) (site : Site) (step : FlushStep) → IsSound nodes t → IsUnsettled t site → IsUnsettledIn nodes t s site → IsDue t step → BeginsAt site.above site.parent site.place step → IsAbundantCopy step
begun_copy nodes t s site step sound due at step_due begins =
    elim (cases_lt (length (edges_of site.parent.node.value)) 15) [
      | inl few ↦ narrow_copy t site.parent site.place step (due_much site.parent.node.value due.left site.place due.due) step_due (begins.narrow (omega arith))
      | inr many ↦ wide_copy nodes t (reverse site.above) site.parent step sound due.way due.plain at.all_own (begins.wide (omega arith))
    ]

-- ---- the step

pub is_settle_step : (nodes mid : Nodes) (t m : Table) (s : List ℕ) (site : Site) (new : Nodes) (u : Table) → mid ≡ nodes → m ≡ t → IsSound nodes t → IsUnsettled t site → IsUnsettledIn nodes t s site → (IsSound mid m → IsMadeFrom mid m site.above site.parent site.place new u) → IsSettleStep nodes t s new u
is_settle_step nodes mid t m s site new u same table sound due at makes =
    let made : IsMadeFrom nodes t site.above site.parent site.place new u =
    subst (λ (v : Table). IsMadeFrom nodes v site.above site.parent site.place new u) table
    (subst (λ (f : Nodes). IsMadeFrom f m site.above site.parent site.place new u) same (makes (sound_again nodes mid t m same table sound))) in
    record {
      site = site;
      due = due;
      here = at;
      made = made;
      abundant = begun_copy nodes t s site made.step sound due at made.due made.begins;
    }

pub is_settle_found : (t m u : Table) (site : Site) → m ≡ t → IsUnsettled t site → IsFoundFrom m site.above site.parent site.place u → IsSettleFound t u
is_settle_found t m u site table due found = record {
  site = site;
  due = due;
  found = subst (λ (v : Table). IsFoundFrom v site.above site.parent site.place u) table found;
}

-- ---- worn counters

step_worn : (known again : Type 0) (nodes mids : Nodes) (t : Table) (step : FlushStep) (which : Counter) → (known → again × (mids ≡ nodes)) → IsWornStep again mids t step which → IsWornStep known nodes t step which
step_worn known again nodes mids t step which knows worn =
    elim worn [
      | inl out ↦ inl (record { step = out.step; is = step_known known again nodes mids t step out.step knows out.is; worn = out.worn })
      | inr high ↦ inr high
    ]

from_worn : (known again : Type 0) (nodes mids : Nodes) (t : Table) (above : List Fetched) (node : Fetched) (place : ℕ) (counter : Counter) → (known → again × (mids ≡ nodes)) → IsWornFrom again mids t above node place counter → IsWornFrom known nodes t above node place counter
from_worn known again nodes mids t above node place counter knows h = record {
  step = h.step;
  begins = h.begins;
  due = h.due;
  way = h.way;
  stands = λ k. let both : again × (mids ≡ nodes) = knows k in subst (λ (f : Nodes). IsStanding f t h.step) both.1 (h.stands both.0);
  reached = λ k few. let both : again × (mids ≡ nodes) = knows k in subst (λ (f : Nodes). IsReached f t node.id place h.step) both.1 (h.reached both.0 few);
  worn = step_worn known again nodes mids t h.step counter knows h.worn;
}

-- a fault of the step that is made, after its place was found
pub settle_cause : {T U : Type 0} (before mid now : ℕ) (last : Bool) (bad : ℕ → Type 0) (known again : Type 0) (nodes mids : Nodes) (t m : Table) (s : List ℕ) (site : Site) (e : MapFault) → mid ≡ before → m ≡ t → (known → again × (mids ≡ nodes)) → IsUnsettled t site → (known → IsUnsettledIn nodes t s site)
    → HasMapCause {T = T} mid now last bad (IsWornFrom again mids m site.above site.parent site.place) (Err e) → HasMapCause {T = U} before now last bad (IsWornToSettle known nodes t s) (Err e)
settle_cause {T} {U} before mid now last bad known again nodes mids t m s site e same table knows due at cause =
    cause_weaker {T = U} before now last bad (IsWornFrom again mids t site.above site.parent site.place) (IsWornToSettle known nodes t s)
    (λ counter worn. record { site = site; due = due; here = at; worn = from_worn known again nodes mids t site.above site.parent site.place counter knows worn }) (Err e)
    (cause_passed before now last bad (IsWornFrom again mids t site.above site.parent site.place) e
    (cause_after {T = T} before mid now last bad (IsWornFrom again mids t site.above site.parent site.place) (Err e) same
    (subst (λ (v : Table). HasMapCause {T = T} mid now last bad (IsWornFrom again mids v site.above site.parent site.place) (Err e)) table cause)))

-- ---- the place that was found

pub some_site : (P : Site → Type 0) (o : Option Site) (site : Site) → o ≡ Some site → IfSome o P → P site
some_site P o site is h = subst (λ (x : Option Site). IfSome x P) is h

pub match_site : (none : Type 0) (P : Site → Type 0) (o : Option Site) (site : Site) → o ≡ Some site → MatchOption o none P → P site
match_site none P o site is h = subst (λ (x : Option Site). MatchOption x none P) is h

pub site_pending : (t : Table) (site : Site) → IsUnsettled t site → HasPendingAt site.parent.node.value site.place
site_pending t site due = much_pending site.parent.node.value site.place (due_much site.parent.node.value due.left site.place due.due)
