use Rattle.std.proofs.Common.{◌≡◌, ◌+◌, ◌<◌, ◌≤◌, Bool, List, length, map, sym, ap, subst, ◌∙◌, Some, arith, Vec, Global}
use Rattle.std.specs.Prelude.{slice_get}
use Rattle.std.proofs.lemmas.Option.{MatchOption-at_some, MatchOption-at_none, same_Some, slice_get_within}
use Rattle.bd_node.specs.declared.node.Edge.{Edge}
use Rattle.bd_node.specs.declared.node.Node.TheVariants.{Inner}
use Rattle.bd_node.specs.Compaction.{IsMask}
use Rattle.bd_node.specs.Keeping.{stay_count}
use Rattle.bd_node.specs.Reliefs.{ArePlain}
use Rattle.bd_node.specs.Shape.{AreRising, IsShape}
use Rattle.bd_node.proofs.ReliefOf.{IsUnder, new_edges, seen_within, seen_small, new_rising, under_of, new_is, new_low, waits_in, cannot_in, relief_in, seen_in}
use Rattle.bd_node.proofs.node.Node.relief.Goals as goal
use Rattle.bd_node.proofs.node.Node.relief.Goals.{In-Some, After-as_slice-2, In_ok-stays, In-Some-2}

pub seen_at-requires : goal.seen_at-requires
seen_at-requires c = λ e here.
    let h : IsShape (Inner c.in-Inner.level c.in-Inner.edges c.in-Inner.buffer) = subst IsShape c.in-Inner.is c.requires in
    let low : e.seen ≤ length c.in-Inner.buffer = seen_within c.in-Inner.level c.in-Inner.edges c.in-Inner.buffer c.args.place e h (subst (λ (l : List Edge). slice_get l c.args.place ≡ Some e) c.as_slice.ensures here) in
    omega arith

under : (c : In-Some) → IsUnder c.in-Inner.level c.in-Inner.edges c.in-Inner.buffer c.args.place c.args.count c.in-Some.ensures.0
under c = under_of c.args.self.now c.in-Inner.level c.in-Inner.edges c.as_slice.result.now c.in-Inner.buffer c.args.place c.args.count c.len.result c.in-Some.ensures.0 c.in-Inner.is c.requires c.as_slice.ensures c.len.ensures c.in-Some.ensures.1

pub advanced-requires-clause-within : goal.advanced-requires-clause-within
advanced-requires-clause-within c = slice_get_within c.in-Inner.edges c.args.place c.in-Some.ensures.0 (under c).here

pub advanced-requires-clause-fits : goal.advanced-requires-clause-fits
advanced-requires-clause-fits c = λ e here.
    let same : c.in-Some.ensures.0 ≡ e = same_Some c.in-Some.ensures.0 e (sym (under c).here ∙ here) in
    subst (λ (d : Edge). d.seen + c.args.count < 4294967296) same
    (seen_small c.in-Inner.level c.in-Inner.edges c.in-Inner.buffer c.args.place c.args.count c.in-Some.ensures.0 (under c))

-- the edges after the one at the place has seen the messages
made : (c : After-as_slice-2) → c.as_slice-2.result.now ≡ new_edges c.in-Inner.edges c.args.place c.args.count c.in-Some.ensures.0
made c = new_is c.in-Inner.level c.in-Inner.edges c.in_ok-edges.edges c.as_slice-2.result.now c.in-Inner.buffer c.args.place c.args.count c.in-Some.ensures.0 (under (goal.at.left-requires-clause-rising c).In-Some) c.in_ok-edges.ensures c.as_slice-2.ensures

pub left-requires-clause-rising : goal.left-requires-clause-rising
left-requires-clause-rising c =
    subst AreRising (sym (made c)) (new_rising c.in-Inner.level c.in-Inner.edges c.in-Inner.buffer c.args.place c.args.count c.in-Some.ensures.0 (under (goal.at.left-requires-clause-rising c).In-Some))

pub left-requires-clause-within : goal.left-requires-clause-within
left-requires-clause-within c =
    new_low c.in-Inner.level c.in-Inner.edges c.as_slice-2.result.now c.in-Inner.buffer c.args.place c.args.count c.in-Some.ensures.0 (under (goal.at.left-requires-clause-within c).In-Some) (made c)

pub left-requires-clause-pending : goal.left-requires-clause-pending
left-requires-clause-pending c =
    waits_in c.in-Inner.level c.in-Inner.edges c.as_slice-2.result.now c.in-Inner.buffer c.args.place c.args.count c.in-Some.from c.in-Some.ensures.0 (under (goal.at.left-requires-clause-pending c).In-Some) (made c) c.in-Some.ensures.2

pub returns-in_default-2 : goal.returns-in_default-2
returns-in_default-2 c =
    let list : List Edge = c.as_slice-2.result.now in
    cannot_in c.args.self.now c.in-Inner.level c.in-Inner.edges list c.in-Inner.buffer c.args.place c.args.count c.in-Some.from c.in-Some.ensures.0 c.in-Inner.is
    (under (goal.at.returns-in_default-2 c).In-Some) (made (goal.at.returns-in_default-2 c).After-as_slice-2) c.in-Some.ensures.2
    (MatchOption-at_none (¬ ArePlain list c.args.place c.in-Some.from c.in-Inner.buffer) (λ (mask : Vec Bool Global). ArePlain list c.args.place c.in-Some.from c.in-Inner.buffer × IsMask mask.items list c.in-Inner.buffer)
    c.in_default-2.is c.in_ok-stays.ensures)

-- the messages that stay
left : (c : In-Some-2) → ArePlain c.as_slice-2.result.now c.args.place c.in-Some.from c.in-Inner.buffer × IsMask c.in-Some-2.stays.items c.as_slice-2.result.now c.in-Inner.buffer
left c =
    let list : List Edge = c.as_slice-2.result.now in
    MatchOption-at_some (¬ ArePlain list c.args.place c.in-Some.from c.in-Inner.buffer) (λ (mask : Vec Bool Global). ArePlain list c.args.place c.in-Some.from c.in-Inner.buffer × IsMask mask.items list c.in-Inner.buffer)
    c.in-Some-2.stays c.in-Some-2.is c.in_ok-stays.ensures

pub seens-requires : goal.seens-requires
seens-requires c =
    seen_in c.in-Inner.level c.in-Inner.edges c.as_slice-3.result.now c.in-Inner.buffer c.args.place c.args.count c.in-Some.ensures.0 c.as_slice-4.result.now (under (goal.at.seens-requires c).In-Some)
    (c.as_slice-3.ensures ∙ sym c.as_slice-2.ensures ∙ made (goal.at.seens-requires c).After-as_slice-2)
    (ap (λ (l : List Bool). length l) c.as_slice-4.ensures.value ∙ (left (goal.at.seens-requires c).In-Some-2).1.long)

pub returns : goal.returns
returns c =
    let there = left (goal.at.returns c).In-Some-2 in
    let same : c.as_slice-3.result.now ≡ c.as_slice-2.result.now = c.as_slice-3.ensures ∙ sym c.as_slice-2.ensures in
    relief_in c.args.self.now c.in-Inner.level c.in-Inner.edges c.as_slice-2.result.now c.in-Inner.buffer c.args.place c.args.count c.in-Some.from c.in-Some.ensures.0
    record { stays = c.in-Some-2.stays; seens = c.in_ok-seens.seens; index = c.in_ok-index.index }
    c.as_slice-5.result.now c.in-Inner.is (under (goal.at.returns c).In-Some) (made (goal.at.returns c).After-as_slice-2) c.in-Some.ensures.2 c.as_slice-5.ensures.value there.0 there.1
    (c.in_ok-seens.ensures
    ∙ ap (λ (l : List Bool). map (λ (d : Edge). stay_count l d.seen) c.as_slice-3.result.now) (c.as_slice-4.ensures.value ∙ sym c.as_slice-5.ensures.value)
    ∙ ap (λ (l : List Edge). map (λ (d : Edge). stay_count c.as_slice-5.result.now d.seen) l) same)
    c.in_ok-index.ensures
