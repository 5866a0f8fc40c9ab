use Rattle.std.proofs.Common.{◌≡◌, ℕ, ◌+◌, ◌<◌, ◌^◌, List, length, get_or, set, ap, sym, ◌∙◌, Some, arith}
use Rattle.std.specs.Prelude.{slice_get}
use Rattle.std.proofs.lemmas.Option.{same_Some}
use Rattle.bd_node.specs.declared.node.Edge.{Edge}
use Rattle.bd_node.proofs.Parts.{at_of}
use Rattle.bd_node.specs.Pushes.{seen_by}
use Rattle.bd_node.proofs.Going.{edge_read, set_is}
use Rattle.bd_node.proofs.Relieving.{put_is}
use Rattle.bd_node.proofs.relief.advanced.Goals as goal

pub overflow_cast-count : goal.overflow_cast-count
overflow_cast-count c =
    let found = at_of c.args.edges.now c.args.place c.requires.within in
    let fits : found.0.seen + c.args.count < 2 ^ 32 = c.requires.fits found.0 found.1 in
    omega arith

pub index_mut-requires : goal.index_mut-requires
index_mut-requires c =
    let same : length c.into_vec-made.result.items ≡ length c.args.edges.now = ap (λ (l : List Edge). length l) (c.into_vec-made.ensures ∙ c.in_ok-copied.ensures) in
    omega (arith, c.into_vec-made.result.ok)

read_there : (es items : List Edge) (place : ℕ) (e : Edge) → place < length es → items ≡ es → e ≡ get_or items place e → slice_get es place ≡ Some e
read_there es items place e low same read = edge_read es place e low (read ∙ ap (λ (l : List Edge). get_or l place e) same)

pub overflow_add-index_mut : goal.overflow_add-index_mut
overflow_add-index_mut c =
    let e : Edge = c.index_mut.result.now in
    let fits : e.seen + c.args.count < 2 ^ 32 = c.requires.fits e (read_there c.args.edges.now c.into_vec-made.result.items c.args.place e c.requires.within (c.into_vec-made.ensures ∙ c.in_ok-copied.ensures) c.index_mut.ensures.value) in
    omega arith

pub returns : goal.returns
returns c = λ e here.
    let es : List Edge = c.args.edges.now in
    let x : Edge = c.index_mut.result.now in
    let same : c.into_vec-made.result.items ≡ es = c.into_vec-made.ensures ∙ c.in_ok-copied.ensures in
    let one : x ≡ e = same_Some x e (sym (read_there es c.into_vec-made.result.items c.args.place x c.requires.within same c.index_mut.ensures.value) ∙ here) in
    c.from_vec.ensures
    ∙ ap (λ (l : List Edge). set l c.args.place (seen_by x c.args.count)) same
    ∙ ap (λ (d : Edge). set es c.args.place (seen_by d c.args.count)) one
    ∙ set_is es c.args.place e (seen_by e c.args.count) here
    ∙ put_is es c.args.place (seen_by e c.args.count)
