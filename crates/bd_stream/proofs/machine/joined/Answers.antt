use Rattle.std.proofs.Common.{◌≡◌, ◌≢◌, List, ℕ, [], ◌++◌, sym, ◌∙◌, ap, subst, append-nil, Option, Some}
use Rattle.std.specs.Prelude.{IfOk}
use Rattle.bd_names.specs.Names.{path_text, path_of}
use Rattle.bd_names.proofs.NamesLaws.{AreNames-append}
use Rattle.bd_stream.specs.Importing.{short_path}
use Rattle.bd_stream.proofs.PathLemmas.{is_short, joined_below}
use Rattle.bd_stream.proofs.machine.joined.Goals as goal

pub returns-then-is_root : goal.returns-then-is_root
returns-then-is_root c =
    let above = c.args.target.now in
    let none : c.args.path.now ≡ [] = c.is_root.ensures.0 c.if-is_root.true in
    let whole : short_path (above ++ c.args.path.now) ≡ Some above = ap short_path (ap (λ (q : List (List ℕ)). above ++ q) none ∙ append-nil above) ∙ is_short above c.as_bytes-above.ensures.length in
    ap Some c.in_ok-clone.ensures.cases ∙ sym whole

pub returns-then-is_root-2 : goal.returns-then-is_root-2
returns-then-is_root-2 c =
    let below = c.args.path.now in
    let none : c.args.target.now ≡ [] = c.is_root-2.ensures.0 c.if-is_root-2.true in
    let whole : short_path (c.args.target.now ++ below) ≡ Some below = ap short_path (ap (λ (p : List (List ℕ)). p ++ below) none) ∙ is_short below c.as_bytes-below.ensures.length in
    ap Some c.in_ok-clone-2.ensures.cases ∙ sym whole

pub returns : goal.returns
returns c =
    let p = c.args.target.now in
    let q = c.args.path.now in
    let text : c.deref.result.now ≡ path_text p ++ path_text q = c.deref.ensures.value ∙ c.in_ok-text.ensures ∙ ap (λ (l : List ℕ). l ++ c.as_bytes-below.result.now) c.as_bytes-above.ensures.text ∙ ap (λ (l : List ℕ). path_text p ++ l) c.as_bytes-below.ensures.text in
    let some_p : p ≢ [] = λ e. let yes = c.is_root-2.ensures.1 e in let no = c.if-is_root-2.false in cc in
    let some_q : q ≢ [] = λ e. let yes = c.is_root.ensures.1 e in let no = c.if-is_root.false in cc in
    let same : path_of c.deref.result.now ≡ short_path (p ++ q) = joined_below p q c.deref.result.now (AreNames-append p q c.as_bytes-above.ensures.names c.as_bytes-below.ensures.names) some_p some_q text in
    subst (λ (o : Option (List (List ℕ))). IfOk c.read_path.result (λ found. found ≡ o)) same c.read_path.ensures
