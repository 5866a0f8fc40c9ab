-- What an edit of entries in order does.
use Rattle.std.proofs.Common.{◌≡◌, ℕ, ◌+◌, ◌<◌, List, ◌∷◌, ◌++◌, length, get_or, set, take, drop, Equal, sym, ap, ◌∙◌, add-one}
use Rattle.std.proofs.lemmas.List.{drop_more, set_split}
use Rattle.std.specs.FinMap.{put}
use Rattle.std.specs.FinMap.Entries.{by_order}
use Rattle.bd_model.specs.Tree.{Entry, path_cmp}
use Rattle.bd_model.proofs.PathOrder.{paths_exact}

-- at a path that ties, the entry is replaced
put_tied : (path : List (List ℕ)) (e : Entry) (x : List (List ℕ) × Entry) (es : List (List (List ℕ) × Entry)) → path_cmp path x.0 ≡ Equal → put path_cmp path e (x ∷ es) ≡ (path, e) ∷ es
put_tied path e x es tie =
    ap (λ o. by_order o ((path, e) ∷ x ∷ es) ((x.0, e) ∷ es) (x ∷ put path_cmp path e es)) tie
    ∙ ap (λ (p : List (List ℕ)). (p, e) ∷ es) (sym (paths_exact path x.0 tie))

pub put_over : (path : List (List ℕ)) (e : Entry) (x : List (List ℕ) × Entry) (es : List (List (List ℕ) × Entry)) (at : ℕ) → at < length es → x ≡ get_or es at x → path_cmp path x.0 ≡ Equal
    → put path_cmp path e es ≡ take at es ++ put path_cmp path e (drop at es) → put path_cmp path e es ≡ set es at (path, e)
put_over path e x es at within is tie before =
    before
    ∙ ap (λ (rest : List (List (List ℕ) × Entry)). take at es ++ put path_cmp path e rest) (drop_more es at x within ∙ ap (λ (y : List (List ℕ) × Entry). y ∷ drop (at + 1) es) (sym is))
    ∙ ap (λ (rest : List (List (List ℕ) × Entry)). take at es ++ rest) (put_tied path e x (drop (at + 1) es) tie)
    ∙ sym (set_split es at (path, e) within ∙ ap (λ (i : ℕ). take at es ++ (path, e) ∷ drop i es) (sym (add-one at)))
