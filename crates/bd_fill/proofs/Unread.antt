-- How what is left of a script goes on.
use Rattle.std.proofs.Common.{◌≡◌, ℕ, zero, suc, ◌+◌, ◌-◌, ◌<◌, ◌≤◌, List, [], ◌∷◌, ◌++◌, length, take, drop, refl, sym, ap, ◌∙◌, append_assoc, length-drop, arith}
use Rattle.std.proofs.lemmas.List.{take-append-drop, take_all, drop_all, drop-drop}
use Rattle.std.specs.List.{range_with_len}
use Rattle.bd_script.specs.Generated.{Load, load, line_count, generated_line}
use Rattle.bd_fill.specs.Scripts.{generated_script, lines_from, unread}

-- from a line on
lines_more : (seed i n : ℕ) → 0 < n → lines_from seed i n ≡ (generated_line seed i ++ 10 ∷ []) ++ lines_from seed (i + 1) (n - 1)
lines_more seed i zero h = absurd (omega arith)
lines_more seed i (suc n) h = ap (λ k. (generated_line seed i ++ 10 ∷ []) ++ lines_from seed (i + 1) k) (omega arith)

-- the next line, where the last one is at its end
pub unread_next : (line more : List ℕ) (at next : ℕ) (script : Load) → length line ≤ at → next < line_count script
    → more ≡ generated_line script.seed next ++ 10 ∷ [] → unread more 0 (next + 1) script ≡ unread line at next script
unfolding unread
unread_next line more at next script end low is =
    ap (λ bs. bs ++ lines_from script.seed (next + 1) (line_count script - (next + 1))) is
    ∙ ap (λ k. (generated_line script.seed next ++ 10 ∷ []) ++ lines_from script.seed (next + 1) k) (omega arith)
    ∙ sym (lines_more script.seed next (line_count script - next) (omega arith))
    ∙ ap (λ bs. bs ++ lines_from script.seed next (line_count script - next)) (sym (drop_all at line end))

-- bytes of a line that are taken
pub unread_taken : (line bs : List ℕ) (at n next : ℕ) (script : Load) → bs ≡ take n (drop at line)
    → unread line at next script ≡ bs ++ unread line (at + n) next script
unfolding unread
unread_taken line bs at n next script is =
    ap (λ cs. cs ++ lines_from script.seed next (line_count script - next))
    (sym (take-append-drop n (drop at line)) ∙ ap (λ cs. cs ++ drop n (drop at line)) (sym is) ∙ ap (λ cs. bs ++ cs) (drop-drop n at line))
    ∙ append_assoc bs (drop (at + n) line) (lines_from script.seed next (line_count script - next))

-- all that follows a place
pub rest_whole : (at : ℕ) (line : List ℕ) → take (length line - at) (drop at line) ≡ drop at line
rest_whole at line = take_all (length line - at) (drop at line) (omega (arith, length-drop at line))

-- the end
pub unread_end : (line : List ℕ) (at next : ℕ) (script : Load) → length line ≤ at → next ≡ line_count script → unread line at next script ≡ []
unfolding unread
unread_end line at next script end all =
    ap (λ bs. bs ++ lines_from script.seed next (line_count script - next)) (drop_all at line end)
    ∙ ap (λ k. lines_from script.seed next k) (none (line_count script) next all)
  where
    none : (n m : ℕ) → m ≡ n → n - m ≡ 0
    none n m is = omega arith

-- the beginning
pub unread_all : (line : List ℕ) (seed count : ℕ) (script : Load) → line ≡ [] → script ≡ load seed count
    → unread line 0 0 script ≡ generated_script seed count
unfolding unread generated_script
unread_all line seed count script none is =
    ap (λ bs. drop 0 bs ++ lines_from script.seed 0 (line_count script - 0)) none
    ∙ ap (λ (s : Load). lines_from s.seed 0 (line_count s - 0)) is
    ∙ ap (λ k. lines_from seed 0 k) (all (line_count (load seed count)))
  where
    all : (n : ℕ) → n - 0 ≡ n
    all n = omega arith
