-- How the draws of a generated load go on.
use Rattle.std.proofs.Common.{◌≡◌, ℕ, zero, suc, ◌+◌, ◌-◌, ◌*◌, ◌≤◌, sym, ap, ◌∙◌, arith}
use Rattle.bd_script.specs.Generated.{next_state, state_after}

-- draws after draws
pub state_after-state_after : (x a b : ℕ) → state_after (state_after x a) b ≡ state_after x (a + b)
state_after-state_after x a zero = ap (state_after x) (omega arith)
state_after-state_after x a (suc b) =
    ap next_state (state_after-state_after x a b) ∙ ap (state_after x) (sym (plus_suc a b))
  where
    plus_suc : (a b : ℕ) → a + suc b ≡ suc (a + b)
    plus_suc a b = omega arith

-- from the draws of m lines on to those of n
pub draws_on : (seed m n x : ℕ) → m ≤ n → x ≡ state_after seed (5 * m)
    → state_after x (5 * (n - m)) ≡ state_after seed (5 * n)
draws_on seed m n x h is =
    ap (λ y. state_after y (5 * (n - m))) is
    ∙ state_after-state_after seed (5 * m) (5 * (n - m))
    ∙ ap (state_after seed) (omega arith)

-- the draws of a line more
pub line_more : (seed n x : ℕ) → x ≡ state_after seed (5 * n) → state_after x 5 ≡ state_after seed (5 * (n + 1))
line_more seed n x is =
    ap (λ y. state_after y 5) is
    ∙ state_after-state_after seed (5 * n) 5
    ∙ ap (state_after seed) (omega arith)
