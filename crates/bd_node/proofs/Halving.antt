-- How few comparisons a search by halving needs.
use Rattle.std.proofs.Common.{pow-add, ◌≡◌, ℕ, ◌+◌, ◌-◌, ◌*◌, ◌^◌, ◌≤◌, ap, subst, ◌∙◌, arith}
use Rattle.std.proofs.Math.Nat.{mul-le-mul_left, mul_assoc}

-- half as much is left after a step more
pub halved : (c size left n : ℕ) → 2 ^ c * size ≤ n → 2 * left ≤ size → 2 ^ (c + 1) * left ≤ n
halved c size left n h half =
    let more : 2 ^ c * (2 * left) ≤ 2 ^ c * size = mul-le-mul_left (2 ^ c) half in
    let two : 2 ^ (c + 1) ≡ 2 ^ c * 2 = pow-add 2 c 1 in
    let e : 2 ^ (c + 1) * left ≡ 2 ^ c * (2 * left) = ap (λ p. p * left) two ∙ mul_assoc (2 ^ c) 2 left in
    omega arith

-- one comparison more is few enough as long as something is left
still_few : (c size n : ℕ) → 2 ^ c * size ≤ n → 1 ≤ size → 2 ^ (c + 1) ≤ 2 * n + 1
still_few c size n h some =
    let more : 2 ^ c * 1 ≤ 2 ^ c * size = mul-le-mul_left (2 ^ c) some in
    let two : 2 ^ (c + 1) ≡ 2 ^ c * 2 = pow-add 2 c 1 in
    omega arith

pub step_few : (n before now size : ℕ) → before ≤ now → 2 ^ (now - before) * size ≤ n → 1 ≤ size → 2 ^ (now + 1 - before) ≤ 2 * n + 1
step_few n before now size later h some =
    let e : now - before + 1 ≡ now + 1 - before = omega arith in
    subst (λ c. 2 ^ c ≤ 2 * n + 1) e (still_few (now - before) size n h some)

pub step_left : (n before now size left : ℕ) → before ≤ now → 2 ^ (now - before) * size ≤ n → 2 * left ≤ size → 2 ^ (now + 1 - before) * left ≤ n
step_left n before now size left later h half =
    let e : now - before + 1 ≡ now + 1 - before = omega arith in
    subst (λ c. 2 ^ c * left ≤ n) e (halved (now - before) size left n h half)
