-- What a take from a list of bytes leaves.
use Rattle.std.proofs.Common.{◌≡◌, ℕ, ◌+◌, ◌-◌, List, ◌++◌, length, take, drop, sym, ap, ◌∙◌, take-append-drop, arith, ◌==◌, if◌then◌else◌}
use Rattle.std.proofs.lemmas.List.{drop-drop, drop-take}
use Rattle.std.proofs.Math.Seq.{take-append_seam}
use Rattle.bd_io.specs.Cause.{next_count}
use Rattle.bd_io.specs.Takes.{Takes, takes_after}

-- the n bytes from `at` on were copied to the front of a place, and the rest is left
pub taken_and_left : (bytes place piece : List ℕ) (at n : ℕ) → piece ≡ take n (drop at bytes) → length piece ≡ n
    → drop at bytes ≡ take n (piece ++ drop n place) ++ drop (at + n) bytes
taken_and_left bytes place piece at n e len =
    let front : take n (piece ++ drop n place) ≡ piece = ap (λ k. take k (piece ++ drop n place)) (sym len) ∙ take-append_seam piece (drop n place) in
    sym (take-append-drop n (drop at bytes))
    ∙ ap (λ l. l ++ drop n (drop at bytes)) (sym e ∙ sym front)
    ∙ ap (λ l. take n (piece ++ drop n place) ++ l) (drop-drop n at bytes)

-- so the last n of the bytes before what is left are those that the place has at its front
pub last_taken : (bytes place piece : List ℕ) (at n : ℕ) → piece ≡ take n (drop at bytes) → length piece ≡ n
    → drop ((at + n) - n) (take (at + n) bytes) ≡ take n (piece ++ drop n place)
last_taken bytes place piece at n e len =
    let start : (at + n) - n ≡ at = omega arith in
    let front : take n (piece ++ drop n place) ≡ piece = ap (λ k. take k (piece ++ drop n place)) (sym len) ∙ take-append_seam piece (drop n place) in
    ap (λ k. drop k (take (at + n) bytes)) start ∙ drop-take at n bytes ∙ sym e ∙ sym front

-- what a take tells that gave n bytes
pub takes_after-given : (calls calls' idle idle' n : ℕ) (given last : List ℕ) → calls' ≡ next_count calls → length given ≡ n
    → idle' ≡ (if n == 0 then next_count idle else idle) → last ≡ given
    → (let now : Takes = record { count = calls'; idle = idle'; last = last } in now) ≡ takes_after given (record { count = calls; idle = idle; last = given })
takes_after-given calls calls' idle idle' n given last counted len told e = simp (counted, told, len, e)
