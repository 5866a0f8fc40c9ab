-- Superblocks that were taken back.
use Rattle.std.proofs.Common.{rules, ◌≡◌, ◌≢◌, ℕ, List, Option, None, Some, IfSome, sym, ap, subst, ◌∙◌, arith}
use Rattle.std.proofs.lemmas.Bool.{true≢false}
use Rattle.std.specs.Prelude.{IsSome, slice_index}
use Rattle.bd_device.specs.Blocks.{Image, with_block}
use Rattle.bd_device.specs.Commits.{IsCommitted}
use Rattle.bd_super.specs.Live.{NoneIsCommitted}
use Rattle.bd_super.proofs.LiveLemmas.{block_other}

-- the first one stays so while the second one is
pub none_committed : (mid now : Option Image) (bytes : List ℕ) → IfSome mid (λ image. ¬ IsCommitted image 0) → now ≡ with_block 2 bytes mid → IfSome now (λ image. ¬ IsCommitted image 2)
    → IfSome now NoneIsCommitted
none_committed None now bytes first e second = subst (λ (o : Option Image). IfSome o NoneIsCommitted) (sym e) tt
none_committed (Some image) now bytes first e second =
    let other : 0 ≢ 2 = λ same. omega (arith, same) in
    let last = subst (λ (o : Option Image). IfSome o (λ i. ¬ IsCommitted i 2)) e second in
    subst (λ (o : Option Image). IfSome o NoneIsCommitted) (sym e)
    (λ on. first (ap (λ (l : List ℕ). slice_index l 0) (sym (block_other image 2 0 bytes other)) ∙ on), last)

-- contents that were told are told
pub still_told : (known now : Option Image) (b : ℕ) (bytes : List ℕ) → now ≡ with_block b bytes known → IsSome known → IsSome now
still_told None now b bytes e some = absurd (true≢false (sym some))
still_told (Some image) now b bytes e some = subst (λ (o : Option Image). IsSome o) (sym e) (search rules)
