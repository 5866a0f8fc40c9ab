-- Numbers of four bytes, all of which are read.
use Rattle.std.proofs.Common.{◌≡◌, ◌≢◌, ℕ, ◌+◌, ◌*◌, ◌^◌, ◌<◌, ◌≤◌, Bool, List, [], ◌∷◌, ◌++◌, length, Option, None, Some, sym, ap, ◌∙◌, arith, append-nil}
use Rattle.std.specs.Prelude.{◌↔◌, IsTrue}
use Rattle.std.proofs.lemmas.List.{append_cancel_left}
use Rattle.bd_limits.specs.Limits.{block_limit}
use Rattle.bd_records.specs.declared.Record.TheVariants.{File}
use Rattle.bd_records.specs.Records.{IsBlock}
use Rattle.bd_entries.specs.declared.mark.Mark.{Mark}
use Rattle.bd_entries.specs.Marks.{IsNumberIn, IsNumberOf, IsBlockAt}
use Rattle.std.specs.Int.{w32}
use Rattle.bd_wire.specs.Numbers.{be}
use Rattle.bd_wire.proofs.NumberLemmas.{length-be, IsPrefixFree-be}

pub number_is : (bytes rest : List ℕ) (n : ℕ) → bytes ≡ be w32 n ++ rest → rest ≡ [] → bytes ≡ be w32 n
number_is bytes rest n read none = read ∙ ap (λ (r : List ℕ). be w32 n ++ r) none ∙ append-nil (be w32 n)

-- where a number encodes all bytes, none are left
pub none_left : (bytes rest : List ℕ) (n m : ℕ) → bytes ≡ be w32 n ++ rest → n < 2 ^ 32 → m < 2 ^ 32 → bytes ≡ be w32 m → rest ≡ []
none_left bytes rest n m read fits small encoded = (IsPrefixFree-be w32 n m rest [] fits small (sym read ∙ encoded ∙ sym (append-nil (be w32 m)))).1

-- fewer than four bytes encode none
pub too_short : (bytes : List ℕ) (m : ℕ) → length bytes < 4 → bytes ≢ be w32 m
too_short bytes m short encoded = omega (arith, short, ap length encoded, length-be w32 m)

-- the number of a block, by what follows the path's key
pub number_of : (path key rest tag number : List ℕ) (r : Option ℕ) → key ≡ path ++ rest → rest ≡ tag ++ number → tag ≡ 0 ∷ 1 ∷ [] → IsNumberIn number r → IsNumberOf path key r
number_of path key rest tag number (Some n) key_is rest_is tag_is h =
    key_is ∙ ap (λ (l : List ℕ). path ++ l) (rest_is ∙ ap (λ (t : List ℕ). t ++ number) tag_is ∙ ap (λ (b : List ℕ). 0 ∷ 1 ∷ b) h)
number_of path key rest tag number None key_is rest_is tag_is h = λ n small encoded.
    let whole : key ≡ path ++ 0 ∷ 1 ∷ number = key_is ∙ ap (λ (l : List ℕ). path ++ l) (rest_is ∙ ap (λ (t : List ℕ). t ++ number) tag_is) in
    let tails : 0 ∷ 1 ∷ number ≡ 0 ∷ 1 ∷ be w32 n = append_cancel_left path (0 ∷ 1 ∷ number) (0 ∷ 1 ∷ be w32 n) (sym whole ∙ encoded) in
    let same : number ≡ be w32 n = cc in
    h n small same

-- a block at the mark, by its number and the length of the file
pub block_is : (mark : Mark) (path key value : List ℕ) (len mode number : ℕ) (r : Bool) → mark.entry ≡ File len mode → path ≡ mark.path → key ≡ path ++ 0 ∷ 1 ∷ be w32 number → number < 2 ^ 32
    → IsTrue r ↔ (IsBlock value × (block_limit * number + length value ≤ len)) → IsTrue r ↔ IsBlockAt mark key value
block_is mark path key value len mode number r file path_is key_is small inside = (to, back)
  where
    whole : key ≡ mark.path ++ 0 ∷ 1 ∷ be w32 number
    whole = key_is ∙ ap (λ (p : List ℕ). p ++ 0 ∷ 1 ∷ be w32 number) path_is

    to : IsTrue r → IsBlockAt mark key value
    to t = record { len = len; mode = mode; file = file; number = number; small = small; key_is = whole; block = (inside.0 t).0; inside = (inside.0 t).1 }

    back : IsBlockAt mark key value → IsTrue r
    back b =
        let files : File b.len b.mode ≡ File len mode = sym b.file ∙ file in
        let lens : b.len ≡ len = cc in
        let tails : 0 ∷ 1 ∷ be w32 b.number ≡ 0 ∷ 1 ∷ be w32 number = append_cancel_left mark.path (0 ∷ 1 ∷ be w32 b.number) (0 ∷ 1 ∷ be w32 number) (sym b.key_is ∙ whole) in
        let encoded : be w32 b.number ≡ be w32 number = cc in
        let same : b.number ≡ number = (IsPrefixFree-be w32 b.number number [] [] b.small small (ap (λ (l : List ℕ). l ++ []) encoded)).0 in
        inside.1 (b.block, omega (arith, b.inside, same, lens))
