use Rattle.std.proofs.Common.{◌≡◌, ◌≢◌, ◌++◌, ◌-◌, List, ℕ, [], take, length, Result, Ok, Err, Vec, Global, true, false, cond, sym, ap, ◌∙◌, arith, append_assoc, append-nil}
use Rattle.std.specs.Result.{OnOk, is_ok}
use Rattle.std.specs.declared.alloc.AllocError.{AllocError}
use Rattle.bd_stream.specs.Exporting.{magic_before}
use Rattle.bd_stream.specs.Heads.{head_bytes}
use Rattle.bd_stream.proofs.PlaceLemmas.{magic_first, magic_later}
use Rattle.bd_stream.proofs.exporting.put_head.Goals as goal
use Rattle.bd_stream.proofs.exporting.put_head.Goals.{then-is_root+in_ok-extend_from_slice, else-is_root}

where_put : (r : Result (Unit {0}) AllocError) (new whole mid want : List ℕ) → new ≡ cond (is_ok r) whole mid → whole ≡ want → OnOk r (new ≡ want)
where_put (Ok u) new whole mid want e w = e ∙ w
where_put (Err x) new whole mid want e w = tt

pub returns : goal.returns
returns c =
    let h = c.args.head.now in
    let bytes = head_bytes h in
    let had = c.args.written.now.items in
    let items = λ (v : Vec ℕ Global). v.items in
    let before : c.if-is_root.written.items ≡ had ++ magic_before h.path = elim c.if-is_root.branch [
      | then-is_root+in_ok-extend_from_slice w ↦
          ap items w.written-is ∙ w.in_ok-extend_from_slice.ensures.items ∙ ap (λ (l : List ℕ). had ++ l) (sym (magic_first h.path (c.is_root.ensures.0 w.if-is_root.true)))
      | else-is_root w ↦
          let other : h.path ≢ [] = λ e. (let yes : c.is_root.result ≡ true = c.is_root.ensures.1 e in let no : c.is_root.result ≡ false = w.if-is_root.false in cc) in
          ap items w.written-is ∙ sym (append-nil had) ∙ ap (λ (l : List ℕ). had ++ l) (sym (magic_later h.path other))
    ] in
    let array = c.left_by-left.new.array in
    let size : 520 - c.left_by-left.result ≡ length bytes = omega (arith, c.left_by-left.ensures.left) in
    let head : take (520 - c.left_by-left.result) array ≡ bytes = ap (λ (n : ℕ). take n array) size ∙ c.left_by-left.ensures.head in
    where_put c.extend_from_slice-2.result c.extend_from_slice-2.new.self.items (c.if-is_root.written.items ++ take (520 - c.left_by-left.result) array) c.if-is_root.written.items (had ++ (magic_before h.path ++ bytes)) c.extend_from_slice-2.ensures.items
    (ap (λ (l : List ℕ). l ++ take (520 - c.left_by-left.result) array) before ∙ ap (λ (l : List ℕ). (had ++ magic_before h.path) ++ l) head ∙ append_assoc had (magic_before h.path) bytes)
