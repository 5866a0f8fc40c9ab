use Rattle.std.proofs.Common.{sym, ◌∙◌, ap, refl, ◌+◌, ◌∷◌, ℕ, List, take, drop, Some}
use Rattle.std.specs.Prelude.{slice_index}
use Rattle.std.specs.Int.{w16, w32}
use Rattle.bd_names.specs.Names.{path_of}
use Rattle.bd_wire.specs.Numbers.{number_at}
use Rattle.bd_stream.proofs.HeadLemmas.{read_by, mode_over, directory_read, len_over, file_read}
use Rattle.bd_stream.proofs.head.Head.read.Goals as goal

pub returns-then-mode-gt-MAX_MODE : goal.returns-then-mode-gt-MAX_MODE
returns-then-mode-gt-MAX_MODE c =
    let bytes = c.args.bytes.now in
    let n = c.path_count-count.result in
    let len = number_at w32 (drop (5 + n) bytes) in
    sym (read_by bytes n c.read_u16-mode.result len (Some c.in-Some.path) c.path_count-count.ensures.count
    (sym c.in-Some.is ∙ c.in_ok-path.ensures ∙ ap (λ (l : List ℕ). path_of (47 ∷ l)) (c.front.ensures ∙ ap (take n) c.tail.ensures))
    (c.read_u16-mode.ensures ∙ ap (number_at w16) c.tail-2.ensures) refl
    ∙ mode_over (slice_index bytes 0) c.in-Some.path c.read_u16-mode.result len c.if-mode-gt-MAX_MODE.true)

pub returns-then-bytes-eq-DIRECTORY : goal.returns-then-bytes-eq-DIRECTORY
returns-then-bytes-eq-DIRECTORY c =
    let bytes = c.args.bytes.now in
    let n = c.path_count-count.result in
    let len = number_at w32 (drop (5 + n) bytes) in
    sym (read_by bytes n c.read_u16-mode.result len (Some c.in-Some.path) c.path_count-count.ensures.count
    (sym c.in-Some.is ∙ c.in_ok-path.ensures ∙ ap (λ (l : List ℕ). path_of (47 ∷ l)) (c.front.ensures ∙ ap (take n) c.tail.ensures))
    (c.read_u16-mode.ensures ∙ ap (number_at w16) c.tail-2.ensures) refl
    ∙ directory_read (slice_index bytes 0) c.in-Some.path c.read_u16-mode.result len c.if-mode-gt-MAX_MODE.false c.if-bytes-eq-DIRECTORY.true)

pub returns-then-len-gt-MAX_FILE : goal.returns-then-len-gt-MAX_FILE
returns-then-len-gt-MAX_FILE c =
    let bytes = c.args.bytes.now in
    let n = c.path_count-count.result in
    sym (read_by bytes n c.read_u16-mode.result c.read_u32-len.result (Some c.in-Some.path) c.path_count-count.ensures.count
    (sym c.in-Some.is ∙ c.in_ok-path.ensures ∙ ap (λ (l : List ℕ). path_of (47 ∷ l)) (c.front.ensures ∙ ap (take n) c.tail.ensures))
    (c.read_u16-mode.ensures ∙ ap (number_at w16) c.tail-2.ensures) (c.read_u32-len.ensures ∙ ap (number_at w32) c.tail-3.ensures)
    ∙ len_over (slice_index bytes 0) c.in-Some.path c.read_u16-mode.result c.read_u32-len.result c.if-mode-gt-MAX_MODE.false c.if-bytes-eq-DIRECTORY.false c.if-len-gt-MAX_FILE.true)

pub returns : goal.returns
returns c =
    let bytes = c.args.bytes.now in
    let n = c.path_count-count.result in
    sym (read_by bytes n c.read_u16-mode.result c.read_u32-len.result (Some c.in-Some.path) c.path_count-count.ensures.count
    (sym c.in-Some.is ∙ c.in_ok-path.ensures ∙ ap (λ (l : List ℕ). path_of (47 ∷ l)) (c.front.ensures ∙ ap (take n) c.tail.ensures))
    (c.read_u16-mode.ensures ∙ ap (number_at w16) c.tail-2.ensures) (c.read_u32-len.ensures ∙ ap (number_at w32) c.tail-3.ensures)
    ∙ file_read (slice_index bytes 0) c.in-Some.path c.read_u16-mode.result c.read_u32-len.result c.if-mode-gt-MAX_MODE.false c.if-bytes-eq-DIRECTORY.false c.if-len-gt-MAX_FILE.false)
