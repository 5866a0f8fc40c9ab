-- The log's numbers.
use Rattle.std.proofs.Common.{◌≡◌, ℕ, ◌+◌, ◌-◌, ◌≤◌, eqb, cond, List, [], ◌∷◌, ◌++◌, length, ap, ◌∙◌, arith}
use Rattle.std.specs.List.{concat, AllByRecursion}
use Rattle.std.proofs.lemmas.Bool.{cond-true, cond-false, eq-eqb, ne_eqb}
use Rattle.std.proofs.lemmas.List.{length-append}
use Rattle.bd_wire.proofs.TextLemmas.{length-text16}
use Rattle.bd_log.specs.Batches.{IsLogRecord, blocks_for}
use Rattle.bd_log.specs.Logs.{LogState, room_at, room_left, place_after, after_sync}
use Rattle.bd_view.specs.Views.{View, log_room}
use Rattle.bd_view.specs.Moves.{synced}

pub room_is : (log : LogState) (v : View) → v.place ≡ log.place → v.waiting ≡ length (concat log.waiting) → log_room v ≡ room_left log
room_is log v place waiting = ap (λ p. room_at p - v.waiting) place ∙ ap (λ w. room_at log.place - w) waiting

-- a record has two bytes or more
record_long : (r : List ℕ) → IsLogRecord r → 2 ≤ length r
record_long r h = omega (arith, ap length h.2, length-text16 h.0)

synced_place : (records : List (List ℕ)) (from place waiting : ℕ) → AllByRecursion IsLogRecord records → from ≡ place → waiting ≡ length (concat records)
    → cond (eqb waiting 0) from (from + 1 + blocks_for waiting) ≡ place_after place records
synced_place [] from place waiting each same none = cond-true (eqb waiting 0) from _ (eq-eqb waiting 0 none) ∙ same
synced_place (r ∷ rs) from place waiting each same some =
    let long : 2 ≤ length r = record_long r each.0 in
    let all : length (r ++ concat rs) ≡ length r + length (concat rs) = length-append r (concat rs) in
    cond-false (eqb waiting 0) from _ (ne_eqb waiting 0 (λ e. omega (arith, e, some, all, long)))
    ∙ ap (λ p. p + 1 + blocks_for waiting) same ∙ ap (λ w. place + 1 + blocks_for w) some

pub place_is : (log : LogState) (v : View) → AllByRecursion IsLogRecord log.waiting → v.place ≡ log.place → v.waiting ≡ length (concat log.waiting) → (synced v).place ≡ (after_sync log).place
place_is log v each place waiting = synced_place log.waiting v.place log.place v.waiting each place waiting
