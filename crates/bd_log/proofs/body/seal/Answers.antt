use Rattle.std.proofs.Common.{◌≡◌, ◌+◌, ◌-◌, ◌*◌, ◌++◌, length, take, drop, replicate, arith, ap, ◌∙◌, length-append}
use Rattle.std.proofs.lemmas.List.{length-take-le, length-drop}
use Rattle.bd_wire.specs.Text.{zeros}
use Rattle.bd_log.specs.Batches.{header_bytes}
use Rattle.bd_log.proofs.Buffers.{sealed, header_length, headed, kept_front}
use Rattle.bd_log.proofs.body.seal.Goals as goal

pub returns-clause-body : goal.returns-clause-body
returns-clause-body c =
    let body = c.args.body.now in
    let size = c.args.size in
    let end = c.args.blocks * 4096 in
    let header = header_bytes c.args.blocks c.args.epoch c.args.count c.args.size in
    let long = header_length c.args.blocks c.args.epoch c.args.count c.args.size in
    let put = headed header c.header-header.result body c.put.new.into long c.header-header.ensures c.put.ensures in
    let total : length c.put.new.into ≡ length body = omega (arith, ap length put, length-append header (drop 24 body), long, length-drop 24 body, c.requires.total) in
    let room : length (take (end - (24 + size)) (drop (24 + size) c.put.new.into)) ≡ end - (24 + size) =
    length-take-le (end - (24 + size)) (drop (24 + size) c.put.new.into) (omega (arith, length-drop (24 + size) c.put.new.into, total, c.requires.total, c.requires.blocks, c.requires.room)) in
    let part : c.fill.new.self ≡ zeros (end - (24 + size)) = c.fill.ensures.after (λ y e. e) ∙ ap (λ n. replicate n 0) room in
    ap (λ p. take end (take (24 + size) p ++ (c.fill.new.self ++ drop (end - (24 + size)) (drop (24 + size) p)))) put
    ∙ sealed size end header body c.fill.new.self long c.requires.room (omega (arith, c.requires.total, c.requires.blocks)) part

pub returns-clause-kept : goal.returns-clause-kept
returns-clause-kept c =
    let body = c.args.body.now in
    let size = c.args.size in
    let end = c.args.blocks * 4096 in
    let header = header_bytes c.args.blocks c.args.epoch c.args.count c.args.size in
    let long = header_length c.args.blocks c.args.epoch c.args.count c.args.size in
    let put = headed header c.header-header.result body c.put.new.into long c.header-header.ensures c.put.ensures in
    kept_front size header body c.put.new.into (c.fill.new.self ++ drop (end - (24 + size)) (drop (24 + size) c.put.new.into)) long
    (omega (arith, c.requires.total, c.requires.blocks, c.requires.room)) put
