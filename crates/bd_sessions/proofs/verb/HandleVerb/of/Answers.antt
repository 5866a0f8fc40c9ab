use Rattle.std.proofs.Common.{◌≡◌, arith}
use Rattle.std.specs.Prelude.{codes}
use Rattle.std.proofs.lemmas.Slice.Eq.{text_from_reads}
use Rattle.bd_sessions.proofs.verb.HandleVerb.of.Goals as goal

pub returns-in-open : goal.returns-in-open
returns-in-open c =
    let text : c.args.word.now ≡ codes "open" = text_from_reads c.args.word.now (codes "open") (omega arith) (omega arith, (omega arith, (omega arith, (omega arith, tt)))) in
    rw text

pub returns-in-hread : goal.returns-in-hread
returns-in-hread c =
    let text : c.args.word.now ≡ codes "hread" = text_from_reads c.args.word.now (codes "hread") (omega arith) (omega arith, (omega arith, (omega arith, (omega arith, (omega arith, tt))))) in
    rw text

pub returns-in-hwrite : goal.returns-in-hwrite
returns-in-hwrite c =
    let text : c.args.word.now ≡ codes "hwrite" = text_from_reads c.args.word.now (codes "hwrite") (omega arith) (omega arith, (omega arith, (omega arith, (omega arith, (omega arith, (omega arith, tt)))))) in
    rw text

pub returns-in-hstat : goal.returns-in-hstat
returns-in-hstat c =
    let text : c.args.word.now ≡ codes "hstat" = text_from_reads c.args.word.now (codes "hstat") (omega arith) (omega arith, (omega arith, (omega arith, (omega arith, (omega arith, tt))))) in
    rw text

pub returns-in-close : goal.returns-in-close
returns-in-close c =
    let text : c.args.word.now ≡ codes "close" = text_from_reads c.args.word.now (codes "close") (omega arith) (omega arith, (omega arith, (omega arith, (omega arith, (omega arith, tt))))) in
    rw text
