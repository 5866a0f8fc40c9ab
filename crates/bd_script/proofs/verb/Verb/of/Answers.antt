use Rattle.std.proofs.Common.{◌≡◌, arith}
use Rattle.std.specs.Prelude.{codes}
use Rattle.std.proofs.lemmas.Slice.Eq.{text_from_reads}
use Rattle.bd_script.proofs.verb.Verb.of.Goals as goal

pub returns-in-create : goal.returns-in-create
returns-in-create c =
    let text : c.args.word.now ≡ codes "create" = text_from_reads c.args.word.now (codes "create") (omega arith) (omega arith, (omega arith, (omega arith, (omega arith, (omega arith, (omega arith, tt)))))) in
    rw text

pub returns-in-remove : goal.returns-in-remove
returns-in-remove c =
    let text : c.args.word.now ≡ codes "remove" = text_from_reads c.args.word.now (codes "remove") (omega arith) (omega arith, (omega arith, (omega arith, (omega arith, (omega arith, (omega arith, tt)))))) in
    rw text

pub returns-in-rename : goal.returns-in-rename
returns-in-rename c =
    let text : c.args.word.now ≡ codes "rename" = text_from_reads c.args.word.now (codes "rename") (omega arith) (omega arith, (omega arith, (omega arith, (omega arith, (omega arith, (omega arith, tt)))))) in
    rw text

pub returns-in-truncate : goal.returns-in-truncate
returns-in-truncate c =
    let text : c.args.word.now ≡ codes "truncate" = text_from_reads c.args.word.now (codes "truncate") (omega arith) (omega arith, (omega arith, (omega arith, (omega arith, (omega arith, (omega arith, (omega arith, (omega arith, tt)))))))) in
    rw text

pub returns-in-checkpoint : goal.returns-in-checkpoint
returns-in-checkpoint c =
    let text : c.args.word.now ≡ codes "checkpoint" = text_from_reads c.args.word.now (codes "checkpoint") (omega arith) (omega arith, (omega arith, (omega arith, (omega arith, (omega arith, (omega arith, (omega arith, (omega arith, (omega arith, (omega arith, tt)))))))))) in
    rw text

pub returns-in-reclaim : goal.returns-in-reclaim
returns-in-reclaim c =
    let text : c.args.word.now ≡ codes "reclaim" = text_from_reads c.args.word.now (codes "reclaim") (omega arith) (omega arith, (omega arith, (omega arith, (omega arith, (omega arith, (omega arith, (omega arith, tt))))))) in
    rw text

pub returns-in-mkdir : goal.returns-in-mkdir
returns-in-mkdir c =
    let text : c.args.word.now ≡ codes "mkdir" = text_from_reads c.args.word.now (codes "mkdir") (omega arith) (omega arith, (omega arith, (omega arith, (omega arith, (omega arith, tt))))) in
    rw text

pub returns-in-write : goal.returns-in-write
returns-in-write c =
    let text : c.args.word.now ≡ codes "write" = text_from_reads c.args.word.now (codes "write") (omega arith) (omega arith, (omega arith, (omega arith, (omega arith, (omega arith, tt))))) in
    rw text

pub returns-in-clone : goal.returns-in-clone
returns-in-clone c =
    let text : c.args.word.now ≡ codes "clone" = text_from_reads c.args.word.now (codes "clone") (omega arith) (omega arith, (omega arith, (omega arith, (omega arith, (omega arith, tt))))) in
    rw text

pub returns-in-chmod : goal.returns-in-chmod
returns-in-chmod c =
    let text : c.args.word.now ≡ codes "chmod" = text_from_reads c.args.word.now (codes "chmod") (omega arith) (omega arith, (omega arith, (omega arith, (omega arith, (omega arith, tt))))) in
    rw text
