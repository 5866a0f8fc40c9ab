use Rattle.clap.specs.Words.{found_of, rows_of}
use Rattle.bd_words.proofs.Values.{check_read, export_read, fill_read, format_read, import_read, read_in, run_read, serve_read}
use Rattle.bd_words.proofs.words.call_in.Goals as goal

pub returns-in-run : goal.returns-in-run
returns-in-run c = λ call read.
    let at = rows_of (found_of c.in_ok-verb.values.now) in
    run_read call at c.in_ok-verb.verb.now c.run_in.result c.in-run.is
    (read_in c.args.matches.now c.in_ok-verb.verb.now at call c.in_ok-verb.ensures.name c.in_ok-verb.ensures.rows read) c.run_in.ensures

pub returns-in-format : goal.returns-in-format
returns-in-format c = λ call read.
    let at = rows_of (found_of c.in_ok-verb.values.now) in
    format_read call at c.in_ok-verb.verb.now c.format_in.result c.in-format.is
    (read_in c.args.matches.now c.in_ok-verb.verb.now at call c.in_ok-verb.ensures.name c.in_ok-verb.ensures.rows read) c.format_in.ensures

pub returns-in-fill : goal.returns-in-fill
returns-in-fill c = λ call read.
    let at = rows_of (found_of c.in_ok-verb.values.now) in
    fill_read call at c.in_ok-verb.verb.now c.fill_in.result c.in-fill.is
    (read_in c.args.matches.now c.in_ok-verb.verb.now at call c.in_ok-verb.ensures.name c.in_ok-verb.ensures.rows read) c.fill_in.ensures

pub returns-in-check : goal.returns-in-check
returns-in-check c = λ call read.
    let at = rows_of (found_of c.in_ok-verb.values.now) in
    check_read call at c.in_ok-verb.verb.now c.check_in.result c.in-check.is
    (read_in c.args.matches.now c.in_ok-verb.verb.now at call c.in_ok-verb.ensures.name c.in_ok-verb.ensures.rows read) c.check_in.ensures

pub returns-in-export : goal.returns-in-export
returns-in-export c = λ call read.
    let at = rows_of (found_of c.in_ok-verb.values.now) in
    export_read call at c.in_ok-verb.verb.now c.export_in.result c.in-export.is
    (read_in c.args.matches.now c.in_ok-verb.verb.now at call c.in_ok-verb.ensures.name c.in_ok-verb.ensures.rows read) c.export_in.ensures

pub returns-in-import : goal.returns-in-import
returns-in-import c = λ call read.
    let at = rows_of (found_of c.in_ok-verb.values.now) in
    import_read call at c.in_ok-verb.verb.now c.import_in.result c.in-import.is
    (read_in c.args.matches.now c.in_ok-verb.verb.now at call c.in_ok-verb.ensures.name c.in_ok-verb.ensures.rows read) c.import_in.ensures

pub returns-in-serve : goal.returns-in-serve
returns-in-serve c = λ call read.
    let at = rows_of (found_of c.in_ok-verb.values.now) in
    serve_read call at c.in_ok-verb.verb.now c.serve_in.result c.in-serve.is
    (read_in c.args.matches.now c.in_ok-verb.verb.now at call c.in_ok-verb.ensures.name c.in_ok-verb.ensures.rows read) c.serve_in.ensures
