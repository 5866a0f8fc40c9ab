use Rattle.std.proofs.Common.{◌≡◌, take, true, false, ap, ◌∙◌}
use Rattle.std.specs.Prelude.{Some}
use Rattle.bd_names.specs.Names.{is_name}
use Rattle.bd_dirs.proofs.Children.{first_name_is}
use Rattle.bd_dirs.proofs.listing.first_name.Goals as goal

pub returns-in-Ok-clause-name : goal.returns-in-Ok-clause-name
returns-in-Ok-clause-name c = λ name rest named is.
    let first : take c.len_before_zero-len.result c.args.text.now ≡ name = first_name_is name rest c.args.text.now c.len_before_zero-len.result named is c.len_before_zero-len.ensures.len in
    ap Some (c.in-Ok.ensures.name ∙ first)

pub returns-in-Err-BadPath-clause-name : goal.returns-in-Err-BadPath-clause-name
returns-in-Err-BadPath-clause-name c = λ name rest named is.
    let first : take c.len_before_zero-len.result c.args.text.now ≡ name = first_name_is name rest c.args.text.now c.len_before_zero-len.result named is c.len_before_zero-len.ensures.len in
    let yes : is_name (take c.len_before_zero-len.result c.args.text.now) ≡ true = ap is_name first ∙ named in
    let bad : is_name (take c.len_before_zero-len.result c.args.text.now) ≡ false = c.read.ensures.bad_path.0 (cc) in
    cc
