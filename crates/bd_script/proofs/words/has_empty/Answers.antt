use Rattle.std.proofs.Common.{◌∙◌, Bor, rules, tests, List, ℕ}
use Rattle.std.proofs.lemmas.Iterator.{YieldsList-from_slice}
use Rattle.std.proofs.lemmas.Iterator.Search.{any_from_yields_List}
use Rattle.bd_script.specs.Lines.{is_empty}
use Rattle.bd_script.proofs.ReadLemmas.{is_empty-length, list_any-texts}
use Rattle.bd_script.proofs.words.has_empty.Goals as goal

pub returns : goal.returns
returns c =
    any_from_yields_List (λ (w : Bor (List ℕ)). is_empty w.now) _ _ c.any.result c.any.ensures.ran (YieldsList-from_slice c.args.words.now c.iter.ensures.rest) (λ x b q k. rw is_empty-length (search (rules, tests)))
    ∙ list_any-texts c.args.words.now
