use Rattle.std.proofs.Common.{ap, ◌∙◌, List, ◌∷◌, []}
use Rattle.bd_query.specs.declared.patch.Patch.{Patch}
use Rattle.bd_query.specs.Looks.{patched, base_at}
use Rattle.bd_query.proofs.Parts.{patched-append}
use Rattle.bd_query.proofs.part.patched.Goals as goal

pub returns-clause-part : goal.returns-clause-part
returns-clause-part c = λ below.
    ap (λ (ps : List Patch). patched ps (base_at below c.args.part.base)) c.in_ok-push.ensures.items
    ∙ patched-append c.args.part.patches.items (c.args.patch ∷ []) (base_at below c.args.part.base)
