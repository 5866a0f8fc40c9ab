use Rattle.std.proofs.Common.{ap}
use Rattle.std.specs.Option.{ok_or}
use Rattle.bd_command.specs.declared.refusal.Refusal.TheVariants.{BadPath}
use Rattle.bd_script.proofs.ReadLemmas.{IsShortPath-read}
use Rattle.bd_script.proofs.read.read_path.Goals as goal

pub returns : goal.returns
returns c = (
  ap (λ o. ok_or o BadPath) c.in_ok-read.ensures.path,
  IsShortPath-read c.args.word.now c.in_ok-read.field-0 c.in_ok-read.ensures.path,
)
