use Rattle.bd_device.specs.Device.{left_now}
use Rattle.bd_checkpoint.proofs.Logged.{open_waiting}
use Rattle.bd_checkpoint.proofs.laws.appends_stay_open.Goals as goal

pub returns : goal.returns
returns g c = λ live saved log waiting given.
    let D = g.D.Device in
    let dev = c.args.dev.now in
    open_waiting (D.contents dev) (left_now D dev) (D.block_count dev) live saved log waiting given
