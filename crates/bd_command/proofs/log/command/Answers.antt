use Rattle.std.proofs.Common.{subst, MatchOption, arith}
use Rattle.std.specs.Option.{option_map}
use Rattle.bd_wire.specs.Reading.{Reads}
use Rattle.bd_wire.specs.Encoding.{BeginsNone}
use Rattle.bd_command.specs.Log.{FitsWrite, FitsTruncate, FitsPaths, FitsChmod, encode_write, encode_truncate, encode_paths, encode_chmod}
use Rattle.bd_command.proofs.Records.{after_tag, none_after}
use Rattle.bd_command.proofs.log.command.Goals as goal

pub returns-in-None-3 : goal.returns-in-None-3
returns-in-None-3 c =
    let left = c.u8.new.self.left in
    let none = subst (λ found. MatchOption (option_map (λ v. ((v.0, v.1), v.2)) found) (BeginsNone FitsWrite encode_write left) (λ v. FitsWrite v × Reads c.u8.new.self c.write.new.ahead (encode_write v))) c.in-None-3.is c.in_ok-path-in-3.ensures in
    after_tag c.args.ahead.now.left left c.in-Ok.tag 3 c.in-Ok.ensures.read.front c.in-3.is
    (none_after 3 left (λ h. absurd (omega arith)) (λ h. none) (λ h. absurd (omega arith)) (λ h. absurd (omega arith)) (λ h. absurd (omega arith)))

pub returns-in-None-4 : goal.returns-in-None-4
returns-in-None-4 c =
    let left = c.u8.new.self.left in
    let none = subst (λ found. MatchOption found (BeginsNone FitsTruncate encode_truncate left) (λ v. FitsTruncate v × Reads c.u8.new.self c.truncate.new.ahead (encode_truncate v))) c.in-None-4.is c.in_ok-path-in-4.ensures in
    after_tag c.args.ahead.now.left left c.in-Ok.tag 4 c.in-Ok.ensures.read.front c.in-4.is
    (none_after 4 left (λ h. absurd (omega arith)) (λ h. absurd (omega arith)) (λ h. none) (λ h. absurd (omega arith)) (λ h. absurd (omega arith)))

pub returns-in-None-6 : goal.returns-in-None-6
returns-in-None-6 c =
    let left = c.u8.new.self.left in
    let none = subst (λ found. MatchOption found (BeginsNone FitsPaths encode_paths left) (λ v. FitsPaths v × Reads c.u8.new.self c.paths.new.ahead (encode_paths v))) c.in-None-6.is c.in_ok-a-in-6.ensures in
    after_tag c.args.ahead.now.left left c.in-Ok.tag 6 c.in-Ok.ensures.read.front c.in-6.is
    (none_after 6 left (λ h. absurd (omega arith)) (λ h. absurd (omega arith)) (λ h. absurd (omega arith)) (λ h. none) (λ h. absurd (omega arith)))

pub returns-in-None-7 : goal.returns-in-None-7
returns-in-None-7 c =
    let left = c.u8.new.self.left in
    let none = subst (λ found. MatchOption found (BeginsNone FitsPaths encode_paths left) (λ v. FitsPaths v × Reads c.u8.new.self c.paths-in-7.new.ahead (encode_paths v))) c.in-None-7.is c.in_ok-a-in-7.ensures in
    after_tag c.args.ahead.now.left left c.in-Ok.tag 7 c.in-Ok.ensures.read.front c.in-7.is
    (none_after 7 left (λ h. absurd (omega arith)) (λ h. absurd (omega arith)) (λ h. absurd (omega arith)) (λ h. none) (λ h. absurd (omega arith)))

pub returns-in-None-8 : goal.returns-in-None-8
returns-in-None-8 c =
    let left = c.u8.new.self.left in
    let none = subst (λ found. MatchOption found (BeginsNone FitsChmod encode_chmod left) (λ v. FitsChmod v × Reads c.u8.new.self c.chmod.new.ahead (encode_chmod v))) c.in-None-8.is c.in_ok-path-in-8.ensures in
    after_tag c.args.ahead.now.left left c.in-Ok.tag 8 c.in-Ok.ensures.read.front c.in-8.is
    (none_after 8 left (λ h. absurd (omega arith)) (λ h. absurd (omega arith)) (λ h. absurd (omega arith)) (λ h. absurd (omega arith)) (λ h. none))
