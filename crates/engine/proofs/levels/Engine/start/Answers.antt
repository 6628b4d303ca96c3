use Rattle.std.proofs.Common.{◌<◌, length, rules}
use Rattle.engine.proofs.Starting.{starts}
use Rattle.engine.proofs.levels.Engine.start.Goals as goal

pub returns : goal.returns
returns c low high rs a e q =
    let l : 0 < length c.args.self.now.frames = search rules in
    starts low high rs a c.args.self.now.frames c.args.used c.args.last_line l e q
