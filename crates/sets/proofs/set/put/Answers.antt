use Rattle.sets.proofs.Members.{member_put}
use Rattle.sets.proofs.set.put.Goals as goal

pub returns : goal.returns
returns c = member_put c.args.cells.now c.args.s c.args.inside c.requires
