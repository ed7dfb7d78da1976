use Rattle.std.proofs.Common.{refl}
use Rattle.game.specs.Play.{now_after}
use Rattle.controller.proofs.Controller.new.Goals as goal

pub returns : goal.returns
unfolding now_after
returns c = record { rules = refl; table = refl; place = refl }
