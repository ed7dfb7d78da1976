use Rattle.std.proofs.Common.{[], ◌∷◌, vec_items, refl}
use Rattle.std.proofs.lemmas.Slice.{pushed}
use Rattle.game.proofs.Rows.{parts_count}
use Rattle.game.proofs.Appending.{appended_more}
use Rattle.game.proofs.rules.Section.write_group.Goals as goal

pub returns : goal.returns
returns g c =
    rw (parts_count g.P.Part.first g.P.Part.others c.args.self.count c.args.self.bytes.now)
    (appended_more (vec_items c.args.out.now) (c.args.self.count ∷ []) _ (vec_items c.write.new.out) c.write.result
    (pushed (c.args.self.count ∷ []) refl c.in_ok-push.was c.push.ensures.items)
    c.write.ensures)
