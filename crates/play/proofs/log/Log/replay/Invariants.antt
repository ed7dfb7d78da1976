use Rattle.std.proofs.Common.{◌≡◌, ◌++◌, drop, vec_items}
use Rattle.game.specs.Content.{content}
use Rattle.game.specs.Meaning.{game_of}
use Rattle.play.specs.Logs.{record_of}
use Rattle.play.specs.Replays.{states_after, states_from}
use Rattle.play.proofs.Replaying.{in_pairs}
use Rattle.play.proofs.log.Log.replay.Given as goal

-- the states so far, and those of the steps that are left
abbrev pub invariant-loop-moved : goal.invariant-loop-moved
invariant-loop-moved l =
    vec_items l.states ++ states_after (game_of (content l.rules)) l.state (in_pairs (drop l.moved-index l.moved-items))
    ≡ states_from (game_of (content l.rules)) (record_of l.self)
