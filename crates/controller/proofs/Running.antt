-- Runs of the controller, turn by turn.
--   steps_same   a step by the rules and the table that there were is one by those that there are
--   run_more     one more move was answered
--   run_refused  the next move was refused, and nothing changed
--   run_ended    all that is promised of a run, once it has stopped
use Rattle.std.proofs.Common.{◌≡◌, ℕ, ◌+◌, ◌<◌, List, [], ◌∷◌, ◌++◌, length, get_or, take, Some, Ok, Err, vec_items, Result, sym, ap, ◌∙◌, subst}
use Rattle.std.proofs.lemmas.List.{take_more}
use Rattle.game.specs.declared.refusal.Refusal.{Refusal}
use Rattle.game.specs.declared.rules.Rules.{Rules}
use Rattle.game.specs.Game.{Game}
use Rattle.game.specs.Plan.{Plan}
use Rattle.game.specs.Play.{Now}
use Rattle.game.specs.Content.{content}
use Rattle.game.specs.Meaning.{game_of}
use Rattle.table.specs.declared.Table.{Table}
use Rattle.table.specs.Plans.{sheet_of, plan_of}
use Rattle.controller.specs.declared.Controller.{Controller}
use Rattle.controller.specs.declared.Ran.{Ran}
use Rattle.controller.specs.Steps.{game_in, plan_in, place_in, refusal_at, Steps}
use Rattle.controller.specs.Runs.{Walks, Runs, Stops}
use Rattle.controller.specs.Outcomes.{Same, StepsTo, PlaysTo, SafeTo}
use Rattle.controller.proofs.Walking.{walk_more, walks_play, runs_safe}

pub steps_same : (c d : Controller) (w : Now) (e : ℕ) (v : Now) (r : Result ℕ Refusal) → Same c d →
    Steps (game_in d) (plan_in d) w e v r → Steps (game_in c) (plan_in c) w e v r
steps_same c d w e v r (rules, table) h =
    subst (λ (t : Table). Steps (game_in c) (plan_of (sheet_of t)) w e v r) table
    (subst (λ (q : Rules). Steps (game_of (content q)) (plan_in d) w e v r) rules h)

-- one more move, by any game and plan
walk_next : (g : Game) (p : Plan) (w v u : Now) (moves answers : List ℕ) (n a : ℕ) → n < length moves →
    Walks g p w (take n moves) answers v → Steps g p v (get_or moves n 0) u (Ok a) →
    Walks g p w (take (n + 1) moves) (answers ++ a ∷ []) u
walk_next g p w v u moves answers n a l walk (free, is, on) =
    rw (take_more moves n 0 l, on) (walk_more g p w (take n moves) answers v (get_or moves n 0) a walk free is)

module _ (c : Controller) (moves : List ℕ) where
  -- the controller c has walked through the first n moves, and is then d
  abbrev pub Walked : ℕ → List ℕ → Controller → Type 0
  Walked n answers d = Walks (game_in c) (plan_in c) (place_in c) (take n moves) answers (place_in d)

  pub run_more : (d after : Controller) (answers : List ℕ) (n a : ℕ) → n < length moves → Same c d → Walked n answers d →
      StepsTo d (get_or moves n 0) after (Ok a) → Walked (n + 1) (answers ++ a ∷ []) after
  run_more d after answers n a l same walk step =
      walk_next (game_in c) (plan_in c) (place_in c) (place_in d) (place_in after) moves answers n a l walk
      (steps_same c d (place_in d) (get_or moves n 0) (place_in after) (Ok a) same step)

  pub run_refused : (d after : Controller) (answers : List ℕ) (n : ℕ) (r : Refusal) → n < length moves → Same c d →
      Walked n answers d → StepsTo d (get_or moves n 0) after (Err r) →
      Walked n answers after × Stops (game_in c) (plan_in c) (place_in after) moves n (Some r)
  run_refused d after answers n r l same walk step =
      let s = steps_same c d (place_in d) (get_or moves n 0) (place_in after) (Err r) same step in (
        subst (λ (v : Now). Walks (game_in c) (plan_in c) (place_in c) (take n moves) answers v) (sym s.1) walk,
        (l, ap (λ (v : Now). refusal_at (game_in c) (plan_in c) v (get_or moves n 0)) s.1 ∙ s.0),
      )

  -- what is promised of a run that answered n moves
  pub record Ended (d : Controller) (ran : Ran) : Type 0 where
    pub runs : Runs (game_in c) (plan_in c) (place_in c) moves (vec_items ran.answers) (place_in d) ran.refusal
    pub plays : PlaysTo c moves d ran
    pub safe : SafeTo c moves d ran

  pub run_ended : (d : Controller) (ran : Ran) (n : ℕ) → length (vec_items ran.answers) ≡ n →
      Walked n (vec_items ran.answers) d → Stops (game_in c) (plan_in c) (place_in d) moves n ran.refusal → Ended d ran
  run_ended d ran n len walk stop =
      let g : Game = game_in c in
      let p : Plan = plan_in c in
      let answers : List ℕ = vec_items ran.answers in
      let walks : Walks g p (place_in c) (take (length answers) moves) answers (place_in d) = rw len walk in
      let stops : Stops g p (place_in d) moves (length answers) ran.refusal = rw len stop in
      let all : Runs g p (place_in c) moves answers (place_in d) ran.refusal = record { walks = walks; stops = stops } in
      record {
        runs = all;
        plays = λ s before at. walks_play g p s before (take (length answers) moves) answers (place_in c) (place_in d) at walks;
        safe = λ holds on. runs_safe g p (place_in c) moves answers (place_in d) ran.refusal holds on all;
      }
