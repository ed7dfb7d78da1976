-- What the recorder writes, and what it replays to.
--   write_end              the end of the writing of steps
--   paired_taken           the steps of the moves that were answered
--   replays                a walk's log replays to the states of the play
--   recorded               what is promised of a recording
use Rattle.std.proofs.Common.{◌≡◌, ℕ, ◌/◌, ◌%◌, ◌≤◌, min, Bool, true, false, ltb, ◌⊎◌, List, [], ◌∷◌, ◌++◌, length, take, drop, vec_items, sym, refl, ap, ◌∙◌, inl, inr, ⊎_elim, append-nil, arith, ltb-false, ltb-true}
use Rattle.std.proofs.lemmas.List.{drop_all}
use Rattle.game.specs.Game.{Game}
use Rattle.game.specs.Plan.{Plan}
use Rattle.game.specs.Play.{Now, now_after}
use Rattle.controller.specs.declared.Controller.{Controller}
use Rattle.controller.specs.Steps.{game_in, plan_in, place_in, onward}
use Rattle.controller.specs.Runs.{Walks, Runs}
use Rattle.controller.specs.Outcomes.{PlaysTo, SafeTo}
use Rattle.play.specs.declared.recording.Recording.{Recording}
use Rattle.play.specs.Recorded.{logged, Recorded}
use Rattle.play.specs.Logs.{Step, paired, spelled, bytes_of}
use Rattle.play.specs.Replays.{states_after, states_along}

unpaired : (moves : List ℕ) → paired moves [] ≡ []
unpaired [] = refl
unpaired (e ∷ moves) = refl

-- what is as long as the shorter of two has come to the end of one of them
one_ended : (m n i : ℕ) (b : Bool) → ltb m n ≡ b → i ≡ min m n → (m ≤ i) ⊎ (n ≤ i)
one_ended m n i true t e = let l = ltb-true m n t in inl (omega arith)
one_ended m n i false t e = let l = ltb-false m n t in inr (omega arith)

pub write_end : (moves answers out whole : List ℕ) (i : ℕ) → i ≡ min (length moves) (length answers) →
    out ++ spelled (paired (drop i moves) (drop i answers)) ≡ whole → out ≡ whole
write_end moves answers out whole i e h =
    let few = one_ended (length moves) (length answers) i (ltb (length moves) (length answers)) refl e in
    let none : paired (drop i moves) (drop i answers) ≡ [] =
    ⊎_elim (λ l. ap (λ t. paired t (drop i answers)) (drop_all i moves l))
    (λ l. ap (paired (drop i moves)) (drop_all i answers l) ∙ unpaired (drop i moves)) few in
    sym (append-nil out) ∙ rw none at h

pub paired_taken : (moves answers : List ℕ) → paired (take (length answers) moves) answers ≡ paired moves answers
paired_taken [] [] = refl
paired_taken [] (a ∷ answers) = refl
paired_taken (e ∷ moves) [] = refl
paired_taken (e ∷ moves) (a ∷ answers) = ap (λ (t : List Step). record { moved = e; answer = a } ∷ t) (paired_taken moves answers)

pub replays : (g : Game) (p : Plan) (s : ℕ) (before moves answers : List ℕ) (w v : Now) → w ≡ now_after g p s before →
    Walks g p w moves answers v →
    w.state ∷ states_after g w.state (paired moves answers) ≡ states_along g p s before moves
unfolding Walks now_after
replays g p s before [] [] w v at h = ap (λ (u : Now). u.state ∷ []) at
replays g p s before [] (a ∷ answers) w v at h = absurd h
replays g p s before (e ∷ moves) [] w v at h = absurd h
replays g p s before (e ∷ moves) (a ∷ answers) w v at (f, i, h) =
    let on = replays g p s (e ∷ before) moves answers (onward g p w e) v (ap (λ (u : Now). onward g p u e) at) h in
    let here : w.state ≡ (now_after g p s before).state = ap (λ (u : Now). u.state) at in
    ap (λ x. w.state ∷ (g.after w.state e x ∷ states_after g (g.after w.state e x) (paired moves answers))) i
    ∙ ap (λ t. w.state ∷ t) on ∙ ap (λ x. x ∷ states_along g p s (e ∷ before) moves) here

-- the start, and behind it the steps, are a log
pub log_written : (s : ℕ) (none start log moves answers given : List ℕ) → none ≡ [] → start ≡ none ++ (s % 256 ∷ s / 256 ∷ []) →
    given ≡ answers → log ≡ start ++ spelled (paired moves given) →
    log ≡ bytes_of (record { start = s; steps = paired moves answers })
log_written s none start log moves answers given empty begun same written = written ∙ rw (begun, empty, same)

-- all of it, for a run that a controller made
pub recorded : (c : Controller) (moves : List ℕ) (r : Recording) →
    Runs (game_in c) (plan_in c) (place_in c) moves (vec_items r.ran.answers) (place_in r.controller) r.ran.refusal →
    PlaysTo c moves r.controller r.ran → SafeTo c moves r.controller r.ran →
    vec_items r.log ≡ bytes_of (logged c moves r.ran) → Recorded c moves r
recorded c moves r runs plays safe log =
    let answers : List ℕ = vec_items r.ran.answers in
    record {
      runs = runs;
      plays = plays;
      safe = safe;
      log = log;
      replays = λ s before at.
          ap (λ (t : List Step). c.state ∷ states_after (game_in c) c.state t) (sym (paired_taken moves answers))
          ∙ replays (game_in c) (plan_in c) s before (take (length answers) moves) answers (place_in c) (place_in r.controller) at runs.walks;
    }
