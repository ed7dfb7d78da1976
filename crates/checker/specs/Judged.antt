-- The verdict on two rows of bytes. Assumes nothing.
--   verdict_on  the first fault of the rules, else the verdict on the file for them
use Rattle.std.specs.Prelude.{ℕ, List, Err, Result}
use Rattle.game.specs.declared.refusal.Refusal.{Refusal}
use Rattle.game.specs.Content.{Content}
use Rattle.game.specs.Reading.{Step, part, refused, rules_in}
use Rattle.rows.specs.declared.judge.Accepted.{Accepted}
use Rattle.table.specs.Sound.{table_verdict}
use Rattle.counter.specs.Sound.{way_verdict}
use Rattle.checker.specs.declared.command.Kind.{Kind}
use Rattle.checker.specs.declared.command.Kind.TheVariants.{Table, Way}

-- the verdict on a file of a kind, for what the rules say
abbrev pub verdict_for : Kind → Content → List ℕ → Result Accepted Refusal
verdict_for Table c bs = table_verdict c bs
verdict_for Way c bs = way_verdict c bs

-- the same where the rules were read
abbrev pub after_rules : Kind → Step Content → List ℕ → Result Accepted Refusal
after_rules k (part c rest) bs = verdict_for k c bs
after_rules k (refused e) bs = Err e

abbrev pub verdict_on : Kind → List ℕ → List ℕ → Result Accepted Refusal
verdict_on k rules bs = after_rules k (rules_in rules) bs
