-- What the loops leave as it is in what is lent to them. Assumes nothing.
--   SameLent            a set with numbers and names is as large, and lent from the same memory
--   SameHits, SameBase  the game is the same, and so are the hits; and so is the base
--   SameReasons         the game is the same, and the rows are lent from the same memory
use Rattle.std.specs.Prelude.{◌≡◌}
use Rattle.solver.specs.declared.numbered.Numbered.{Numbered}
use Rattle.solver.specs.declared.reasons.Reasons.{Reasons}
use Rattle.solver.specs.declared.work.Work.{Work}

-- it is as large, and each of its slices is lent from the same memory
abbrev pub SameLent : Numbered → Numbered → Type 0
SameLent a b =
    (b.states ≡ a.states) × (b.set.ghost_name ≡ a.set.ghost_name) × (b.numbers.ghost_name ≡ a.numbers.ghost_name)
    × (b.names.ghost_name ≡ a.names.ghost_name)

-- the game is the same, and so is what the hits hold
abbrev pub SameHits : Work → Work → Type 0
SameHits a b = (b.arena ≡ a.arena) × (b.hits.now ≡ a.hits.now)

-- and so is what the base holds
abbrev pub SameBase : Work → Work → Type 0
SameBase a b = (b.arena ≡ a.arena) × (b.hits.now ≡ a.hits.now) × (b.base.now ≡ a.base.now)

-- the game is the same, and the rows that the caller reads are lent from the same memory
abbrev pub SameReasons : Reasons → Reasons → Type 0
SameReasons a b =
    (b.arena ≡ a.arena) × (b.ranks.ghost_name ≡ a.ranks.ghost_name) × (b.waits.ghost_name ≡ a.waits.ghost_name)
    × (b.turns.ghost_name ≡ a.turns.ghost_name)
