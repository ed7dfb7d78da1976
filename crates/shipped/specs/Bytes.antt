-- The bytes of the shipped rules files: made from them by tools/rules_as_antt.py, and not by hand. Assumes nothing.
--   a_bytes, b_bytes, c_bytes, c1_bytes, d_bytes, e_bytes, f_bytes, g_bytes  the bytes of the file of that name in examples/
use Rattle.std.specs.Prelude.{ℕ, List, [], ◌∷◌}

-- examples/a.rules
abbrev pub a_bytes : List ℕ
a_bytes =
    2 ∷ 1 ∷ 1 ∷ 1 ∷ 1 ∷ 4 ∷ 4 ∷ 2 ∷ 48 ∷ 32 ∷ 1 ∷ 32 ∷ 1 ∷ 48 ∷ 0 ∷ 1 ∷ 4 ∷ 4 ∷ 2 ∷ 16 ∷
    17 ∷ 1 ∷ 0 ∷ 0 ∷ []

-- examples/b.rules
abbrev pub b_bytes : List ℕ
b_bytes =
    4 ∷ 2 ∷ 2 ∷ 1 ∷ 1 ∷ 18 ∷ 3 ∷ 3 ∷ 2 ∷ 3 ∷ 48 ∷ 49 ∷ 4 ∷ 2 ∷ 48 ∷ 4 ∷ 16 ∷ 32 ∷ 4 ∷ 2 ∷
    49 ∷ 4 ∷ 17 ∷ 33 ∷ 6 ∷ 3 ∷ 4 ∷ 16 ∷ 32 ∷ 2 ∷ 48 ∷ 6 ∷ 3 ∷ 4 ∷ 17 ∷ 33 ∷ 2 ∷ 49 ∷ 1 ∷ 48 ∷
    1 ∷ 49 ∷ 0 ∷ 2 ∷ 2 ∷ 2 ∷ 16 ∷ 2 ∷ 2 ∷ 17 ∷ 1 ∷ 0 ∷ 0 ∷ []

-- examples/c.rules
abbrev pub c_bytes : List ℕ
c_bytes =
    2 ∷ 1 ∷ 1 ∷ 1 ∷ 1 ∷ 4 ∷ 4 ∷ 2 ∷ 48 ∷ 32 ∷ 1 ∷ 32 ∷ 1 ∷ 48 ∷ 1 ∷ 1 ∷ 16 ∷ 1 ∷ 1 ∷ 17 ∷
    1 ∷ 0 ∷ 0 ∷ []

-- examples/c1.rules
abbrev pub c1_bytes : List ℕ
c1_bytes =
    2 ∷ 1 ∷ 1 ∷ 1 ∷ 1 ∷ 4 ∷ 4 ∷ 2 ∷ 48 ∷ 32 ∷ 1 ∷ 32 ∷ 1 ∷ 48 ∷ 0 ∷ 1 ∷ 1 ∷ 17 ∷ 1 ∷ 0 ∷
    0 ∷ []

-- examples/d.rules
abbrev pub d_bytes : List ℕ
d_bytes =
    3 ∷ 1 ∷ 2 ∷ 1 ∷ 1 ∷ 22 ∷ 3 ∷ 3 ∷ 2 ∷ 3 ∷ 48 ∷ 49 ∷ 4 ∷ 2 ∷ 48 ∷ 2 ∷ 3 ∷ 16 ∷ 17 ∷ 4 ∷
    2 ∷ 49 ∷ 2 ∷ 3 ∷ 2 ∷ 16 ∷ 2 ∷ 17 ∷ 9 ∷ 2 ∷ 5 ∷ 16 ∷ 3 ∷ 4 ∷ 48 ∷ 49 ∷ 2 ∷ 32 ∷ 18 ∷ 2 ∷
    5 ∷ 17 ∷ 3 ∷ 3 ∷ 4 ∷ 48 ∷ 49 ∷ 2 ∷ 32 ∷ 4 ∷ 3 ∷ 48 ∷ 16 ∷ 3 ∷ 49 ∷ 2 ∷ 16 ∷ 1 ∷ 32 ∷ 1 ∷
    2 ∷ 2 ∷ 18 ∷ 2 ∷ 5 ∷ 3 ∷ 2 ∷ 16 ∷ 2 ∷ 17 ∷ 3 ∷ 3 ∷ 16 ∷ 17 ∷ 1 ∷ 0 ∷ 0 ∷ []

-- examples/e.rules
abbrev pub e_bytes : List ℕ
e_bytes =
    2 ∷ 1 ∷ 2 ∷ 7 ∷ 4 ∷ 2 ∷ 32 ∷ 3 ∷ 16 ∷ 2 ∷ 17 ∷ 19 ∷ 3 ∷ 4 ∷ 2 ∷ 4 ∷ 17 ∷ 32 ∷ 3 ∷ 49 ∷
    2 ∷ 48 ∷ 4 ∷ 2 ∷ 3 ∷ 2 ∷ 17 ∷ 2 ∷ 32 ∷ 2 ∷ 49 ∷ 1 ∷ 48 ∷ 1 ∷ 49 ∷ 0 ∷ 1 ∷ 4 ∷ 3 ∷ 16 ∷
    2 ∷ 17 ∷ 1 ∷ 0 ∷ 0 ∷ []

-- examples/f.rules
abbrev pub f_bytes : List ℕ
f_bytes =
    1 ∷ 1 ∷ 1 ∷ 1 ∷ 1 ∷ 4 ∷ 4 ∷ 16 ∷ 2 ∷ 32 ∷ 3 ∷ 4 ∷ 16 ∷ 48 ∷ 0 ∷ 1 ∷ 1 ∷ 1 ∷ 2 ∷ 1 ∷
    0 ∷ 0 ∷ 0 ∷ []

-- examples/g.rules
abbrev pub g_bytes : List ℕ
g_bytes =
    3 ∷ 2 ∷ 1 ∷ 11 ∷ 3 ∷ 4 ∷ 2 ∷ 16 ∷ 2 ∷ 33 ∷ 4 ∷ 2 ∷ 17 ∷ 2 ∷ 32 ∷ 6 ∷ 4 ∷ 2 ∷ 48 ∷ 3 ∷
    32 ∷ 33 ∷ 1 ∷ 32 ∷ 1 ∷ 33 ∷ 1 ∷ 48 ∷ 2 ∷ 1 ∷ 16 ∷ 1 ∷ 17 ∷ 1 ∷ 1 ∷ 18 ∷ 1 ∷ 0 ∷ 0 ∷ []
