-- Rows written one after the other are read again, and rows that were read are written again.
use Rattle.std.proofs.Common.{◌≡◌, ℕ, zero, suc, ◌+◌, ◌-◌, ◌*◌, ◌<◌, ◌≤◌, ◌&&◌, ltb, List, [], ◌∷◌, ◌++◌, length, get_or, take, drop, sym, refl, ap, ◌∙◌, ⊎_elim, mul_assoc, suc-mul, mul_comm, add-mul, arith}
use Rattle.std.proofs.lemmas.Nat.{mul-le, mul-add-lt}
use Rattle.std.proofs.lemmas.List.{get_or-take, get_or-drop, length-append, length-drop, length-take-le, take_all, drop_at, take-append-le, drop-append-le, drop-drop, take-take, drop-take}
use Rattle.std.proofs.lemmas.Bool.{cases_lt, lt-ltb, and_from, cond-true}
use Rattle.rows.specs.declared.row.Grid.{Grid}
use Rattle.rows.specs.Rows.{length_of, row_at}
use Rattle.rows.specs.Written.{rows_of, all_rows, RowWritten, RowsRead}

-- the part of a row of rows
abbrev part : {A : Type 0} → ℕ → ℕ → List A → List A
part size k bs = take size (drop (k * size) bs)

pub length_rows : {A : Type 0} (size n : ℕ) (f : ℕ → List A) → ((k : ℕ) → length (f k) ≡ size) → length (rows_of n f) ≡ n * size
length_rows size zero f h = omega arith
length_rows size (suc n) f h = length-append (rows_of n f) (f n) ∙ omega (arith, length_rows size n f h, h n, suc-mul n size)

pub part_rows : {A : Type 0} (size n : ℕ) (f : ℕ → List A) → ((k : ℕ) → length (f k) ≡ size) → (k : ℕ) → k < n → part size k (rows_of n f) ≡ f k
part_rows size zero f h k l = absurd (omega arith)
part_rows size (suc n) f h k l =
    let whole : length (rows_of n f) ≡ n * size = length_rows size n f h in
    ⊎_elim
    (λ below.
    let room : k * size + size ≤ n * size = omega (arith, suc-mul k size, mul-le (suc k) size n size (omega arith) (omega arith)) in
    let inside : k * size ≤ length (rows_of n f) = omega arith in
    let left : size ≤ length (drop (k * size) (rows_of n f)) = omega (arith, length-drop (k * size) (rows_of n f)) in
    ap (take size) (drop-append-le (k * size) (rows_of n f) (f n) inside)
    ∙ take-append-le size (drop (k * size) (rows_of n f)) (f n) left
    ∙ part_rows size n f h k below)
    (λ last.
    let same : n ≡ k = omega arith in
    let at : length (rows_of n f) ≡ k * size = whole ∙ ap (λ m. m * size) same in
    ap (take size) (drop_at (rows_of n f) (f n) (k * size) at) ∙ take_all size (f n) (omega (arith, h n)) ∙ ap f same)
    (cases_lt k n)

take_nothing : {A : Type 0} (b : ℕ) → take {A = A} b [] ≡ []
take_nothing zero = refl
take_nothing (suc b) = refl

take_more_of : {A : Type 0} (a b : ℕ) (xs : List A) → take a xs ++ take b (drop a xs) ≡ take (a + b) xs
take_more_of zero b xs = let e : 0 + b ≡ b = omega arith in ap (λ n. take n xs) (sym e)
take_more_of (suc a) b [] = take_nothing b ∙ sym (take_nothing (suc a + b))
take_more_of (suc a) b (x ∷ xs) =
    let e : suc (a + b) ≡ suc a + b = omega arith in
    ap (λ ys. x ∷ ys) (take_more_of a b xs) ∙ ap (λ n. take n (x ∷ xs)) e

pub rows_parts : {A : Type 0} (size n : ℕ) (bs : List A) → rows_of n (λ k. part size k bs) ≡ take (n * size) bs
rows_parts size zero bs = let e : 0 * size ≡ 0 = omega arith in ap (λ m. take m bs) (sym e)
rows_parts size (suc n) bs =
    ap (λ xs. xs ++ part size n bs) (rows_parts size n bs) ∙ take_more_of (n * size) size bs
    ∙ ap (λ m. take m bs) (sym (suc-mul n size))

pub same_rows : {A : Type 0} (n : ℕ) (f g : ℕ → List A) → ((k : ℕ) → k < n → f k ≡ g k) → rows_of n f ≡ rows_of n g
same_rows zero f g h = refl
same_rows (suc n) f g h = rw (same_rows n f g (λ k l. h k (omega arith)), h n (omega arith)) refl

-- a row of the grid is a row of its group
inner : (each size j n : ℕ) → (j * each + n) * size ≡ j * (each * size) + n * size
inner each size j n = add-mul (j * each) n size ∙ ap (λ m. m + n * size) (mul_assoc j each size)

in_group : (each size j n : ℕ) (bs : List ℕ) → n < each → part size (j * each + n) bs ≡ part size n (part (each * size) j bs)
in_group each size j n bs h =
    let room : n * size + size ≤ each * size = omega (arith, suc-mul n size, mul-le (suc n) size each size (omega arith) (omega arith)) in
    let split : n * size + (each * size - n * size) ≡ each * size = omega arith in
    let enough : size ≤ each * size - n * size = omega arith in
    ap (λ m. take size (drop m bs)) (inner each size j n)
    ∙ ap (take size) (sym (drop-drop (n * size) (j * (each * size)) bs))
    ∙ sym (take-take size (each * size - n * size) (drop (n * size) (drop (j * (each * size)) bs)) enough)
    ∙ ap (take size) (sym (drop-take (n * size) (each * size - n * size) (drop (j * (each * size)) bs)))
    ∙ ap (λ m. take size (drop (n * size) (take m (drop (j * (each * size)) bs)))) split

-- a row that there is
row_there : (g : Grid) (bs : List ℕ) (j n : ℕ) → j < g.groups → n < g.each → row_at g bs j n ≡ part g.size (j * g.each + n) bs
unfolding row_at
row_there g bs j n a b =
    cond-true (ltb j g.groups && ltb n g.each) _ [] (and_from _ _ (lt-ltb j g.groups a) (lt-ltb n g.each b))

-- such a row has the grid's size, and its bytes are the file's
pub row_length : (g : Grid) (bs : List ℕ) (j n : ℕ) → length bs ≡ length_of g → j < g.groups → n < g.each → length (row_at g bs j n) ≡ g.size
row_length g bs j n e a b =
    let place : j * g.each + n < g.each * g.groups = mul-add-lt j g.each n g.groups a b in
    let around : g.each * g.groups ≡ g.groups * g.each = mul_comm g.each g.groups in
    let room : suc (j * g.each + n) * g.size ≤ g.groups * g.each * g.size =
    mul-le (suc (j * g.each + n)) g.size (g.groups * g.each) g.size (omega arith) (omega arith) in
    let left : g.size ≤ length (drop ((j * g.each + n) * g.size) bs) =
    omega (arith, e, suc-mul (j * g.each + n) g.size, length-drop ((j * g.each + n) * g.size) bs) in
    ap length (row_there g bs j n a b) ∙ length-take-le g.size (drop ((j * g.each + n) * g.size) bs) left

pub row_bytes_fit : (g : Grid) (bs : List ℕ) (j n : ℕ) → j < g.groups → n < g.each → ((k : ℕ) → get_or bs k 0 < 256) →
    (k : ℕ) → k < g.size → get_or (row_at g bs j n) k 0 < 256
row_bytes_fit g bs j n a b fit k h =
    let same : get_or (row_at g bs j n) k 0 ≡ get_or bs ((j * g.each + n) * g.size + k) 0 =
    ap (λ row. get_or row k 0) (row_there g bs j n a b) ∙ get_or-take g.size (drop ((j * g.each + n) * g.size) bs) k 0 h
    ∙ get_or-drop ((j * g.each + n) * g.size) bs k 0 in
    omega (arith, same, fit ((j * g.each + n) * g.size + k))

-- a byte of a row among rows
pub get_or_rows : (size n : ℕ) (f : ℕ → List ℕ) → ((k : ℕ) → length (f k) ≡ size) → (k d : ℕ) → k < n → d < size →
    get_or (rows_of n f) (k * size + d) 0 ≡ get_or (f k) d 0
get_or_rows size n f h k d l t =
    sym (get_or-drop (k * size) (rows_of n f) d 0) ∙ sym (get_or-take size (drop (k * size) (rows_of n f)) d 0 t)
    ∙ ap (λ row. get_or row d 0) (part_rows size n f h k l)

-- single values one after the other
pub get_or_listed : (n : ℕ) (f : ℕ → ℕ) (k : ℕ) → k < n → get_or (rows_of n (λ i. f i ∷ [])) k 0 ≡ f k
get_or_listed n f k h =
    let one : 0 < 1 = omega arith in
    let place : k * 1 + 0 ≡ k = omega arith in
    ap (λ m. get_or (rows_of n (λ i. f i ∷ [])) m 0) (sym place)
    ∙ sym (get_or-drop (k * 1) (rows_of n (λ i. f i ∷ [])) 0 0)
    ∙ sym (get_or-take 1 (drop (k * 1) (rows_of n (λ i. f i ∷ []))) 0 0 one)
    ∙ ap (λ row. get_or row 0 0) (part_rows 1 n (λ i. f i ∷ []) (λ i. refl) k h)

pub length_listed : (n : ℕ) (f : ℕ → ℕ) → length (rows_of n (λ i. f i ∷ [])) ≡ n
length_listed n f = length_rows 1 n (λ i. f i ∷ []) (λ i. refl) ∙ omega arith

pub row_written : RowWritten
row_written g f h j n a b =
    row_there g (all_rows g f) j n a b ∙ in_group g.each g.size j n (all_rows g f) b
    ∙ ap (part g.size n)
    (part_rows (g.each * g.size) g.groups (λ i. rows_of g.each (f i)) (λ i. length_rows g.size g.each (f i) (h i)) j a)
    ∙ part_rows g.size g.each (f j) (h j) n b

pub rows_read : RowsRead
rows_read g bs e =
    same_rows g.groups (λ j. rows_of g.each (row_at g bs j)) (λ j. part (g.each * g.size) j bs)
    (λ j a.
    same_rows g.each (row_at g bs j) (λ n. part g.size n (part (g.each * g.size) j bs))
    (λ n b. row_there g bs j n a b ∙ in_group g.each g.size j n bs b)
    ∙ rows_parts g.size g.each (part (g.each * g.size) j bs)
    ∙ take-take (g.each * g.size) (g.each * g.size) (drop (j * (g.each * g.size)) bs) (omega arith))
    ∙ rows_parts (g.each * g.size) g.groups bs
    ∙ take_all (g.groups * (g.each * g.size)) bs (omega (arith, e, mul_assoc g.groups g.each g.size))
