-- Lemmas about the blocks of lists: of the concatenation of two or many lists, and of two lists that are
-- combined element by element.
use Rattle.std.proofs.Common.{◌≡◌, ℕ, zero, suc, ◌+◌, ◌-◌, ◌*◌, ◌<◌, ◌≤◌, List, [], ◌∷◌, ◌++◌, length, take}
use Rattle.std.proofs.Common.{drop, refl, sym, ap, ◌∙◌, arith, inl, inr, add-one, length-drop}
use Rattle.std.proofs.Math.Nat.{mul-le-mul, mul-suc}
use Rattle.std.proofs.Math.Seq.{drop-append-add}
use Rattle.std.proofs.lemmas.Bool.{cases_lt}
use Rattle.std.proofs.lemmas.List.{drop_at, drop-append-le, length-take-le, take_all, take-append-le}
use Rattle.std.specs.Simd.Lanes.{zip2}
use Rattle.minisign_kdf.specs.Blocks.{block, joined_lists}
use Rattle.minisign_kdf.proofs.Joined.{joined_lists_next, length-joined_lists}

-- A block before block i ends before block i begins.
pub row_before : (len i k : ℕ) → k < i → len * k + len ≤ len * i
row_before len i k lt =
    let h : len * suc k ≤ len * i = mul-le-mul {n₁ = len} {m₁ = suc k} {n₂ = len} {m₂ = i} (omega arith)
    (omega arith) in
    rw (← mul-suc len k) h

-- If the front of a list has i blocks, each of its first i blocks is a block of the front.
pub block_front : (len i k : ℕ) (p q : List ℕ) → length p ≡ len * i → k < i
    → block len (p ++ q) k ≡ block len p k
block_front len i k p q lp lt =
    let fits : len * k + len ≤ len * i = row_before len i k lt in
    ap (take len) (drop-append-le (len * k) p q (omega arith))
    ∙ take-append-le len (drop (len * k) p) q (omega (arith, length-drop (len * k) p))

-- If the front of a list has i blocks, block i + k of the list is block k of the rest.
pub block_behind : (len i k : ℕ) (p q : List ℕ) → length p ≡ len * i → block len (p ++ q) (i + k)
    ≡ block len q k
block_behind len i k p q lp =
    let at : len * (i + k) ≡ length p + len * k = grind (arith, lp) in
    ap (λ (m : ℕ). take len (drop m (p ++ q))) at ∙ ap (take len) (drop-append-add p q (len * k))

-- A list of one block is its block number 0.
pub block_whole : (len : ℕ) (y : List ℕ) → length y ≡ len → block len y 0 ≡ y
block_whole len y ly =
    let none : len * 0 ≡ 0 = omega arith in
    rw none (take_all len y (omega arith))

-- An appended block is the last block.
pub block_new : (len i : ℕ) (p y : List ℕ) → length p ≡ len * i → length y ≡ len → block len (p ++ y) i ≡ y
block_new len i p y lp ly = ap (take len) (drop_at p y (len * i) lp) ∙ take_all len y (omega arith)

-- The rest of a list of n blocks after the first n - 1 blocks is its last block.
pub block_end : (len n m w : ℕ) (xs : List ℕ) → length xs ≡ len * n → 1 ≤ n → m ≡ len * (n - 1)
    → w ≡ length xs - m → take w (drop m xs) ≡ block len xs (n - 1)
block_end len n m w xs lx some em ew =
    let one : n ≡ suc (n - 1) = omega arith in
    let last : len * n ≡ len * (n - 1) + len = ap (λ (j : ℕ). len * j) one ∙ mul-suc len (n - 1) in
    let width : w ≡ len = omega arith in
    rw (width, em) refl

pub length_end : (len n m : ℕ) (xs : List ℕ) → length xs ≡ len * n → 1 ≤ n → m ≡ len * (n - 1)
    → length (take (length xs - m) (drop m xs)) ≡ len
length_end len n m xs lx some em =
    let one : n ≡ suc (n - 1) = omega arith in
    let last : len * n ≡ len * (n - 1) + len = ap (λ (j : ℕ). len * j) one ∙ mul-suc len (n - 1) in
    let rest : length (drop m xs) ≡ len = omega (arith, length-drop m xs) in
    length-take-le (length xs - m) (drop m xs) (omega arith) ∙ omega arith

-- Block number i of the concatenation of lists of equal length is list number i.
pub block-joined_lists : (f : ℕ → List ℕ) (len n i : ℕ) → ((j : ℕ) → length (f j) ≡ len) → i < n
    → block len (joined_lists f n) i ≡ f i
block-joined_lists f len zero i each lt = absurd (omega arith)
block-joined_lists f len (suc n) i each lt =
    let front : length (joined_lists f n) ≡ len * n = length-joined_lists f len n each ∙ grind arith in
    ap (λ (l : List ℕ). block len l i) (ap (joined_lists f) (sym (add-one n)) ∙ joined_lists_next f n)
    ∙ (elim (cases_lt i n) [
      | inl before ↦ block_front len n i (joined_lists f n) (f n) front before
          ∙ block-joined_lists f len n i each before
      | inr past ↦
          let e : i ≡ n = omega arith in
          rw e (block_new len n (joined_lists f n) (f n) front (each n))
    ])

take-zip2 : (f : ℕ → ℕ → ℕ) (n : ℕ) (xs ys : List ℕ) → take n (zip2 f xs ys) ≡ zip2 f (take n xs) (take n ys)
take-zip2 f zero xs ys = refl
take-zip2 f (suc n) [] ys = refl
take-zip2 f (suc n) (x ∷ xs) [] = refl
take-zip2 f (suc n) (x ∷ xs) (y ∷ ys) = ap (λ (l : List ℕ). f x y ∷ l) (take-zip2 f n xs ys)

drop-zip2 : (f : ℕ → ℕ → ℕ) (n : ℕ) (xs ys : List ℕ) → length xs ≡ length ys
    → drop n (zip2 f xs ys) ≡ zip2 f (drop n xs) (drop n ys)
drop-zip2 f zero xs ys e = refl
drop-zip2 f (suc n) [] ys e = refl
drop-zip2 f (suc n) (x ∷ xs) [] e = absurd (omega arith)
drop-zip2 f (suc n) (x ∷ xs) (y ∷ ys) e = drop-zip2 f n xs ys (omega arith)

-- A slice of two lists that are combined element by element is the combination of their slices.
pub cut-zip2 : (f : ℕ → ℕ → ℕ) (n k : ℕ) (xs ys : List ℕ) → length xs ≡ length ys
    → take n (drop k (zip2 f xs ys)) ≡ zip2 f (take n (drop k xs)) (take n (drop k ys))
cut-zip2 f n k xs ys e = ap (take n) (drop-zip2 f k xs ys e) ∙ take-zip2 f n (drop k xs) (drop k ys)

pub zip2-append : (f : ℕ → ℕ → ℕ) (a b c d : List ℕ) → length a ≡ length b → zip2 f (a ++ c) (b ++ d)
    ≡ zip2 f a b ++ zip2 f c d
zip2-append f [] [] c d e = refl
zip2-append f [] (y ∷ b) c d e = absurd (omega arith)
zip2-append f (x ∷ a) [] c d e = absurd (omega arith)
zip2-append f (x ∷ a) (y ∷ b) c d e = ap (λ (l : List ℕ). f x y ∷ l) (zip2-append f a b c d (omega arith))

-- The concatenation of blocks of equal length that are combined element by element is the
-- combination of the concatenations.
pub joined_lists-zip2 : (f : ℕ → ℕ → ℕ) (g h : ℕ → List ℕ) (len n : ℕ) → ((j : ℕ) → length (g j) ≡ len)
    → ((j : ℕ) → length (h j) ≡ len)
    → joined_lists (λ j. zip2 f (g j) (h j)) n ≡ zip2 f (joined_lists g n) (joined_lists h n)
unfolding joined_lists
joined_lists-zip2 f g h len zero lg lh = refl
joined_lists-zip2 f g h len (suc n) lg lh =
    let front : length (joined_lists g n) ≡ length (joined_lists h n) = length-joined_lists g len n lg
    ∙ sym (length-joined_lists h len n lh) in
    ap (joined_lists (λ (j : ℕ). zip2 f (g j) (h j))) (sym (add-one n))
    ∙ joined_lists_next (λ (j : ℕ). zip2 f (g j) (h j)) n
    ∙ ap (λ (l : List ℕ). l ++ zip2 f (g n) (h n)) (joined_lists-zip2 f g h len n lg lh)
    ∙ sym (zip2-append f (joined_lists g n) (joined_lists h n) (g n) (h n) front)
    ∙ (λ t. zip2 f ((sym (joined_lists_next g n) ∙ ap (joined_lists g) (add-one n)) t)
    ((sym (joined_lists_next h n) ∙ ap (joined_lists h) (add-one n)) t))
