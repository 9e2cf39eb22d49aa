-- Lemmas about joined_lists, the concatenation of the first lists of a sequence.
use Rattle.std.proofs.Common.{◌≡◌, ℕ, zero, suc, ◌+◌, ◌*◌, ◌<◌, List, [], ◌++◌, length, length-append, refl}
use Rattle.std.proofs.Common.{sym, ap, ◌∙◌, arith, append_assoc, add-one, add-zero, zero-add}
use Rattle.std.proofs.Math.Nat.{suc-mul}
use Rattle.std.proofs.lemmas.List.{append-nil}
use Rattle.std.specs.List.{flat_map, range_with_len}
use Rattle.minisign_kdf.specs.Blocks.{joined_lists}

range_next : (f : ℕ → List ℕ) (a n : ℕ) → flat_map f (range_with_len a (suc n))
    ≡ flat_map f (range_with_len a n) ++ f (a + n)
range_next f a zero = rw (add-zero) (append-nil (f a))
range_next f a (suc n) =
    let e : a + 1 + n ≡ a + suc n = omega arith in
    ap (λ (l : List ℕ). f a ++ l)
    (range_next f (a + 1) n ∙ ap (λ (k : ℕ). flat_map f (range_with_len (a + 1) n) ++ f k) e)
    ∙ sym (append_assoc (f a) (flat_map f (range_with_len (a + 1) n)) (f (a + suc n)))

pub joined_lists_none : (f : ℕ → List ℕ) → joined_lists f 0 ≡ []
unfolding joined_lists
joined_lists_none f = refl

pub joined_lists_next : (f : ℕ → List ℕ) (n : ℕ) → joined_lists f (n + 1) ≡ joined_lists f n ++ f n
unfolding joined_lists
joined_lists_next f n = rw add-one
    (range_next f 0 n ∙ ap (λ (k : ℕ). flat_map f (range_with_len 0 n) ++ f k) (zero-add n))

pub length-joined_lists : (f : ℕ → List ℕ) (k n : ℕ) → ((i : ℕ) → length (f i) ≡ k)
    → length (joined_lists f n) ≡ n * k
length-joined_lists f k zero each = ap length (joined_lists_none f) ∙ omega arith
length-joined_lists f k (suc n) each =
    let before : length (joined_lists f n) ≡ n * k = length-joined_lists f k n each in
    ap (λ (m : ℕ). length (joined_lists f m)) (sym (add-one n)) ∙ ap length (joined_lists_next f n)
    ∙ length-append (joined_lists f n) (f n) ∙ (λ t. before t + each n t) ∙ sym (suc-mul n k)

-- Joining n + m lists is joining the first n, and then the m after them.
pub joined_lists_split : (f : ℕ → List ℕ) (n m : ℕ) → joined_lists f (n + m) ≡ joined_lists f n
    ++ joined_lists (λ j. f (n + j)) m
joined_lists_split f n zero = ap (joined_lists f) (add-zero n) ∙ sym (append-nil (joined_lists f n))
    ∙ ap (λ (l : List ℕ). joined_lists f n ++ l) (sym (joined_lists_none (λ (j : ℕ). f (n + j))))
joined_lists_split f n (suc m) =
    let e : n + suc m ≡ n + m + 1 = omega arith in
    ap (joined_lists f) e ∙ joined_lists_next f (n + m)
    ∙ ap (λ (l : List ℕ). l ++ f (n + m)) (joined_lists_split f n m)
    ∙ append_assoc (joined_lists f n) (joined_lists (λ j. f (n + j)) m) (f (n + m))
    ∙ ap (λ (l : List ℕ). joined_lists f n ++ l) (sym (joined_lists_next (λ (j : ℕ). f (n + j)) m)
    ∙ ap (joined_lists (λ (j : ℕ). f (n + j))) (add-one m))

-- Functions that agree below n give the same joined list.
pub joined_lists_same : (f g : ℕ → List ℕ) (n : ℕ) → ((j : ℕ) → j < n → f j ≡ g j)
    → joined_lists f n ≡ joined_lists g n
joined_lists_same f g zero same = joined_lists_none f ∙ sym (joined_lists_none g)
joined_lists_same f g (suc n) same =
    ap (joined_lists f) (sym (add-one n)) ∙ joined_lists_next f n
    ∙ (λ t. joined_lists_same f g n (λ j lt. same j (omega arith)) t ++ same n (omega arith) t)
    ∙ sym (joined_lists_next g n) ∙ ap (joined_lists g) (add-one n)
