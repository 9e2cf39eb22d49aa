-- Lemmas about the state and the buffer while a message grows.
use Rattle.std.proofs.Common.{◌≡◌, ℕ, zero, suc, ◌+◌, ◌-◌, ◌*◌, ◌/◌, ◌%◌, ◌^◌, ◌<◌, ◌≤◌, true, false, List}
use Rattle.std.proofs.Common.{[], ◌++◌, length, take, drop, replicate, refl, sym, ap, ◌∙◌, arith}
use Rattle.std.proofs.Common.{length-append, length-drop}
use Rattle.std.proofs.lemmas.List.{append-nil, drop-append-le, drop-drop, drop_all, drop_at, length-take-le}
use Rattle.std.proofs.lemmas.List.{take-append-le, take_all}
use Rattle.minisign_hash.specs.Blake2b.{blake2b_digest, compress, padded_block, state_after}
use Rattle.minisign_hash.specs.Words.{bytes_of_words64, words64_of}
use Rattle.minisign_hash.specs.Fed.{HeldAfter}

-- The state after i blocks depends only on these blocks.
pub state_after-append : (n : ℕ) (m d : List ℕ) (i : ℕ) → 128 * i ≤ length m → state_after n (m ++ d) i
    ≡ state_after n m i
unfolding state_after padded_block
state_after-append n m d zero h = refl
state_after-append n m d (suc i) h =
    let fits : 128 ≤ length (drop (128 * i) m) = omega (arith, length-drop (128 * i) m) in
    let same : take 128 (drop (128 * i) (m ++ d)) ≡ take 128 (drop (128 * i) m) =
    rw (drop-append-le (128 * i) m d (omega arith)) (take-append-le 128 (drop (128 * i) m) d fits) in
    rw (same, state_after-append n m d i (omega arith)) refl

-- Padding does not change a whole block.
pub block_whole : (m b : List ℕ) (i : ℕ) → b ≡ drop (128 * i) m → length b ≡ 128 → padded_block m i ≡ b
unfolding padded_block
block_whole m b i e full =
    let part : take 128 (drop (128 * i) m) ≡ b = rw (← e) (take_all 128 b (omega arith)) in
    rw (part, full) (append-nil b)

-- The last block is the remaining bytes followed by zeros.
pub block_rest : (m b : List ℕ) (i used : ℕ) → b ≡ drop (128 * i) m → length b ≡ used → used ≤ 128
    → padded_block m i ≡ b ++ replicate (128 - used) 0
unfolding padded_block
block_rest m b i used e len fits =
    let part : take 128 (drop (128 * i) m) ≡ b = rw (← e) (take_all 128 b (omega arith)) in
    rw (part, len) refl

-- The first state, with an empty buffer, holds the empty message.
pub holds_empty : (n : ℕ) (h buffer : List ℕ) → h ≡ state_after n [] 0 → HeldAfter n h 0 buffer 0 [] 0
holds_empty n h buffer e = record { len = refl; state = e; rest = refl; counted = refl }

-- Appending bytes to the buffer appends them to the message that the state holds.
pub holds_appended : (n : ℕ) (h : List ℕ) (count : ℕ) (b c : List ℕ) (used : ℕ) (m d : List ℕ) (i : ℕ)
    → HeldAfter n h count b used m i
    → take (used + length d) c ≡ take used b ++ d → HeldAfter n h count c (used + length d) (m ++ d) i
holds_appended n h count b c used m d i held e = record {
  len = length-append m d ∙ omega (arith, held.len);
  state = held.state ∙ sym (state_after-append n m d i (omega (arith, held.len)));
  rest = e ∙ rw (held.rest, drop-append-le (128 * i) m d (omega (arith, held.len))) refl;
  counted = held.counted;
}

-- If the bytes `blocks` follow the first i blocks of the message, block k of these bytes is block
-- i + k of the message.
pub block_ahead : (m blocks behind : List ℕ) (i k : ℕ) → drop (128 * i) m ≡ blocks ++ behind
    → 128 * k + 128 ≤ length blocks
    → padded_block m (i + k) ≡ take 128 (drop (128 * k) blocks)
unfolding padded_block
block_ahead m blocks behind i k ahead fits =
    let place : 128 * (i + k) ≡ 128 * i + 128 * k = omega arith in
    let here : drop (128 * (i + k)) m ≡ drop (128 * k) blocks ++ behind =
    ap (λ (j : ℕ). drop j m) place ∙ sym (drop-drop (128 * k) (128 * i) m) ∙ ap (drop (128 * k)) ahead
    ∙ drop-append-le (128 * k) blocks behind (omega arith) in
    let enough : 128 ≤ length (drop (128 * k) blocks) = omega (arith, length-drop (128 * k) blocks) in
    let part : take 128 (drop (128 * (i + k)) m) ≡ take 128 (drop (128 * k) blocks) = ap (take 128) here
    ∙ take-append-le 128 (drop (128 * k) blocks) behind enough in
    let size : length (take 128 (drop (128 * k) blocks)) ≡ 128 = length-take-le 128
    (drop (128 * k) blocks) enough in
    rw (part, size) (append-nil (take 128 (drop (128 * k) blocks)))

-- Compressing the next block gives the state after one more block.
pub state_next : (n : ℕ) (m blocks behind : List ℕ) (i k : ℕ) (h g : List ℕ) (t : ℕ)
    → drop (128 * i) m ≡ blocks ++ behind → 128 * k + 128 ≤ length blocks
    → h ≡ state_after n m (i + k) → t ≡ 128 * (i + k + 1) % 2 ^ 128
    → g ≡ compress h (words64_of (take 128 (drop (128 * k) blocks))) t false
    → g ≡ state_after n m (i + (k + 1))
unfolding state_after
state_next n m blocks behind i k h g t ahead fits eh et eg =
    let place : i + (k + 1) ≡ suc (i + k) = omega arith in
    eg ∙ rw (et, eh, place, block_ahead m blocks behind i k ahead fits) refl

-- After the remaining s bytes, which are whole blocks, have been compressed, the state holds the
-- message with an empty buffer.
pub holds_after_blocks : (n : ℕ) (g : List ℕ) (count k : ℕ) (b : List ℕ) (used : ℕ) (m : List ℕ) (i s : ℕ)
    → used ≡ 0
    → length m ≡ 128 * i + s → s % 128 ≡ 0
    → count ≡ 128 * i % 2 ^ 128 → k ≡ (count + s) % 2 ^ 128 → g ≡ state_after n m (i + s / 128)
    → HeldAfter n g k b used m (i + s / 128)
holds_after_blocks n g count k b used m i s none len whole ec ek eg =
    let taken : take used b ≡ [] = rw none refl in
    record {
      len = omega (arith, len, whole, none);
      state = eg;
      rest = taken ∙ sym (drop_all (128 * (i + s / 128)) m (omega (arith, len, whole)));
      counted = omega (arith, ec, ek, whole);
    }

-- Compressing the bytes after the whole blocks as the last block gives the digest.
pub last_block_gives_digest : (n : ℕ) (h m blocks last : List ℕ) (i k : ℕ) → drop (128 * i) m ≡ blocks ++ last
    → length m ≡ 128 * i + length (blocks ++ last)
    → length blocks % 128 ≡ 0 → length last ≤ 128 → (0 < length m → 0 < length last)
    → h ≡ state_after n m (i + length blocks / 128)
    → k ≡ length m % 2 ^ 128
    → take n (bytes_of_words64 (compress h (words64_of (last ++ replicate (128 - length last) 0)) k true))
    ≡ blake2b_digest n m
unfolding blake2b_digest
last_block_gives_digest n h m blocks last i k ahead len whole fits some eh ek =
    let j : ℕ = i + length blocks / 128 in
    let both : length (blocks ++ last) ≡ length blocks + length last = length-append blocks last in
    let number : (length m - 1) / 128 ≡ j = grind (arith, len, both, whole, some, fits) in
    let place : 128 * j ≡ 128 * i + length blocks = omega (arith, whole) in
    let rest : last ≡ drop (128 * j) m =
    sym (ap (λ (p : ℕ). drop p m) place ∙ sym (drop-drop (length blocks) (128 * i) m)
    ∙ ap (drop (length blocks)) ahead ∙ drop_at blocks last (length blocks) refl) in
    let this : padded_block m j ≡ last ++ replicate (128 - length last) 0 = block_rest m last j
    (length last) rest refl fits in
    rw (number, this, ek, eh) refl
