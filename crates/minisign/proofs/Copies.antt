-- Lemmas about what an output received of data that was copied in part.
use Rattle.std.proofs.Common.{◌≡◌, ℕ, List, [], ◌++◌, Option, None, Some, append-nil, ap, refl, sym, subst}
use Rattle.std.proofs.Common.{◌∙◌}
use Rattle.minisign.proofs.Common.{append_known, Appends, Consumes, Keeps, AppendsPrefix, EqualIfSecondKnown}
use Rattle.minisign.proofs.Common.{AppendsPrefix-after, AppendsPrefix-keeps, AppendsPrefix-more}
use Rattle.minisign.specs.Reading.{KnownBytesAre}

-- A sink that received all of a text received a prefix of the text.
pub prefix_of_all : (a b c : Option (List ℕ)) (bs : List ℕ) → Appends a b bs → Keeps b c
    → AppendsPrefix a c bs
prefix_of_all a b c bs all kept =
    rw (append-nil bs) at (AppendsPrefix-after a b c bs [] all (AppendsPrefix-keeps b c [] kept))

-- A prefix of the bytes read so far is a prefix of all the unread bytes.
pub prefix_of_ahead : (ahead now old new : Option (List ℕ)) (bs : List ℕ) → Consumes ahead now bs
    → AppendsPrefix old new bs
    → (message : List ℕ) × KnownBytesAre ahead message × AppendsPrefix old new message
prefix_of_ahead None _ _ _ bs _ front = (bs, tt, front)
prefix_of_ahead (Some _) None _ _ _ read _ = absurd read
prefix_of_ahead (Some xs) (Some ys) old new bs read front =
    (xs, refl, rw (sym read) at (AppendsPrefix-more old new bs ys front))

-- Before anything is read, an output that received nothing received a prefix of all the unread
-- bytes.
pub prefix_of_nothing : (ahead old new : Option (List ℕ)) → Keeps old new
    → (message : List ℕ) × KnownBytesAre ahead message × AppendsPrefix old new message
prefix_of_nothing None _ _ kept = ([], tt, AppendsPrefix-keeps _ _ [] kept)
prefix_of_nothing (Some xs) _ _ kept = (xs, refl, AppendsPrefix-keeps _ _ xs kept)

-- The bytes of an unchanged sink are kept.
pub keeps_same : (known : Option (List ℕ)) → Keeps known known
keeps_same None = tt
keeps_same (Some _) = refl

-- A sink that received bytes and is unchanged after that has received these bytes.
pub received_and_kept : (a b c : Option (List ℕ)) (bs : List ℕ) → Appends a b bs → Keeps b c → Appends a c bs
received_and_kept None b c _ _ _ = tt
received_and_kept (Some x) None c _ all _ = absurd all
received_and_kept (Some x) (Some y) None _ _ kept = absurd kept
received_and_kept (Some x) (Some y) (Some z) _ all kept = kept ∙ all

-- If a was read so far and b is read next, then a followed by b was read.
pub known_bytes_append : (old new : Option (List ℕ)) (a b : List ℕ) → KnownBytesAre old a
    → new ≡ append_known old b
    → KnownBytesAre new (a ++ b)
known_bytes_append None _ a b _ more = subst (λ known. KnownBytesAre known (a ++ b)) (sym more) tt
known_bytes_append (Some _) _ a b given more = subst (λ known. KnownBytesAre known (a ++ b)) (sym more)
    (ap (λ (l : List ℕ). l ++ b) given)

-- If the bytes read so far are unchanged, or are not known any more, what is known of them still holds.
pub known_bytes_kept : (old new : Option (List ℕ)) (a : List ℕ) → KnownBytesAre old a
    → EqualIfSecondKnown old new
    → KnownBytesAre new a
known_bytes_kept _ None a _ _ = tt
known_bytes_kept _ (Some _) a given kept = rw kept at given
