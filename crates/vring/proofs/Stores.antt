-- Programs over memory as it stands.
use Rattle.std.proofs.Common.{◌≡◌, ℕ, zero, suc, ◌+◌, ◌≤◌, List, [], ◌∷◌, length, get_or, take, drop, set, sym, refl, ap, ◌∙◌, add-one, arith, drop-cons}
use borrow.Rule.Slice.PartMut.{put_mid}
use denote.Ref.{at_last}
use Rattle.std.proofs.lemmas.List.{drop-drop, length-set}
use Rattle.vring.specs.Words.{set_bytes}
use Rattle.vring.specs.Programs.{Prog, ret, get, put, ends, leaves, get_bytes, put_bytes}
use Rattle.vring.specs.Plain.{plain, plain_reads, plain_wrote, lent}
use Rattle.vring.specs.declared.plain.Plain.{Plain}
use Rattle.vring.proofs.Binds.{ends_then, leaves_then}
use Rattle.vring.proofs.Bytes.{set_length, set_none, set_more}

-- lent bytes are as the bytes themselves
pub lent_leaves : {A : Type 0} (p : Prog A) (s : Plain) → leaves lent p s ≡ record { bytes = at_last s.bytes (leaves plain p s.bytes.now) }
lent_leaves (ret x) s = refl
lent_leaves (get w a k) s = lent_leaves (k (plain_reads s.bytes.now w a)) s
lent_leaves (put w a v p) s = lent_leaves p (record { bytes = at_last s.bytes (plain_wrote s.bytes.now w a v) })

pub lent_ends : {A : Type 0} (p : Prog A) (s : Plain) → ends lent p s ≡ ends plain p s.bytes.now
lent_ends (ret x) s = refl
lent_ends (get w a k) s = lent_ends (k (plain_reads s.bytes.now w a)) s
lent_ends (put w a v p) s = lent_ends p (record { bytes = at_last s.bytes (plain_wrote s.bytes.now w a v) })

-- as a caller sees it: still the same lent bytes, and they hold what the program leaves of them
pub lent_holds : {A : Type 0} (p : Prog A) (s t : Plain) → t ≡ leaves lent p s → (s.bytes.ghost_name ≡ t.bytes.ghost_name) × (t.bytes.now ≡ leaves plain p s.bytes.now)
lent_holds p s t e = let k = e ∙ lent_leaves p s in (sym (ap (λ (x : Plain). x.bytes.ghost_name) k), ap (λ (x : Plain). x.bytes.now) k)

-- a row of bytes written is put there
pub plain_put : (a : ℕ) (xs m : List ℕ) → a + length xs ≤ length m → leaves plain (put_bytes a xs) m ≡ set_bytes m a xs
unfolding put_bytes
plain_put a [] m h = sym (set_none m a (omega arith))
plain_put a (x ∷ xs) m h =
    let k : length (set m a x) ≡ length m = length-set m a x in
    plain_put (a + 1) xs (set m a x) (omega arith) ∙ set_more m a x xs (omega arith)

-- a row of bytes read is the part that stands there
pub plain_get : (n a : ℕ) (m : List ℕ) → a + n ≤ length m → (ends plain (get_bytes n a) m ≡ take n (drop a m)) × (leaves plain (get_bytes n a) m ≡ m)
unfolding get_bytes
plain_get zero a m h = (refl, refl)
plain_get (suc n) a m h =
    let k = λ (xs : List ℕ). ret (get_or m a 0 ∷ xs) in
    let ih = plain_get n (a + 1) m (omega arith) in
    let d = drop-cons m a 0 (omega arith) in (
      ends_then plain (get_bytes n (a + 1)) k m ∙ (ap (λ xs. get_or m a 0 ∷ xs) (ih.0 ∙ ap (λ j. take n (drop j m)) (add-one a)) ∙ ap (take (suc n)) (sym d)),
      leaves_then plain (get_bytes n (a + 1)) k m ∙ ih.1,
    )

-- a middle part that was written as a whole
pub put_middle : (m ys xs : List ℕ) (a k : ℕ) → ys ≡ xs → k ≡ length xs → put_mid a k m ys ≡ set_bytes m a xs
unfolding set_bytes
put_middle m ys xs a k e h = rw (e, h, drop-drop)

pub put_part : (m ys xs : List ℕ) (a k : ℕ) → ys ≡ xs → k ≡ length xs → a + length xs ≤ length m → put_mid a k m ys ≡ leaves plain (put_bytes a xs) m
put_part m ys xs a k e h l = put_middle m ys xs a k e h ∙ sym (plain_put a xs m l)

pub put_long : (m xs : List ℕ) (a : ℕ) → a + length xs ≤ length m → length (leaves plain (put_bytes a xs) m) ≡ length m
put_long m xs a l = ap length (plain_put a xs m l) ∙ set_length m a xs l
