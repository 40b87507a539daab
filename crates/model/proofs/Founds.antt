-- What the guest finds in memory after a chain was finished.
use Rattle.std.proofs.Common.{◌≡◌, ℕ, ◌+◌, ◌-◌, ◌/◌, ◌%◌, ◌<◌, ◌≤◌, true, false, List, [], ◌∷◌, ◌++◌, length, get_or, take, drop, sym, refl, ap, ◌∙◌, inl, inr, arith}
use Rattle.std.proofs.lemmas.List.{ext_get_or, length-take, length-take-le, length-drop, length-append, get_or_append_left, get_or-append_right, get_or-take, get_or-drop}
use Rattle.std.proofs.lemmas.Bool.{cases_Bool, cases_lt}
use Rattle.vring.specs.Words.{word, two, set_bytes}
use Rattle.vring.specs.Rings.{Ring, used_at, entry_at}
use Rattle.vring.proofs.Bytes.{set_length, set_inside, set_above, two_length}
use Rattle.chains.specs.Descriptors.{writable}
use Rattle.chains.specs.Laws.{AllFit}
use Rattle.chains.specs.declared.descriptor.Descriptor.{Descriptor}
use Rattle.chains.specs.declared.region.Region.{Region}
use Rattle.transfer.specs.Responses.{capacity, filled, following, used, finished}
use Rattle.transfer.proofs.Plainly.{put_fits, filled_length}
use Rattle.model.specs.Serving.{regions}
use Rattle.model.specs.Promises.{InPart, Writes}
use Rattle.model.specs.Meanings.{read_back, Apart, Found}
use Rattle.model.proofs.Rings.{Stands, stands, entry_within}
use Rattle.model.proofs.Looks.{writes_clear, part_same}
use Rattle.model.proofs.Acts.{within_all, filled_where, entry_length, put_entry, put_count, used_length, used_where, used_behind, filled_long, filled_stands}

-- ## The response
-- one writable part: it holds the first bytes, and the list g the others
front : (d : Descriptor) (xs m m' g : List ℕ) → d.addr + d.len ≤ length m → length m' ≡ length m →
    ((a : ℕ) → InPart d a → get_or m' a 0 ≡ get_or (set_bytes m d.addr (take d.len xs)) a 0) →
    ((j : ℕ) → j < length xs - d.len → get_or g j 0 ≡ get_or xs (d.len + j) 0) →
    (k : ℕ) → k < length xs → get_or (take d.len (drop d.addr m') ++ g) k 0 ≡ get_or xs k 0
front d xs m m' g h e same rest k l =
    let pl : length (take d.len (drop d.addr m')) ≡ d.len = simp (length-take, length-drop) (omega arith) in
    let tl : length (take d.len xs) ≤ d.len = simp length-take (omega arith) in
    elim (cases_lt k d.len) [
      | inl lt ↦
          get_or_append_left (take d.len (drop d.addr m')) g 0 k (omega arith)
          ∙ get_or-take d.len (drop d.addr m') k 0 lt
          ∙ get_or-drop d.addr m' k 0
          ∙ same (d.addr + k) (omega arith, omega arith)
          ∙ set_inside m d.addr (take d.len xs) (d.addr + k) (omega arith) (omega arith) (omega (arith, length-take d.len xs))
          ∙ ap (λ (j : ℕ). get_or (take d.len xs) j 0) (omega arith)
          ∙ get_or-take d.len xs k 0 lt
      | inr ge ↦
          get_or-append_right (take d.len (drop d.addr m')) g d.len k 0 pl ge
          ∙ rest (k - d.len) (omega arith)
          ∙ ap (λ (j : ℕ). get_or xs j 0) (omega arith)
    ]

filled_write : (d : Descriptor) (ds : List Descriptor) (xs m : List ℕ) → writable d ≡ true → filled (d ∷ ds) xs m ≡ filled ds (drop d.len xs) (set_bytes m d.addr (take d.len xs))
unfolding filled
filled_write d ds xs m y = rw y

filled_read : (d : Descriptor) (ds : List Descriptor) (xs m : List ℕ) → writable d ≡ false → filled (d ∷ ds) xs m ≡ filled ds xs m
unfolding filled
filled_read d ds xs m y = rw y

-- the response stands in the writable parts, in order
filled_back : (gs : List Region) (n : ℕ) (ds : List Descriptor) (xs m : List ℕ) → length m ≡ n → AllFit gs n ds → Apart ds → length xs ≤ capacity ds →
    (k : ℕ) → k < length xs → get_or (read_back (filled ds xs m) ds) k 0 ≡ get_or xs k 0
unfolding capacity
filled_back gs n [] xs m e f apt h k l = absurd (omega arith)
filled_back gs n (d ∷ ds) xs m e f apt h k l =
    elim (cases_Bool (writable d)) [
      | inl y ↦
          let m₁ : List ℕ = set_bytes m d.addr (take d.len xs) in
          let e₁ : length m₁ ≡ n = set_length m d.addr (take d.len xs) (put_fits n d xs m e f.0.inside) ∙ e in
          let h₁ : length xs ≤ d.len + capacity ds = rw y at h in
          let h₂ : length (drop d.len xs) ≤ capacity ds = simp length-drop (omega arith) in
          let m₂ : List ℕ = filled ds (drop d.len xs) m₁ in
          let e₂ : length m₂ ≡ n = filled_length n ds (drop d.len xs) m₁ e₁ (within_all gs n ds f.1) in
          ap (λ (v : List ℕ). get_or (read_back v (d ∷ ds)) k 0) (filled_write d ds xs m y)
          ∙ rw y (front d xs m m₂ (read_back m₂ ds) (omega (arith, f.0.inside)) (e₂ ∙ sym e)
          (λ a p. elim (filled_where gs n ds (drop d.len xs) m₁ e₁ f.1 a) [ inl s ↦ s | inr w ↦ absurd (apt.0 a y p w) ])
          (λ j lj. filled_back gs n ds (drop d.len xs) m₁ e₁ f.1 apt.1 h₂ j (simp length-drop lj) ∙ get_or-drop d.len xs j 0)
          k l)
      | inr y ↦
          ap (λ (v : List ℕ). get_or (read_back v (d ∷ ds)) k 0) (filled_read d ds xs m y)
          ∙ rw y (filled_back gs n ds xs m e f.1 apt.1 (let h₁ = rw y at h in omega arith) k l)
    ]

read_back_same : (m m' : List ℕ) (ds : List Descriptor) → length m' ≡ length m → ((a : ℕ) → Writes ds a → get_or m' a 0 ≡ get_or m a 0) → read_back m' ds ≡ read_back m ds
read_back_same m m' [] e h = refl
read_back_same m m' (d ∷ ds) e h =
    let ih = read_back_same m m' ds e (λ a p. h a (inr p)) in
    elim (cases_Bool (writable d)) [
      | inl y ↦ rw (y, ih, part_same m m' d.addr d.len e (λ k l g. h k (inl (y, (l, g)))))
      | inr y ↦ rw (y, ih)
    ]

read_back_length : (gs : List Region) (m : List ℕ) (ds : List Descriptor) → AllFit gs (length m) ds → length (read_back m ds) ≡ capacity ds
unfolding capacity
read_back_length gs m [] f = refl
read_back_length gs m (d ∷ ds) f =
    let ih = read_back_length gs m ds f.1 in
    let i = f.0.inside in
    elim (cases_Bool (writable d)) [
      | inl y ↦ rw y (simp (length-append, length-take, length-drop) (omega arith))
      | inr y ↦ rw y (omega arith)
    ]

-- a list whose first elements are those of another
begins : (xs ys : List ℕ) → length xs ≤ length ys → ((k : ℕ) → k < length xs → get_or ys k 0 ≡ get_or xs k 0) → take (length xs) ys ≡ xs
begins xs ys h same =
    let e = length-take-le (length xs) ys h in
    ext_get_or 0 (take (length xs) ys) xs e (λ k l. let b : k < length xs = omega arith in get_or-take (length xs) ys k 0 b ∙ same k b)

-- ## The used ring
word_two : (m : List ℕ) (a v : ℕ) → get_or m a 0 ≡ v % 256 → get_or m (a + 1) 0 ≡ v / 256 % 256 → word m a ≡ v % 65536
word_two m a v p q = omega arith

module _ (r : Ring) (k i n : ℕ) (m : List ℕ) (st : Stands r (length m)) where
  used_byte : (j : ℕ) → j < 2 → get_or (used r k i n m) (used_at r + j) 0 ≡ get_or (two (following k)) j 0
  unfolding used
  used_byte j l =
      let c = put_count r k i n m st in
      set_inside (set_bytes m (entry_at r k) (two i ++ two n)) (used_at r) (two (following k)) (used_at r + j) c (omega arith) (omega (arith, two_length (following k)))
      ∙ ap (λ (a : ℕ). get_or (two (following k)) a 0) (omega arith)

  used_count : word (used r k i n m) (used_at r) ≡ following k
  unfolding two
  used_count =
      word_two (used r k i n m) (used_at r) (following k) (ap (λ (a : ℕ). get_or (used r k i n m) a 0) (omega arith) ∙ used_byte 0 (omega arith)) (used_byte 1 (omega arith))
      ∙ omega arith

  used_entry : (j : ℕ) → j < 4 → get_or (used r k i n m) (entry_at r k + j) 0 ≡ get_or (two i ++ two n) j 0
  unfolding used
  used_entry j l =
      let w = entry_within r k (length m) st in
      let el = entry_length i n in
      set_above (set_bytes m (entry_at r k) (two i ++ two n)) (used_at r) (two (following k)) (entry_at r k + j) (put_count r k i n m st) (omega (arith, two_length (following k)))
      ∙ set_inside m (entry_at r k) (two i ++ two n) (entry_at r k + j) (put_entry r k i n m st) (omega arith) (omega arith)
      ∙ ap (λ (a : ℕ). get_or (two i ++ two n) a 0) (omega arith)

  used_head : word (used r k i n m) (entry_at r k) ≡ i % 65536
  unfolding two
  used_head =
      word_two (used r k i n m) (entry_at r k) i
      (ap (λ (a : ℕ). get_or (used r k i n m) a 0) (omega arith) ∙ used_entry 0 (omega arith)) (used_entry 1 (omega arith))

  used_long : word (used r k i n m) (entry_at r k + 2) ≡ n % 65536
  unfolding two
  used_long =
      word_two (used r k i n m) (entry_at r k + 2) n (used_entry 2 (omega arith))
      (ap (λ (a : ℕ). get_or (used r k i n m) a 0) (omega arith) ∙ used_entry 3 (omega arith))

-- ## All of it
module _ (r : Ring) (k i : ℕ) (ds : List Descriptor) (xs m : List ℕ) (st : Stands r (length m)) (f : AllFit (regions r) (length m) ds) where
  fs : Stands r (length (filled ds xs m))
  fs = filled_stands r ds xs m f st

  -- what is used lies in no writable part
  back_same : read_back (used r k i (length xs) (filled ds xs m)) ds ≡ read_back (filled ds xs m) ds
  back_same =
      read_back_same (filled ds xs m) (used r k i (length xs) (filled ds xs m)) ds (used_length r k i (length xs) (filled ds xs m) fs)
      (λ a w. elim (used_where r k i (length xs) (filled ds xs m) fs a) [
        | inl e ↦ e
        | inr u ↦ let p = used_behind r k (length m) a st u in let v = writes_clear r (length m) ds a f w in absurd (omega arith)
      ])

  back : Apart ds → length xs ≤ capacity ds → take (length xs) (read_back (used r k i (length xs) (filled ds xs m)) ds) ≡ xs
  back apt h =
      let fit : AllFit (regions r) (length (filled ds xs m)) ds = rw (filled_long r ds xs m f) f in
      let e = read_back_length (regions r) (filled ds xs m) ds fit in
      rw back_same (begins xs (read_back (filled ds xs m) ds) (omega arith) (filled_back (regions r) (length m) ds xs m refl f apt h))

pub found : Found
unfolding finished
found r k i ds xs m ok f h =
    let st = stands r (length m) ok in
    let fs = filled_stands r ds xs m f st in (
      used_count r k i (length xs) (filled ds xs m) fs,
      used_head r k i (length xs) (filled ds xs m) fs,
      used_long r k i (length xs) (filled ds xs m) fs,
      λ apt. back r k i ds xs m st f apt h,
    )
