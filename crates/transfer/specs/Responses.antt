-- Where a response goes, and how a chain is said to be used.
use Rattle.std.specs.Prelude.{ℕ, ◌+◌, ◌%◌, ◌<◌, ◌≤◌, cond, List, [], ◌∷◌, ◌++◌, length, take, drop, slice_index_or}
use Rattle.vring.specs.Words.{two, set_bytes}
use Rattle.vring.specs.Programs.{Prog, ret, put, then, pair, put_bytes}
use Rattle.vring.specs.Rings.{Ring, used_at, entry_at}
use Rattle.chains.specs.Descriptors.{writable}
use Rattle.chains.specs.declared.descriptor.Descriptor.{Descriptor}

-- the capacity: how long the writable descriptors are together
unfoldable pub capacity : List Descriptor → ℕ
capacity [] = 0
capacity (d ∷ ds) = cond (writable d) d.len 0 + capacity ds

-- memory with a response in the writable descriptors, in order; what finds no place is cut off
unfoldable pub filled : List Descriptor → (response memory : List ℕ) → List ℕ
filled [] xs m = m
filled (d ∷ ds) xs m = cond (writable d) (filled ds (drop d.len xs) (set_bytes m d.addr (take d.len xs))) (filled ds xs m)

-- how it is written there
unfoldable pub fill_prog : List Descriptor → (response : List ℕ) → Prog (Unit {0})
fill_prog [] xs = ret tt
fill_prog (d ∷ ds) xs = cond (writable d) (then (put_bytes d.addr (take d.len xs)) (λ _. fill_prog ds (drop d.len xs))) (fill_prog ds xs)

-- counts go from 65,535 to 0
abbrev pub following : ℕ → ℕ
following k = (k + 1) % 65536

-- memory with the k-th used entry, head and length of the response, and then the used count
unfoldable pub used : Ring → (k head len : ℕ) → (memory : List ℕ) → List ℕ
used r k h n m = set_bytes (set_bytes m (entry_at r k) (two h ++ two n)) (used_at r) (two (following k))

-- how they are written: head, length, count
abbrev pub used_prog : Ring → (k head len : ℕ) → Prog (Unit {0})
used_prog r k h n = put pair (entry_at r k) h (put pair (entry_at r k + 2) n (put pair (used_at r) (following k) (ret tt)))

-- memory after the k-th chain, which begins with `head`, was answered with these bytes
unfoldable pub finished : Ring → (k head : ℕ) → List Descriptor → (response memory : List ℕ) → List ℕ
finished r k h ds xs m = used r k h (length xs) (filled ds xs m)

-- how it is finished: the response first, then that it is used
unfoldable pub finish_prog : Ring → (k head : ℕ) → List Descriptor → (response : List ℕ) → Prog (Unit {0})
finish_prog r k h ds xs = then (fill_prog ds xs) (λ _. used_prog r k h (length xs))

-- each part lies in a memory of n bytes
abbrev pub Within : (n : ℕ) → List Descriptor → Type 0
Within n ds = (k : ℕ) (d : Descriptor) → k < length ds → (slice_index_or ds k d).addr + (slice_index_or ds k d).len ≤ n
