-- What a chain asks, in memory and as it is gathered.
use Rattle.std.specs.Prelude.{ℕ, ◌-◌, min, cond, List, [], ◌∷◌, ◌++◌, take, drop}
use Rattle.vring.specs.Programs.{Prog, ret, then, get_bytes}
use Rattle.chains.specs.Descriptors.{writable}
use Rattle.chains.specs.declared.descriptor.Descriptor.{Descriptor}

-- the request: the bytes of the readable descriptors, in order
unfoldable pub request : (memory : List ℕ) → List Descriptor → List ℕ
request m [] = []
request m (d ∷ ds) = cond (writable d) (request m ds) (take d.len (drop d.addr m) ++ request m ds)

-- how its first bytes are gathered, at most so many
unfoldable pub request_prog : (most : ℕ) → List Descriptor → Prog (List ℕ)
request_prog n [] = ret []
request_prog n (d ∷ ds) =
    cond (writable d) (request_prog n ds)
    (then (get_bytes (min d.len n) d.addr) (λ xs. then (request_prog (n - min d.len n) ds) (λ ys. ret (xs ++ ys))))
