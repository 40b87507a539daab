-- A worked example: a memory of 65 bytes with a ring of two descriptors from 0 on.
use Rattle.std.specs.Prelude.{◌≡◌, ℕ, zero, suc, false, List, [], ◌∷◌, ◌++◌, replicate}
use Rattle.vring.specs.Rings.{Ring}
use Rattle.model.specs.Serving.{State, serve}
use Rattle.model.specs.Promises.{Sound, Orderly}

-- the numbers from k on, so many
abbrev pub count_up : (k n : ℕ) → List ℕ
count_up k zero = []
count_up k (suc n) = k ∷ count_up (suc k) n

-- descriptor 0: two readable bytes at 40, and 1 follows; descriptor 1: seventeen writable bytes at 48
abbrev pub descriptors : List ℕ
descriptors = 40 ∷ 0 ∷ 2 ∷ 0 ∷ 1 ∷ 0 ∷ 1 ∷ 0 ∷ 48 ∷ 0 ∷ 17 ∷ 0 ∷ 2 ∷ 0 ∷ 0 ∷ 0 ∷ []

-- one chain is available, whose head is 0
abbrev pub available : List ℕ
available = 1 ∷ 0 ∷ 0 ∷ 0 ∷ 0 ∷ 0 ∷ []

-- the request is 0 1, at 40
abbrev pub memory_with : (used response : List ℕ) → List ℕ
memory_with u x = descriptors ++ available ++ u ++ replicate 8 0 ++ (0 ∷ 1 ∷ []) ++ replicate 6 0 ++ x

abbrev pub the_ring : Ring
the_ring = record { size = 2; base = 0 }

abbrev pub the_state : State
the_state = record { memory = memory_with (replicate 10 0) (replicate 17 0); device = record { kept = count_up 0 32; served = 0; stopped = false } }

-- served: the used count is 1, the entry says head 0 and length 17, and the response is 0 and the second block
abbrev pub ExampleServed : Type 0
ExampleServed =
    serve the_ring the_state
    ≡ record {
      memory = memory_with (1 ∷ 0 ∷ 0 ∷ 0 ∷ 17 ∷ 0 ∷ 0 ∷ 0 ∷ 0 ∷ 0 ∷ []) (0 ∷ count_up 16 16);
      device = record { kept = count_up 0 32; served = 1; stopped = false };
    }

-- its guest keeps to the rules: what is promised of such a guest is promised of somebody
abbrev pub ExampleOrderly : Type 0
ExampleOrderly = Sound the_ring the_state × Orderly the_ring the_state 1 (λ _. record { addr = 40; len = 2; flags = 1 } ∷ record { addr = 48; len = 17; flags = 2 } ∷ [])
