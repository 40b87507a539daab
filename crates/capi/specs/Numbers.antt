-- What the C functions answer, as numbers.
use Rattle.std.specs.Prelude.{◌≡◌, ℕ, ◌+◌, ◌*◌, cond, List, Option, Some, None}
use Rattle.vring.specs.Rings.{Ring}
use Rattle.chains.specs.Descriptors.{descriptor_at}
use Rattle.serving.specs.Entries.{state_in, refusal, ServeSays, Promised, AnewSays, part_ok}
use Rattle.serving.specs.declared.done.Done.{Done}
use Rattle.serving.specs.declared.done.Done.TheVariants.{Served, Stopped, Anew, Refused}
use Rattle.serving.specs.declared.part.Part.{Part}
use Rattle.capi.specs.declared.structs.DovrelziDone.{DovrelziDone}
use Rattle.capi.specs.declared.structs.DovrelziPart.{DovrelziPart}

-- 0 and how many chains wait, 1 that the device has stopped, 2 that it was reset, 3 and the number of the refusal
abbrev pub done_numbers : Done → DovrelziDone
done_numbers (Served n) = record { kind = 0; value = n }
done_numbers Stopped = record { kind = 1; value = 0 }
done_numbers Anew = record { kind = 2; value = 0 }
done_numbers (Refused n) = record { kind = 3; value = n }

-- what serving answers: the numbers of what the entry answers, of which everything holds that the entry promises
pub record ServeNumbers (r : Ring) (m s k : List ℕ) (n : ℕ) (d : DovrelziDone) (m₁ s₁ k₁ : List ℕ) : Type 0 where
  pub answer : Done
  pub numbers : d ≡ done_numbers answer
  pub does : ServeSays (refusal r m s k n) r m s k n answer m₁ s₁ k₁
  pub promises : refusal r m s k n ≡ 0 → Promised r (state_in m s k) n answer (state_in m₁ s₁ k₁)

-- what a reset answers
pub record AnewNumbers (s : List ℕ) (d : DovrelziDone) (s₁ : List ℕ) : Type 0 where
  pub answer : Done
  pub numbers : d ≡ done_numbers answer
  pub does : AnewSays s answer s₁

-- the part that descriptor i names: 1, its address and its length, or three times 0 where there is none
unfoldable pub part_numbers : Ring → (memory : List ℕ) → (i : ℕ) → DovrelziPart
part_numbers r m i =
    cond (part_ok r m i) (record { present = 1; at = (descriptor_at m (r.base + 8 * i)).addr; len = (descriptor_at m (r.base + 8 * i)).len }) (record { present = 0; at = 0; len = 0 })

-- a part's numbers, or three times 0 for none
abbrev pub place_numbers : Option Part → DovrelziPart
place_numbers (Some p) = record { present = 1; at = p.at; len = p.len }
place_numbers None = record { present = 0; at = 0; len = 0 }
