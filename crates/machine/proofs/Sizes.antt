-- The sizes that a ring may have.
use Rattle.std.proofs.Common.{◌≡◌, ℕ, ◌%◌, ◌≤◌, true, ◌&&◌, eqb, leb}
use Rattle.std.proofs.lemmas.Bool.{and_parts, leb-true}
use Rattle.vring.specs.Rings.{size_ok}

pub size_few : (s : ℕ) → size_ok s ≡ true → s ≤ 64
unfolding size_ok
size_few s e = leb-true s 64 (and_parts (leb s 64) (eqb (65536 % s) 0) (and_parts (leb 1 s) (leb s 64 && eqb (65536 % s) 0) e).1).0
