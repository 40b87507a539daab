-- Programs that read and write guest memory one byte or one number at a time, and what one does over a memory of any kind.
use Rattle.std.specs.Prelude.{ℕ, zero, suc, ◌+◌, List, [], ◌∷◌}

-- what one step reads or writes: a byte, or a number of two bytes
pub data Wide : Type 0 where
  byte : Wide
  pair : Wide

-- a program that ends with an A: it ends, or reads and goes on by what it found, or writes and goes on
pub data Prog (A : Type 0) : Type 0 where
  ret : A → Prog A
  get : Wide → (at : ℕ) → (ℕ → Prog A) → Prog A
  put : Wide → (at value : ℕ) → Prog A → Prog A

-- one program and then another, by what the first ends with
unfoldable pub then : {A B : Type 0} → Prog A → (A → Prog B) → Prog B
then (ret x) k = k x
then (get w a j) k = get w a (λ v. then (j v) k)
then (put w a v p) k = put w a v (then p k)

-- how a memory of some kind acts: what a read finds, what the read leaves, and what a write leaves
pub record Acts (M : Type 0) : Type 0 where
  pub reads : M → Wide → (at : ℕ) → ℕ
  pub after : M → Wide → (at : ℕ) → M
  pub wrote : M → Wide → (at value : ℕ) → M

-- what a program ends with over a memory
abbrev pub ends : {M A : Type 0} → Acts M → Prog A → M → A
ends acts (ret x) m = x
ends acts (get w a k) m = ends acts (k (acts.reads m w a)) (acts.after m w a)
ends acts (put w a v p) m = ends acts p (acts.wrote m w a v)

-- what a program leaves of a memory
abbrev pub leaves : {M A : Type 0} → Acts M → Prog A → M → M
leaves acts (ret x) m = m
leaves acts (get w a k) m = leaves acts (k (acts.reads m w a)) (acts.after m w a)
leaves acts (put w a v p) m = leaves acts p (acts.wrote m w a v)

-- the bytes from an address on, so many, read one after the other
unfoldable pub get_bytes : (n at : ℕ) → Prog (List ℕ)
get_bytes zero a = ret []
get_bytes (suc n) a = get byte a (λ x. then (get_bytes n (a + 1)) (λ xs. ret (x ∷ xs)))

-- bytes from an address on, written one after the other
unfoldable pub put_bytes : (at : ℕ) → List ℕ → Prog (Unit {0})
put_bytes a [] = ret tt
put_bytes a (x ∷ xs) = put byte a x (put_bytes (a + 1) xs)
