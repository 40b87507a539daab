-- Memory as it stands: reads find what is there, and nobody else writes.
use Rattle.std.specs.Prelude.{ℕ, ◌+◌, ◌/◌, ◌%◌, List, slice_index, slice_set}
use denote.Ref.{at_last}
use Rattle.vring.specs.Words.{word}
use Rattle.vring.specs.Programs.{Acts, Wide, byte, pair}
use Rattle.vring.specs.declared.plain.Plain.{Plain}

abbrev pub plain_reads : List ℕ → Wide → (at : ℕ) → ℕ
plain_reads m byte a = slice_index m a
plain_reads m pair a = word m a

abbrev pub plain_wrote : List ℕ → Wide → (at value : ℕ) → List ℕ
plain_wrote m byte a v = slice_set m a v
plain_wrote m pair a v = slice_set (slice_set m a (v % 256)) (a + 1) (v / 256 % 256)

-- a list of bytes
abbrev pub plain : Acts (List ℕ)
plain = record { reads = plain_reads; after = λ m w a. m; wrote = plain_wrote }

-- the same bytes, lent
abbrev pub lent : Acts Plain
lent = record {
  reads = λ s w a. plain_reads s.bytes.now w a;
  after = λ s w a. s;
  wrote = λ s w a v. record { bytes = at_last s.bytes (plain_wrote s.bytes.now w a v) };
}
