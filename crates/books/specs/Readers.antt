-- What a heap that is lent to be read holds, and the alignment that its books say.
-- Assumes nothing.
use Rattle.std.specs.Prelude.{ℕ}
use Rattle.rules.specs.Books.{Heap, alignment_of}
use Rattle.rules.specs.Outcome.{heap_of}
use Rattle.books.specs.declared.reader.Reader.{Reader}

abbrev pub heap_in : Reader → Heap
heap_in r = heap_of r.memory.now r.books.now r.map.now

abbrev pub alignment_in : Reader → ℕ
alignment_in r = alignment_of r.shape.edition
