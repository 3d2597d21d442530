-- What is left to read of a file.
use Rattle.std.specs.Prelude.{ℕ, List, Option}
use Rattle.journal_file.specs.declared.reading.Reading.{Reading}
use Rattle.journal_file.specs.Store.{rest_at}

-- the bytes from the place on up to which it was read
abbrev pub left_of : {S : Type 0} → (S → Option (List ℕ)) → Reading S → Option (List ℕ)
left_of contents r = rest_at r.at (contents r.store.now)
