-- What the calls of the system on a journal's file are called.
use Rattle.std.specs.Prelude.{ℕ, List, codes}
use Rattle.journal_file.specs.declared.failed.Operation.{Operation}
use Rattle.journal_file.specs.declared.failed.Operation.TheVariants.{Open, Stat, Lock, Read, Write, Truncate, Sync}

-- the word for an operation
abbrev pub operation_words : Operation → List ℕ
operation_words Open = codes "open"
operation_words Stat = codes "stat"
operation_words Lock = codes "lock"
operation_words Read = codes "read"
operation_words Write = codes "write"
operation_words Truncate = codes "truncate"
operation_words Sync = codes "sync"
