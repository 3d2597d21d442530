-- What was changed of the file of a journal.
use Rattle.std.specs.Prelude.{◌==◌, ◌&&◌, if◌then◌else◌, Option, None, Some}
use Rattle.journal_file.specs.declared.change.Change.{Change}
use Rattle.journal_file.specs.declared.change.Change.TheVariants.{Length, Name}
use Rattle.journal_file.specs.declared.change.Seen.{Seen}

-- the name of a file that was left so has to lead to it
abbrev pub change_of_name : Seen → Option Seen → Option Change
change_of_name left None = Some Name
change_of_name left (Some named) =
    if (named.device == left.device) && (named.inode == left.inode) then None else Some Name

-- a file that was left so, and is found so now, has to have as many bytes, and its name to lead to it
abbrev pub change_of : Seen → Seen → Option Seen → Option Change
change_of left found named =
    if found.len == left.len then change_of_name left named else Some (Length found.len left.len)
