-- Each object that is looked into stands one less deep.
use Rattle.file_words.proofs.notes.Notes.+tell_object.Given as goal

abbrev pub decreases-tell_object : goal.decreases-tell_object
decreases-tell_object l = l.depth
