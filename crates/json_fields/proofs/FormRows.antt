-- Whether a reader takes the objects of a form and no others: worked on an object that has all of its members, on that
-- without each, and on that with a value under each key that must not stand there. And whether a number in it is lawful
-- from the least to the greatest that its member names.
use Rattle.std.specs.Prelude.{ℕ, ◌+◌, ◌-◌, ◌==◌, Bool, true, false, not, ◌&&◌, ◌||◌, if◌then◌else◌, List, [], ◌∷◌}
use Rattle.std.specs.Prelude.{bytes_eq, codes}
use Rattle.serde_json.specs.Data.{Data, null, number, unsigned, string, array, object, no_items, item}
use Rattle.serde_json.specs.Data.{Members, no_members, put}
use Rattle.json_fields.specs.declared.forms.Sort.{Sort}
use Rattle.json_fields.specs.declared.forms.Holds.{Holds}
use Rattle.json_fields.specs.declared.forms.Holds.TheVariants.{Number, Lawful, Numbers, Payload, Name, Object, Objects}
use Rattle.json_fields.specs.declared.forms.Holds.TheVariants.{Lists}
use Rattle.json_fields.specs.declared.forms.Missing.{Missing}
use Rattle.json_fields.specs.declared.forms.Missing.TheVariants as missing

-- a member, and a form
abbrev pub Member : Type 0
Member = record { now : List ℕ } × Holds × Missing

-- a row of the table of forms, as the code has it: a name and its members
abbrev pub Form : Type 0
Form = record { now : List ℕ } × record { now : List Member }

-- the payload of a MAP of one frame, in hexadecimal
abbrev payload : List ℕ
payload = codes "03010300000003200000032000000000fffc4000000180040001c028"

-- what may stand under a key, the greatest number where it is one, in an object of this name with these objects in it
abbrev pub taken : List ℕ → (Sort → Data) → Holds → Data
taken name inner (Number most) = number (unsigned most)
taken name inner (Lawful most low high) = number (unsigned most)
taken name inner (Numbers most) = array (item (number (unsigned most)) no_items)
taken name inner Payload = string payload
taken name inner Name = string name
taken name inner (Object sort) = inner sort
taken name inner Objects = array no_items
taken name inner (Lists most) = array (item (array no_items) no_items)

-- what may not, the next number where it is one
abbrev pub not_taken : Holds → Data
not_taken (Number most) = number (unsigned (most + 1))
not_taken (Lawful most low high) = number (unsigned (most + 1))
not_taken (Numbers most) = array (item (number (unsigned (most + 1))) no_items)
not_taken Payload = string []
not_taken Name = null
not_taken (Object sort) = null
not_taken Objects = null
not_taken (Lists most) = null

abbrev is_together : Missing → Bool
is_together missing.Fault = false
is_together missing.UnlessBursts = false
is_together missing.UnlessSlots = false
is_together missing.UnlessBytes = false
is_together missing.Long = false
is_together missing.Nothing = false
is_together missing.Together = true
is_together (missing.Number n) = false

abbrev may_be_missing : Missing → Bool
may_be_missing missing.Fault = false
may_be_missing missing.UnlessBursts = false
may_be_missing missing.UnlessSlots = false
may_be_missing missing.UnlessBytes = false
may_be_missing missing.Long = true
may_be_missing missing.Nothing = true
may_be_missing missing.Together = true
may_be_missing (missing.Number n) = true

-- whether a member goes where another one does
abbrev goes_with : Member → Member → Bool
goes_with m n = bytes_eq m.0.now n.0.now || (is_together m.2 && is_together n.2)

-- the members of a form with their values, all or all but those that go with one
abbrev pub all_of : (Holds → Data) → List Member → Members
all_of value [] = no_members
all_of value (m ∷ ms) = put m.0.now (value m.1) (all_of value ms)

abbrev all_but : (Holds → Data) → Member → List Member → Members
all_but value m [] = no_members
all_but value m (n ∷ ns) = if goes_with m n then all_but value m ns else put n.0.now (value n.1) (all_but value m ns)

-- the members but the one of this key
abbrev without : List ℕ → List Member → List Member
without key [] = []
without key (n ∷ ns) = if bytes_eq key n.0.now then without key ns else n ∷ without key ns

-- the members beside which one is read: all but the one that stands in its place
abbrev read_beside : Missing → List Member → List Member
read_beside missing.Fault ms = ms
read_beside missing.UnlessBursts ms = without (codes "bursts") ms
read_beside missing.UnlessSlots ms = ms
read_beside missing.UnlessBytes ms = ms
read_beside missing.Long ms = ms
read_beside missing.Nothing ms = ms
read_beside missing.Together ms = ms
read_beside (missing.Number n) ms = ms

-- whether an object of these members is read without one of them exactly where that may be missing, and is not with
-- what may not stand under its key
abbrev agrees : (Data → Bool) → (Holds → Data) → List Member → Member → Bool
agrees is_read value ms m =
    (if is_read (object (all_but value m ms)) then may_be_missing m.2 else not (may_be_missing m.2))
    && not (is_read (object (put m.0.now (not_taken m.1) (all_of value ms))))

-- and whether it is read without it, and with what may not stand there, where another member stands in its place
abbrev gives_way : (Data → Bool) → (Holds → Data) → List Member → Member → Missing → Bool
gives_way is_read value ms m missing.Fault = true
gives_way is_read value ms m missing.UnlessBursts =
    is_read (object (all_but value m ms)) && is_read (object (put m.0.now (not_taken m.1) (all_of value ms)))
gives_way is_read value ms m missing.UnlessSlots = true
gives_way is_read value ms m missing.UnlessBytes = true
gives_way is_read value ms m missing.Long = true
gives_way is_read value ms m missing.Nothing = true
gives_way is_read value ms m missing.Together = true
gives_way is_read value ms m (missing.Number n) = true

abbrev each_agrees : (Data → Bool) → (Holds → Data) → List Member → List Member → Bool
each_agrees is_read value ms [] = true
each_agrees is_read value ms (n ∷ ns) = agrees is_read value (read_beside n.2 ms) n
    && gives_way is_read value ms n n.2 && each_agrees is_read value ms ns

-- whether the objects of a form are read, and no others
abbrev pub takes_form : (Data → Bool) → (Sort → Data) → Form → Bool
takes_form is_read inner f =
    is_read (object (all_of (taken f.0.now inner) f.1.now))
    && each_agrees is_read (taken f.0.now inner) f.1.now f.1.now

-- whether those of each form are
abbrev pub takes_forms : (Data → Bool) → (Sort → Data) → List Form → Bool
takes_forms is_read inner [] = true
takes_forms is_read inner (f ∷ fs) = takes_form is_read inner f && takes_forms is_read inner fs

-- these forms where the member of this key, in whose place another stands, is left out
abbrev pub leaving_out : List ℕ → List Form → List Form
leaving_out key [] = []
leaving_out key (f ∷ fs) = (f.0, record { now = without key f.1.now }) ∷ leaving_out key fs

-- what may stand under a key, the least lawful number where it is one of a burst descriptor
abbrev pub least : (Sort → Data) → Holds → Data
least inner (Number most) = number (unsigned 0)
least inner (Lawful most low high) = number (unsigned low)
least inner (Numbers most) = taken [] inner (Numbers most)
least inner Payload = taken [] inner Payload
least inner Name = taken [] inner Name
least inner (Object sort) = inner sort
least inner Objects = taken [] inner Objects
least inner (Lists most) = taken [] inner (Lists most)

-- whether the numbers that are lawful begin with the least and end with the greatest one
abbrev are_bounds : (ℕ → Bool) → Holds → Bool
are_bounds is_lawful (Number most) = true
are_bounds is_lawful (Lawful most low high) = is_lawful low && (low == 0 || not (is_lawful (low - 1)))
    && is_lawful high && not (is_lawful (high + 1))
are_bounds is_lawful (Numbers most) = true
are_bounds is_lawful Payload = true
are_bounds is_lawful Name = true
are_bounds is_lawful (Object sort) = true
are_bounds is_lawful Objects = true
are_bounds is_lawful (Lists most) = true

abbrev each_is_bound : (Data → Bool) → (Holds → Data) → List Member → List Member → Bool
each_is_bound is_lawful value ms [] = true
each_is_bound is_lawful value ms (n ∷ ns) =
    are_bounds (λ number_there. is_lawful (object (put n.0.now (number (unsigned number_there)) (all_of value ms)))) n.1
    && each_is_bound is_lawful value ms ns

-- whether the numbers in objects of each form are lawful in their bounds, where the others are the least
abbrev pub have_bounds : (Data → Bool) → (Sort → Data) → List Form → Bool
have_bounds is_lawful inner [] = true
have_bounds is_lawful inner (f ∷ fs) = each_is_bound is_lawful (least inner) f.1.now f.1.now
    && have_bounds is_lawful inner fs

-- an object of the first of these forms
abbrev pub worked_on : (Holds → Data) → List Form → Data
worked_on value [] = null
worked_on value (f ∷ fs) = object (all_of value f.1.now)
