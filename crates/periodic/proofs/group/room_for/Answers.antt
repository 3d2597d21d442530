-- The flows of the group that gets room stay.
use Rattle.std.proofs.Common.{refl}
use Rattle.periodic.proofs.Among.{flows-kept}
use Rattle.periodic.proofs.Filled.{all-others, remove-set}
use Rattle.periodic.proofs.Grouped.{sound-kept}
use Rattle.periodic.proofs.group.room_for.Goals as goal

pub returns-in_err-reserve-clause-same : goal.returns-in_err-reserve-clause-same
returns-in_err-reserve-clause-same c =
    let stands = rw c.deref.ensures.value at c.in-Some.ensures in
    flows-kept c.args.groups.now.items c.in-Some.place c.index_mut.result.now _ stands.within
    c.index_mut.ensures.value c.reserve.ensures.items

pub returns-in_err-reserve-clause-sound : goal.returns-in_err-reserve-clause-sound
returns-in_err-reserve-clause-sound c = λ config sound.
    let stands = rw c.deref.ensures.value at c.in-Some.ensures in
    sound-kept config c.args.groups.now.items c.in-Some.place c.index_mut.result.now _ stands.within
    c.index_mut.ensures.value refl refl c.reserve.ensures.items sound

pub returns-clause-same : goal.returns-clause-same
returns-clause-same c =
    let stands = rw c.deref.ensures.value at c.in-Some.ensures in
    flows-kept c.args.groups.now.items c.in-Some.place c.index_mut.result.now _ stands.within
    c.index_mut.ensures.value c.reserve.ensures.items

pub returns-clause-sound : goal.returns-clause-sound
returns-clause-sound c = λ config sound.
    let stands = rw c.deref.ensures.value at c.in-Some.ensures in
    sound-kept config c.args.groups.now.items c.in-Some.place c.index_mut.result.now _ stands.within
    c.index_mut.ensures.value refl refl c.reserve.ensures.items sound

pub returns-clause-filled : goal.returns-clause-filled
returns-clause-filled c = λ filled.
    rw (remove-set c.args.groups.now.items c.in-Some.place _)
    (all-others _ c.args.groups.now.items c.in-Some.place filled)
