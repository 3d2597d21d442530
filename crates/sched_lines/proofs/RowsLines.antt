-- Worked lines: one of each kind.
use Rattle.std.proofs.Common.{◌≡◌, [], ◌∷◌, codes, None, Some, Ok, Err, refl}
use Rattle.std.specs.Fmt.{digits}
use Rattle.hex.proofs.OnLiterals.{hex_on_literals}
use Rattle.map_codec.specs.WireMap.{header, spelling}
use Rattle.sched_calls.specs.declared.spec.FlowFault.TheVariants.{Priority}
use Rattle.sched_calls.proofs.BaseMaps.{first_map}
use Rattle.sched_calls.specs.declared.reply.Refusal.TheVariants.{BadSid, BadFlow, Acked, NotLate}
use Rattle.sched_calls.specs.declared.reply.Refusal.TheVariants.{OtherKind, NotUnsolicited, TooShort}
use Rattle.sched_calls.specs.declared.reply.Reply.TheVariants.{Admitted, Changed, Built, Skipped, Flow, Refused}
use Rattle.sched_calls.specs.declared.reply.Unrecorded.TheVariants.{HistoryFull, Memory}
use Rattle.sched_lines.specs.Line.{number_text, line_of}
use Rattle.sched_lines.specs.Meaning.{meaning_of, explained_line}

-- an admission without and with a place
the_line_of_an_admission : line_of (Ok (Admitted None)) ≡ codes "admitted\n"
unfolding line_of
the_line_of_an_admission = refl

the_line_of_a_placement : line_of (Ok (Admitted (Some (record { reference = 804; starts = 4 ∷ 19 ∷ [] }))))
    ≡ codes "admitted 804 4 19\n"
unfolding line_of number_text digits
the_line_of_a_placement = refl

-- a change without and with a place
the_line_of_a_change : line_of (Ok (Changed None)) ≡ codes "changed\n"
unfolding line_of
the_line_of_a_change = refl

the_line_of_a_new_placement : line_of (Ok (Changed (Some (record { reference = 844; starts = 4 ∷ 19 ∷ [] }))))
    ≡ codes "changed 844 4 19\n"
unfolding line_of number_text digits
the_line_of_a_new_placement = refl

-- a MAP
the_line_of_a_map : line_of (Ok (Built first_map)) ≡ codes
    "map 03010300000003200000032000000000fffc4000000180040001c028\n"
unfolding line_of header spelling hex_on_literals
the_line_of_a_map = refl

-- a skip, and the bytes of a flow: asked, granted, outstanding
the_line_of_a_skip : line_of (Ok (Skipped 880)) ≡ codes "skipped 880\n"
unfolding line_of number_text digits
the_line_of_a_skip = refl

the_line_of_a_flow : line_of (Ok (Flow 3000 1616 1384)) ≡ codes "flow 3000 1616 1384\n"
unfolding line_of number_text digits
the_line_of_a_flow = refl

-- refusals: the first, one with a reason, one in the middle, and the last
the_line_of_a_bad_sid : line_of (Ok (Refused BadSid)) ≡ codes "refused 1\n"
unfolding line_of number_text digits
the_line_of_a_bad_sid = refl

the_line_of_a_bad_flow : line_of (Ok (Refused (BadFlow Priority))) ≡ codes "refused 3 5\n"
unfolding line_of number_text digits
the_line_of_a_bad_flow = refl

the_line_of_an_old_request : line_of (Ok (Refused (Acked 840))) ≡ codes "refused 11 840\n"
unfolding line_of number_text digits
the_line_of_an_old_request = refl

the_line_of_an_early_skip : line_of (Ok (Refused (NotLate 880))) ≡ codes "refused 17 880\n"
unfolding line_of number_text digits
the_line_of_an_early_skip = refl

the_line_of_another_kind : explained_line (Ok (Refused OtherKind))
    ≡ codes "refused 21  # another kind: a change leaves the kind of a flow as it is\n"
unfolding explained_line meaning_of number_text digits
the_line_of_another_kind = refl

the_line_of_a_rest_of_another_flow : explained_line (Ok (Refused NotUnsolicited))
    ≡ codes "refused 22  # only a flow of unsolicited grants rests and wakes\n"
unfolding explained_line meaning_of number_text digits
the_line_of_a_rest_of_another_flow = refl

the_line_of_a_short_grant : explained_line (Ok (Refused TooShort))
    ≡ codes "refused 23  # too short: its grant has fewer minislots than a poll\n"
unfolding explained_line meaning_of number_text digits
the_line_of_a_short_grant = refl

-- a call that is not recorded
the_line_of_a_full_history : line_of (Err HistoryFull) ≡ codes "history full\n"
unfolding line_of
the_line_of_a_full_history = refl

the_line_of_no_memory : line_of (Err Memory) ≡ codes "out of memory\n"
unfolding line_of
the_line_of_no_memory = refl
