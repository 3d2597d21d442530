-- A channel with another profile of unsolicited grants is lawful where that profile is.
use Rattle.std.proofs.Common.{◌≡◌, Bool, true, false, not, cond, ◌&&◌, List, [], ◌∷◌, drop, Some, None, ℕ}
use Rattle.std.proofs.Common.{Result, Ok, Err, refl, sym, subst, ◌∙◌}
use Rattle.std.specs.Prelude.{if◌then◌else◌, IfErr}
use Rattle.std.specs.Result.{result_ok}
use Rattle.minislots.specs.declared.config.Config.{Config}
use Rattle.minislots.specs.declared.config.ConfigFault.{ConfigFault}
use Rattle.minislots.specs.declared.config.ConfigFault.TheVariants.{Bursts}
use Rattle.minislots.specs.declared.bursts.Bursts.TheVariants.{Described}
use Rattle.minislots.specs.declared.bursts.Descriptors.{Descriptors}
use Rattle.minislots.specs.declared.bursts.Profile.{Profile}
use Rattle.minislots.specs.Bursts.{is_profile, are_descriptors}
use Rattle.minislots.specs.Config.{fields, first_wrong_of, first_wrong, IsLawful}
use Rattle.minislots.proofs.Bounds.{are_lawful, AreLawful}
use Rattle.bursts_command.specs.Numbers.{slots_of}

-- none of some fields is wrong where each is lawful
none_wrong : (c : Config) (some : List ConfigFault) → AreLawful c some → first_wrong_of c some ≡ None
none_wrong c [] lawful = refl
none_wrong c (field ∷ some) lawful = rw lawful.0 (none_wrong c some lawful.1)

-- a channel with Advanced PHY bursts, and this profile of unsolicited grants
abbrev pub with_unsolicited : Config → Descriptors → Profile → Config
with_unsolicited c d p = record c { bursts = Described (record d { unsolicited = p }); phy = 1 }

-- a test that passes, with another last part
last_decides : (front last other : Bool) → front && last ≡ true → front && other ≡ other
last_decides true last other h = refl
last_decides false last other h = absurd cc

-- the test of a field alone decides
field_decides : (b : Bool) (field : ConfigFault) → cond (not b) (Some field) None ≡ (if b then None else Some field)
field_decides true field = refl
field_decides false field = refl

-- the fields behind the bursts
abbrev later_fields : List ConfigFault
later_fields = drop 4 fields

-- they are lawful with other profiles of unsolicited grants, and with Advanced PHY bursts
later_lawful : (c : Config) (d : Descriptors) (p : Profile) → AreLawful (record c { bursts = Described d }) later_fields
    → AreLawful (with_unsolicited c d p) later_fields
later_lawful c d p of_frame =
    let (frame, (cycle, (requests, (polls, (lead, (short, of_grants)))))) = of_frame in
    let (quantum, (cap, (receivers, (calls, (start, of_backoffs))))) = of_grants in
    let (ranging_start, (ranging_end, (data_start, (data_end, (phy, of_flows))))) = of_backoffs in (
      frame,
      (
        cycle,
        (
          requests,
          (
            polls,
            (
              lead,
              (
                short,
                (
                  quantum,
                  (
                    cap,
                    (
                      receivers,
                      (
                        calls,
                        (
                          start,
                          (
                            ranging_start,
                            (ranging_end, (data_start, (data_end, (refl, of_flows)))),
                          ),
                        ),
                      ),
                    ),
                  ),
                ),
              ),
            ),
          ),
        ),
      ),
    )

-- the first wrong field of such a channel is that of its bursts, or none is wrong
pub first_wrong_with : (c : Config) (d : Descriptors) (p : Profile) → c.bursts ≡ Described d → IsLawful c
    → first_wrong (with_unsolicited c d p) ≡ (if is_profile p then None else Some Bursts)
unfolding first_wrong
first_wrong_with c d p is known =
    let lawful : IsLawful (record c { bursts = Described d }) =
    subst (λ b. IsLawful (record c { bursts = b })) is known in
    let (ticks, (bytes, (overhead, (described, rest)))) =
    are_lawful (record c { bursts = Described d }) fields lawful in
    let same : are_descriptors (record d { unsolicited = p }) ≡ is_profile p = last_decides _ _ _ described in
    let none = none_wrong (with_unsolicited c d p) later_fields (later_lawful c d p rest) in
    rw (ticks, same, none) (field_decides (is_profile p) Bursts)

-- a fault beside a profile that decides
no_slots : {X : Type 0} (b : Bool) (x : X) (fault : ConfigFault) → (if b then None else Some Bursts) ≡ Some fault
    → None ≡ (if b then Some x else None)
no_slots true x fault h = absurd cc
no_slots false x fault h = refl

-- a channel with another profile that is not lawful counts no minislots by it
pub none_by : (c : Config) (d : Descriptors) (p : Profile) (bytes : ℕ) (r : Result Config ConfigFault)
    → c.bursts ≡ Described d → IsLawful c → result_ok r ≡ None
    → IfErr r (λ fault. first_wrong (with_unsolicited c d p) ≡ Some fault) → None ≡ slots_of c.bursts p bytes
none_by c d p bytes (Ok checked) is known none fails = absurd cc
none_by c d p bytes (Err fault) is known none fails =
    rw is (no_slots (is_profile p) _ fault (sym (first_wrong_with c d p is known) ∙ fails))
