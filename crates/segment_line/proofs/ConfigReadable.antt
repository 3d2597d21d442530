-- The JSON value of a configuration is read again in its text: its numbers fit 64 bits, and its keys are in order.
use Rattle.std.proofs.Common.{refl}
use Rattle.std.proofs.Common.{inl, inr}
use Rattle.std.specs.Prelude.{codes}
use Rattle.serde_json.specs.Data.{Members, object, member}
use Rattle.minislots.specs.declared.bursts.Bursts.{Bursts}
use Rattle.minislots.specs.declared.bursts.Bursts.TheVariants.{Uniform, Described}
use Rattle.minislots.specs.declared.bursts.Descriptors.{Descriptors}
use Rattle.minislots.specs.declared.bursts.Profile.{Profile}
use Rattle.minislots.specs.declared.config.Config.{Config}
use Rattle.history_writing.specs.Json.{count}
use Rattle.history_writing.specs.HistoryText.{profile_data, descriptors_data, front_members, back_members}
use Rattle.history_writing.specs.HistoryText.{members_with, config_data}
use Rattle.history_writing.specs.Fits.{ProfileFits, BurstsFit, ConfigFits}
use Rattle.state_text.proofs.FlowText.{of_byte, of_word, optional_readable}
use Rattle.state_text.proofs.Readable.{IsReadable, MembersReadable}
use Rattle.segment_line.proofs.ConfigPlaces.{in_order}
use Rattle.segment_line.proofs.ConfigBack.{unsolicited_stands}

profile_readable : (p : Profile) → ProfileFits p → IsReadable (profile_data p)
unfolding profile_data
profile_readable p fits = (
  refl,
  (
    refl,
    of_word p.bits fits.bits,
    (
      refl,
      of_word p.guard fits.guard,
      (
        refl,
        of_word p.information fits.information,
        (
          refl,
          of_word p.parity fits.parity,
          (
            refl,
            of_word p.preamble fits.preamble,
            (refl, of_word p.shortened fits.shortened, tt),
          ),
        ),
      ),
    ),
  ),
)

descriptors_readable : (d : Descriptors) → BurstsFit (Described d) → IsReadable (descriptors_data d)
unfolding descriptors_data
descriptors_readable d fits =
    let long = profile_readable d.long fits.2 in
    let short = profile_readable d.short fits.1 in
    let symbols = of_word d.symbols fits.0 in
    elim (unsolicited_stands d) [
      | inl as_long ↦ rw as_long.0 (refl, (refl, long, (refl, short, (refl, symbols, tt))))
      | inr stands ↦
          let unsolicited = profile_readable d.unsolicited fits.3 in
          rw stands (refl, (refl, long, (refl, short, (refl, symbols, (refl, unsolicited, tt)))))
    ]

front_readable : (c : Config) (behind : Members) → ConfigFits c → MembersReadable behind
    → MembersReadable (front_members c behind)
front_readable c behind fits readable = (
  refl,
  of_word c.calls fits.calls,
  (
    refl,
    of_byte c.channel fits.channel,
    (
      refl,
      of_word c.cycle fits.cycle,
      (
        refl,
        of_byte c.data_end fits.data_end,
        (
          refl,
          of_byte c.data_start fits.data_start,
          optional_readable 64 (codes "flows") c.flows _ refl (of_word c.flows fits.flows) (
            refl,
            of_word c.frame fits.frame,
            (
              refl,
              of_word c.grant_cap fits.grant_cap,
              (
                refl,
                of_word c.lead fits.lead,
                optional_readable 0 (codes "open_idle") c.open_idle _ refl (of_byte c.open_idle fits.open_idle)
                    readable,
              ),
            ),
          ),
        ),
      ),
    ),
  ),
)

back_readable : (c : Config) → ConfigFits c → MembersReadable (back_members c)
back_readable c fits =
    optional_readable 64 (codes "pending") c.pending _ refl (of_word c.pending fits.pending)
    (optional_readable 40 (codes "periodic") c.periodic _ refl (of_word c.periodic fits.periodic) (
      refl,
      of_byte c.phy fits.phy,
      (
        refl,
        of_word c.poll_slots fits.poll_slots,
        (
          refl,
          of_word c.quantum fits.quantum,
          (
            refl,
            of_byte c.ranging_end fits.ranging_end,
            (
              refl,
              of_byte c.ranging_start fits.ranging_start,
              (
                refl,
                of_byte c.receivers fits.receivers,
                (
                  refl,
                  of_word c.req_slots fits.req_slots,
                  optional_readable 0 (codes "settle") c.settle _ refl (of_word c.settle fits.settle) (
                    refl,
                    of_word c.short_max fits.short_max,
                    (
                      refl,
                      fits.start,
                      (
                        refl,
                        of_word c.ticks fits.ticks,
                        (refl, of_byte c.ucd_count fits.ucd_count, tt),
                      ),
                    ),
                  ),
                ),
              ),
            ),
          ),
        ),
      ),
    ))

members_readable : (c : Config) (bursts : Bursts) → ConfigFits c → BurstsFit bursts
    → IsReadable (object (members_with c bursts))
members_readable c (Uniform bytes_per_slot overhead) fits small =
    let behind = member (codes "overhead") (count overhead) (back_members c) in (
      in_order c (Uniform bytes_per_slot overhead),
      (
        refl,
        of_word bytes_per_slot small.0,
        front_readable c behind fits (refl, of_word overhead small.1, back_readable c fits),
      ),
    )
members_readable c (Described d) fits small = (
  in_order c (Described d),
  (refl, descriptors_readable d small, front_readable c (back_members c) fits (back_readable c fits)),
)

-- a configuration is read again in its text
pub config_readable : (c : Config) → ConfigFits c → IsReadable (config_data c)
unfolding config_data
config_readable c fits = members_readable c c.bursts fits fits.bursts
