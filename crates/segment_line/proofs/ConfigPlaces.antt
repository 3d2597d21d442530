-- The members of a configuration by their places, some of which may be left out: what stands under a key, and that they
-- are in the order of their keys.
use Rattle.std.proofs.Common.{◌≡◌, ℕ, List, [], ◌∷◌, Option}
use Rattle.std.proofs.Common.{refl, ap, ◌∙◌}
use Rattle.std.specs.Prelude.{codes}
use Rattle.serde_json.specs.Data.{Data, no_members}
use Rattle.serde_json.specs.Find.{get_member}
use Rattle.minislots.specs.declared.bursts.Bursts.{Bursts}
use Rattle.minislots.specs.declared.bursts.Bursts.TheVariants.{Uniform, Described}
use Rattle.minislots.specs.declared.bursts.Descriptors.{Descriptors}
use Rattle.minislots.specs.declared.config.Config.{Config}
use Rattle.history_writing.specs.Json.{count}
use Rattle.history_writing.specs.HistoryText.{descriptors_data, members_with}
use Rattle.state_text.proofs.Ordered.{put_each}
use Rattle.state_text.proofs.Parts.{Part, always, unless, laid, found_in, found-laid, sorted}

-- the places of a configuration
abbrev front_parts : Config → List Part → List Part
front_parts c behind =
    always (codes "calls") (count c.calls) ∷ always (codes "channel") (count c.channel)
    ∷ always (codes "cycle") (count c.cycle) ∷ always (codes "data_end") (count c.data_end)
    ∷ always (codes "data_start") (count c.data_start) ∷ unless 64 (codes "flows") c.flows
    ∷ always (codes "frame") (count c.frame) ∷ always (codes "grant_cap") (count c.grant_cap)
    ∷ always (codes "lead") (count c.lead) ∷ unless 0 (codes "open_idle") c.open_idle ∷ behind

abbrev back_parts : Config → List Part
back_parts c =
    unless 64 (codes "pending") c.pending ∷ unless 40 (codes "periodic") c.periodic
    ∷ always (codes "phy") (count c.phy) ∷ always (codes "poll_slots") (count c.poll_slots)
    ∷ always (codes "quantum") (count c.quantum) ∷ always (codes "ranging_end") (count c.ranging_end)
    ∷ always (codes "ranging_start") (count c.ranging_start) ∷ always (codes "receivers") (count c.receivers)
    ∷ always (codes "req_slots") (count c.req_slots) ∷ unless 0 (codes "settle") c.settle
    ∷ always (codes "short_max") (count c.short_max) ∷ always (codes "start") (count c.start)
    ∷ always (codes "ticks") (count c.ticks) ∷ always (codes "ucd_count") (count c.ucd_count) ∷ []

abbrev pub parts : Config → Bursts → List Part
parts c (Uniform bytes overhead) = always (codes "bytes_per_slot") (count bytes)
    ∷ front_parts c (always (codes "overhead") (count overhead) ∷ back_parts c)
parts c (Described d) = always (codes "bursts") (descriptors_data d) ∷ front_parts c (back_parts c)

laid-parts : (c : Config) (b : Bursts) → members_with c b ≡ laid (parts c b)
laid-parts c (Uniform bytes overhead) = refl
laid-parts c (Described d) = refl

-- the members are in the order of their keys, whichever are left out
pub in_order : (c : Config) (b : Bursts) → put_each (members_with c b) no_members ≡ members_with c b
in_order c (Uniform bytes overhead) = sorted (parts c (Uniform bytes overhead)) refl
in_order c (Described d) = sorted (parts c (Described d)) refl

-- what stands under a key of a configuration
pub found_there : (c : Config) (b : Bursts) (key : List ℕ)
    → get_member key (members_with c b) ≡ found_in key (parts c b)
found_there c b key = ap (get_member key) (laid-parts c b) ∙ found-laid key (parts c b)

-- under a key this stands, whatever the bursts are
abbrev pub Has : Config → List ℕ → Option Data → Type 0
Has c key x = ((bytes overhead : ℕ) → found_in key (parts c (Uniform bytes overhead)) ≡ x)
    × ((d : Descriptors) → found_in key (parts c (Described d)) ≡ x)

-- and it is found there
pub has : (c : Config) (b : Bursts) (key : List ℕ) (x : Option Data) → Has c key x
    → get_member key (members_with c b) ≡ x
has c (Uniform bytes overhead) key x there =
    found_there c (Uniform bytes overhead) key ∙ there.0 bytes overhead
has c (Described d) key x there = found_there c (Described d) key ∙ there.1 d
